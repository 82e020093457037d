-- Ranges of whole numbers: emptiness, union, and a range through a placement are exact. The idea: a placement takes each
-- axis from one axis, so that of the eight placed corners only two values occur along an axis, those of the least and of the
-- greatest corner; what the code adds along the other two axes is 0. The least and the greatest are told by one proof.
use mathlib.Core.Path.{◌≡◌, refl, sym, ap, ◌∙◌, subst}
use mathlib.Core.Logic.{◌↔◌, ◌⊎◌, inl, inr}
use Prim.Native.Nat.{ℕ, zero, suc, ◌*◌, ◌/◌, ◌%◌, ◌^◌, ◌≤◌, ◌<◌}
use native.Mathlib.Omega.{arith}
use mathlib.Core.Bool.{Bool, true, false, not, ◌||◌, cond}
use lib.Dec.{T, eqb, lit<, lit≤}
use lib.IntN.{ℤ, pos, nat_abs, ◌+ℤ◌, ◌*ℤ◌}
use lib.Signed.{◌≤ℤ◌, lt_z, lt_z_yes, lt_z_no, clash_ℤ}
use lib.Ieee.{Float}
use Rattle.number.specs.Arithmetic.{◌⊗◌, min_of, max_of}
use Rattle.farmgrid.specs.Whole.{Whole}
use Rattle.whole.proofs.Integer.{of_self as self, of_eq, of_min, of_max, min_ind, max_ind, min_shift, max_shift, ◌⊞◌}
use Rattle.farmgrid.proofs.Numbers.Exact.{lt_whole, min_whole, max_whole}
use Rattle.farmgrid.proofs.Numbers.Fit.{Fit, fit_sum, fit_times}
use Rattle.matrix.specs.declared.matrix.Mat4d.{Mat4d}
use Rattle.matrix.specs.declared.range.Range3d.{Range3d}
use Rattle.matrix.specs.Vec.{axis}
use Rattle.matrix.specs.Matrix.{entry}
use Rattle.matrix.specs.Transform.{column}
use Rattle.matrix.specs.Range as Range
use Rattle.matrix.specs.Range.{sum_from, empty_along, is_empty, union, reach}
use Rattle.placed.specs.Placement.{columnℤ, movedℤ, smaller, larger}
use Rattle.farmgrid.specs.Placement.{WholeRange, WholeMatrix, Within, NonEmpty, PlacementWithin}
use Rattle.farmgrid.specs.Placement.{picked_of, cornerℤ, placed_corner, placed_low, placed_high}
use Rattle.farmgrid.proofs.Placements.Singles.{three, only, sum_only, Single}
use Rattle.farmgrid.proofs.Placements.QuarterTurns.{source, moved_is, widen_placement}
use Rattle.farmgrid.proofs.Numbers.WholeSums.{axis_fit, whole_vec3}
use Rattle.farmgrid.proofs.Placements.WholePlacements.{wide, entry_fit}
use Rattle.number.proofs.Places.{same_test}
use Rattle.number.proofs.Comparisons.{refuted}
use Rattle.farmgrid.proofs.Numbers.WholeSigns.{flip, times_unit}

-- ---- emptiness

-- low > high on some axis
abbrev pub emptyℤ : (ℕ → ℤ) → (ℕ → ℤ) → Bool
emptyℤ low high = lt_z (high 0) (low 0) || lt_z (high 1) (low 1) || lt_z (high 2) (low 2)

pub empty_whole : {r : Range3d} {low high : ℕ → ℤ} → WholeRange r low high → is_empty r ≡ emptyℤ low high
unfolding is_empty
empty_whole {r} {low} {high} R t = along 0 (lit< tt) t || along 1 (lit< tt) t || along 2 (lit< tt) t
  where
    along : (i : ℕ) → i < 3 → empty_along r i ≡ lt_z (high i) (low i)
    along i h =
        let o = lt_whole (R.max.at i h) (R.min.at i h) in
        same_test (empty_along r i) (lt_z (high i) (low i)) (λ t. (o.0 t).lt) (λ t. o.1 (lt_z_yes t))

-- none of three tests passes
none : (u v w : Bool) → u || v || w ≡ false → T (not u) × T (not v) × T (not w)
none false false false e = (tt, tt, tt)
none false false true e = absurd (subst T e tt)
none false true w e = absurd (subst T e tt)
none true v w e = absurd (subst T e tt)

pub nonempty_is : (low high : ℕ → ℤ) → (emptyℤ low high ≡ false) ↔ NonEmpty low high
nonempty_is low high = (along, λ o t. at o 0 (lit< tt) t || at o 1 (lit< tt) t || at o 2 (lit< tt) t)
  where
    along : emptyℤ low high ≡ false → NonEmpty low high
    along e =
        let n = none (lt_z (high 0) (low 0)) (lt_z (high 1) (low 1)) (lt_z (high 2) (low 2)) e in
        record { ordered = three (λ i. low i ≤ℤ high i) (lt_z_no n.0) (lt_z_no n.1) (lt_z_no n.2) }

    at : NonEmpty low high → (i : ℕ) → i < 3 → lt_z (high i) (low i) ≡ false
    at o i h = refuted (lt_z (high i) (low i)) (λ t. clash_ℤ (lt_z_yes t) (o.ordered i h))

-- a whole range with each least number at most its greatest is not empty
pub nonempty_whole : {r : Range3d} {low high : ℕ → ℤ} → WholeRange r low high → NonEmpty low high → is_empty r ≡ false
nonempty_whole {low = low} {high = high} R o = empty_whole R ∙ (nonempty_is low high).1 o

-- ---- union

module _ {r s : Range3d} {low high low' high' : ℕ → ℤ} (R : WholeRange r low high) (S : WholeRange s low' high') where
  pub union_whole : NonEmpty low high → NonEmpty low' high'
      → WholeRange (union r s) (λ i. smaller (low i) (low' i)) (λ i. larger (high i) (high' i))
  unfolding union
  union_whole o o' = rw (nonempty_whole R o, nonempty_whole S o') (record {
    min = whole_vec3 (λ i. min_of (axis r.min i) (axis s.min i)) (λ i h. min_whole (R.min.at i h) (S.min.at i h));
    max = whole_vec3 (λ i. max_of (axis r.max i) (axis s.max i)) (λ i h. max_whole (R.max.at i h) (S.max.at i h));
  })

-- ---- the least and the greatest, by what they have in common

-- a way to pick one of two numbers, in floats and in integers
record Picks (pick : Float → Float → Float) (pickℤ : ℤ → ℤ → ℤ) : Type 0 where
  exact : {x y : Float} {a b : ℤ} {n : ℕ} → Fit x a n → Fit y b n → Fit (pick x y) (pickℤ a b) n
  shift : (a b t : ℤ) → pickℤ a b +ℤ t ≡ pickℤ (a +ℤ t) (b +ℤ t)
  same : (a : ℤ) → pickℤ a a ≡ a
  first : (a b : ℤ) → pickℤ (pickℤ a b) a ≡ pickℤ a b
  second : (a b : ℤ) → pickℤ (pickℤ a b) b ≡ pickℤ a b

picks_min : Picks min_of smaller
picks_min = record {
  exact = λ {x} {y} {a} {b} {n} g h.
      record { whole = min_whole g.whole h.whole; size = min_ind (λ z. nat_abs z ≤ n) a b (λ l. h.size) (λ l. g.size) };
  shift = min_shift;
  same = λ a. of_eq (of_min (self a) (self a)) (self a) (omega arith);
  first = λ a b. of_eq (of_min (of_min (self a) (self b)) (self a)) (of_min (self a) (self b)) (omega arith);
  second = λ a b. of_eq (of_min (of_min (self a) (self b)) (self b)) (of_min (self a) (self b)) (omega arith);
}

picks_max : Picks max_of larger
picks_max = record {
  exact = λ {x} {y} {a} {b} {n} g h.
      record { whole = max_whole g.whole h.whole; size = max_ind (λ z. nat_abs z ≤ n) a b (λ l. h.size) (λ l. g.size) };
  shift = max_shift;
  same = λ a. of_eq (of_max (self a) (self a)) (self a) (omega arith);
  first = λ a b. of_eq (of_max (of_max (self a) (self b)) (self a)) (of_max (self a) (self b)) (omega arith);
  second = λ a b. of_eq (of_max (of_max (self a) (self b)) (self b)) (of_max (self a) (self b)) (omega arith);
}

-- of numbers that are a or b, from an a to a b
module _ {pick : Float → Float → Float} {pickℤ : ℤ → ℤ → ℤ} (K : Picks pick pickℤ) (g : ℕ → ℤ) (a b : ℤ) (start : g 0 ≡ a)
    (either : (k : ℕ) → (g k ≡ a) ⊎ (g k ≡ b)) where
  picked_either : (n : ℕ) → (picked_of pickℤ n g ≡ a) ⊎ (picked_of pickℤ n g ≡ pickℤ a b)
  unfolding picked_of
  picked_either zero = inl start
  picked_either (suc n) = step (picked_either n) (either (suc n))
    where
      step : {x y : ℤ} → (x ≡ a) ⊎ (x ≡ pickℤ a b) → (y ≡ a) ⊎ (y ≡ b) → (pickℤ x y ≡ a) ⊎ (pickℤ x y ≡ pickℤ a b)
      step (inl p) (inl q) = inl ((λ t. pickℤ (p t) (q t)) ∙ K.same a)
      step (inl p) (inr q) = inr (λ t. pickℤ (p t) (q t))
      step (inr p) (inl q) = inr ((λ t. pickℤ (p t) (q t)) ∙ K.first a b)
      step (inr p) (inr q) = inr ((λ t. pickℤ (p t) (q t)) ∙ K.second a b)

  picked_last : (n : ℕ) → g (suc n) ≡ b → picked_of pickℤ (suc n) g ≡ pickℤ a b
  unfolding picked_of
  picked_last n q = step (picked_either n)
    where
      step : {x : ℤ} → (x ≡ a) ⊎ (x ≡ pickℤ a b) → pickℤ x (g (suc n)) ≡ pickℤ a b
      step (inl p) = λ t. pickℤ (p t) (q t)
      step (inr p) = (λ t. pickℤ (p t) (q t)) ∙ K.second a b

-- ---- a range through a placement

-- a placed corner has along an axis the coordinate of the least or of the greatest one
pub placed_either : {b : ℕ} {f : ℕ → ℕ → ℤ} → PlacementWithin b f → (low high : ℕ → ℤ) (j : ℕ) → j < 3 → (i : ℕ)
    → (placed_corner f low high j i ≡ movedℤ f low j) ⊎ (placed_corner f low high j i ≡ movedℤ f high j)
placed_either {f = f} F low high j h i = by_bit (cornerℤ low high i) (eqb (i / 2 ^ k % 2) 1) refl
  where
    from : Single (columnℤ f j)
    from = source F.turn j h

    k : ℕ
    k = from.from

    alike : (p q : ℕ → ℤ) → p k ≡ q k → movedℤ f p j ≡ movedℤ f q j
    alike p q e = moved_is F p j h ∙ ap (λ (z : ℤ). flip from.sign z +ℤ f 3 j) e ∙ sym (moved_is F q j h)

    by_bit : (p : ℕ → ℤ) (u : Bool) → p k ≡ cond u (high k) (low k) → (movedℤ f p j ≡ movedℤ f low j) ⊎ (movedℤ f p j ≡ movedℤ f high j)
    by_bit p false e = inl (alike p low e)
    by_bit p true e = inr (alike p high e)

module _ {pick : Float → Float → Float} {pickℤ : ℤ → ℤ → ℤ} (K : Picks pick pickℤ) {b : ℕ} {f : ℕ → ℕ → ℤ} (F : PlacementWithin b f)
    (low high : ℕ → ℤ) (j : ℕ) (h : j < 3) where
  abbrev from : Single (columnℤ f j)
  from = source F.turn j h

  -- of the eight placed corners
  corner_picked : picked_of pickℤ 7 (placed_corner f low high j) ≡ pickℤ (movedℤ f low j) (movedℤ f high j)
  corner_picked = picked_last K (placed_corner f low high j) (movedℤ f low j) (movedℤ f high j) refl (placed_either F low high j h) 6 refl

  -- of the sums that the code makes: it adds to the translation what is picked along each axis, which is 0 but for the source
  abbrev along : ℕ → ℤ
  along i = pickℤ (low i *ℤ f i j) (high i *ℤ f i j)

  sum_picked : f 3 j +ℤ along 0 +ℤ along 1 +ℤ along 2 ≡ pickℤ (movedℤ f low j) (movedℤ f high j)
  sum_picked =
      (λ t. f 3 j +ℤ each 0 (lit< tt) t +ℤ each 1 (lit< tt) t +ℤ each 2 (lit< tt) t)
      ∙ turn (f 3 j) (at 0) (at 1) (at 2)
      ∙ ap (λ (z : ℤ). z +ℤ f 3 j) (sum_only found from.from from.below)
      ∙ K.shift (flip from.sign (low from.from)) (flip from.sign (high from.from)) (f 3 j)
      ∙ (λ t. pickℤ (sym (moved_is F low j h) t) (sym (moved_is F high j h) t))
    where
      found : ℕ → ℤ
      found i = pickℤ (flip from.sign (low i)) (flip from.sign (high i))

      at : ℕ → ℤ
      at = only found from.from

      pick_at : (u : Bool) (a b : ℤ) → pickℤ (cond u a (pos 0)) (cond u b (pos 0)) ≡ cond u (pickℤ a b) (pos 0)
      pick_at false a b = K.same (pos 0)
      pick_at true a b = refl

      each : (i : ℕ) → i < 3 → along i ≡ at i
      each i l =
          let u = eqb i from.from in
          let e : (a : ℤ) → a *ℤ f i j ≡ cond u (flip from.sign a) (pos 0) =
          λ a. ap (◌*ℤ◌ a) (from.is i l) ∙ times_unit from.sign u a in
          (λ t. pickℤ (e (low i) t) (e (high i) t)) ∙ pick_at u (flip from.sign (low i)) (flip from.sign (high i))

      turn : (t a b c : ℤ) → t +ℤ a +ℤ b +ℤ c ≡ a +ℤ b +ℤ c +ℤ t
      turn t a b c = of_eq (self t ⊞ self a ⊞ self b ⊞ self c) (self a ⊞ self b ⊞ self c ⊞ self t) (omega arith)

  -- the float sum
  reach_picked : {m : Mat4d} {r : Range3d} → WholeMatrix m f → WholeRange r low high → b ≤ wide → Within wide low → Within wide high
      → Whole (reach pick r (column m j) (entry m 3 j)) (picked_of pickℤ 7 (placed_corner f low high j))
  unfolding reach sum_from
  reach_picked {m} {r} M R l L H =
      subst (Whole (reach pick r (column m j) (entry m 3 j))) (sum_picked ∙ sym corner_picked)
      (fit_sum (fit_sum (fit_sum (number 3 (lit< tt)) (term 0 (lit< tt)) (lit≤ tt)) (term 1 (lit< tt)) (lit≤ tt)) (term 2 (lit< tt))
      (lit≤ tt)).whole
    where
      number : (i : ℕ) → i < 4 → Fit (entry m i j) (f i j) wide
      number i k = entry_fit M (widen_placement l F) i j k (omega arith)

      term : (i : ℕ) → i < 3 → Fit (pick (axis r.min i ⊗ entry m i j) (axis r.max i ⊗ entry m i j)) (along i) (wide * wide)
      term i k =
          let e = number i (omega arith) in
          K.exact (fit_times (axis_fit R.min L i k) e (lit≤ tt)) (fit_times (axis_fit R.max H i k) e (lit≤ tt))

-- along each axis from the least to the greatest of the eight placed corners
module _ {b : ℕ} {f : ℕ → ℕ → ℤ} (F : PlacementWithin b f) (low high : ℕ → ℤ) (j : ℕ) (h : j < 3) where
  pub placed_low_lem : placed_low f low high j ≡ smaller (movedℤ f low j) (movedℤ f high j)
  placed_low_lem = corner_picked picks_min F low high j h

  pub placed_high_lem : placed_high f low high j ≡ larger (movedℤ f low j) (movedℤ f high j)
  placed_high_lem = corner_picked picks_max F low high j h

pub transformed_whole : {m : Mat4d} {f : ℕ → ℕ → ℤ} {r : Range3d} {low high : ℕ → ℤ} → WholeMatrix m f → PlacementWithin wide f
    → WholeRange r low high → Within wide low → Within wide high → NonEmpty low high
    → WholeRange (Range.transformed r m) (placed_low f low high) (placed_high f low high)
unfolding Range.transformed
transformed_whole {m} {f} {r} {low} {high} M F R L H o = rw (nonempty_whole R o) (record {
  min = whole_vec3 (λ j. reach min_of r (column m j) (entry m 3 j)) (λ j h. reach_picked picks_min F low high j h M R (lit≤ tt) L H);
  max = whole_vec3 (λ j. reach max_of r (column m j) (entry m 3 j)) (λ j h. reach_picked picks_max F low high j h M R (lit≤ tt) L H);
})
