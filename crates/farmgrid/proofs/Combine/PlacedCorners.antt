-- The union of the extents of several boxes runs from the least to the greatest among all their placed corners. The idea: of two numbers
-- the smaller is one of them and is at most both, and so for the larger; then by induction over the corners and over the boxes.
use mathlib.Core.Path.{◌≡◌, refl, sym, ◌∙◌, subst}
use mathlib.Core.Logic.{◌⊎◌, inl, inr}
use mathlib.Core.Bool.{Bool, true, false}
use mathlib.Core.List.{List, [], ◌∷◌}
use Prim.Native.Nat.{ℕ, zero, suc, ◌≤◌, ◌<◌}
use native.Mathlib.Nat.{eq-or-lt_of_le}
use native.Mathlib.Omega.{arith}
use lib.IntN.{ℤ}
use lib.Signed.{◌≤ℤ◌, ≤ℤ_refl}
use Rattle.whole.proofs.Integer.{of_self as self, of_le, of_min, of_max, le_is}
use Rattle.farmgrid.specs.Placement.{picked_of}
use Rattle.farmgrid.proofs.Placements.PlacedRanges.{extreme}
use Rattle.placed.specs.Placement.{WholeBox}
use Rattle.farmgrid.specs.FarmGrid.{placed_corner_of}
use Rattle.farmgrid.specs.Combining.{CornerCoordinate, own, other, Least, Greatest}
use Rattle.farmgrid.proofs.Combine.Extents.{extreme_ind, Extent, join}
use Rattle.farmgrid.proofs.Combine.CombinedBoxes.{extent_of}

-- ---- one of two numbers

-- a is at most b, or where u is true at least b
abbrev Beyond : Bool → ℤ → ℤ → Type 0
Beyond false a b = a ≤ℤ b
Beyond true a b = b ≤ℤ a

beyond_refl : (u : Bool) (a : ℤ) → Beyond u a a
beyond_refl false a = ≤ℤ_refl a
beyond_refl true a = ≤ℤ_refl a

beyond_trans : (u : Bool) (a b c : ℤ) → Beyond u a b → Beyond u b c → Beyond u a c
beyond_trans false a b c h k = (le_is a c).1 (omega (arith, (le_is a b).0 h, (le_is b c).0 k))
beyond_trans true a b c h k = (le_is c a).1 (omega (arith, (le_is b a).0 h, (le_is c b).0 k))

extreme_first : (u : Bool) (a b : ℤ) → Beyond u (extreme u a b) a
extreme_first false a b = (of_le (of_min (self a) (self b)) (self a)).1 (omega arith)
extreme_first true a b = (of_le (self a) (of_max (self a) (self b))).1 (omega arith)

extreme_second : (u : Bool) (a b : ℤ) → Beyond u (extreme u a b) b
extreme_second false a b = (of_le (of_min (self a) (self b)) (self b)).1 (omega arith)
extreme_second true a b = (of_le (self b) (of_max (self a) (self b))).1 (omega arith)

-- ---- one of several

-- z is g k for some k up to n
record Met (g : ℕ → ℤ) (n : ℕ) (z : ℤ) : Type 0 where
  k : ℕ
  below : k ≤ n
  is : z ≡ g k

module _ (u : Bool) (g : ℕ → ℤ) where
  picked_met : (n : ℕ) → Met g n (picked_of (extreme u) n g)
  unfolding picked_of
  picked_met zero = record { k = 0; below = omega arith; is = refl }
  picked_met (suc n) =
      let m = picked_met n in
      extreme_ind (Met g (suc n)) u (picked_of (extreme u) n g) (g (suc n)) (record { k = m.k; below = omega arith; is = m.is })
      (record { k = suc n; below = omega arith; is = refl })

  picked_beyond : (n k : ℕ) → k ≤ n → Beyond u (picked_of (extreme u) n g) (g k)
  unfolding picked_of
  picked_beyond zero zero h = beyond_refl u (g 0)
  picked_beyond zero (suc k) h = absurd (omega arith)
  picked_beyond (suc n) k h = step (eq-or-lt_of_le h) (picked_beyond n k)
    where
      before : ℤ
      before = picked_of (extreme u) n g

      after : ℤ
      after = extreme u before (g (suc n))

      step : (k ≡ suc n) ⊎ (k < suc n) → (k ≤ n → Beyond u before (g k)) → Beyond u after (g k)
      step (inl e) f = subst (λ (i : ℕ). Beyond u after (g i)) (sym e) (extreme_second u before (g (suc n)))
      step (inr l) f = beyond_trans u after before (g k) (extreme_first u before (g (suc n))) (f (omega arith))

-- ---- the extent of several boxes

abbrev pub listed : WholeBox → List WholeBox → Extent
listed B [] = extent_of B
listed B (C ∷ Cs) = join (extent_of B) (listed C Cs)

module _ (u : Bool) (j : ℕ) where
  extent_picked : (u : Bool) (B : WholeBox) → extent_of B u j ≡ picked_of (extreme u) 7 (λ k. placed_corner_of B k j)
  extent_picked false B = refl
  extent_picked true B = refl

  pub box_among : (B : WholeBox) (Bs : List WholeBox) → CornerCoordinate j (extent_of B u j) (B ∷ Bs)
  box_among B Bs =
      let m = picked_met u (λ k. placed_corner_of B k j) 7 in
      own m.k (omega arith) (extent_picked u B ∙ m.is)

  box_beyond : (B : WholeBox) (y : ℤ) (k : ℕ) → k < 8 → y ≡ placed_corner_of B k j → Beyond u (extent_of B u j) y
  box_beyond B y k h e = rw (e, extent_picked u B) (picked_beyond u (λ k. placed_corner_of B k j) 7 k (omega arith))

  listed_among : (B : WholeBox) (Bs : List WholeBox) → CornerCoordinate j (listed B Bs u j) (B ∷ Bs)
  listed_among B [] = box_among B []
  listed_among B (C ∷ Cs) =
      extreme_ind (λ z. CornerCoordinate j z (B ∷ C ∷ Cs)) u (extent_of B u j) (listed C Cs u j) (box_among B (C ∷ Cs)) (other (listed_among C Cs))

  own_beyond : (B : WholeBox) (Bs : List WholeBox) (y : ℤ) (k : ℕ) → k < 8 → y ≡ placed_corner_of B k j → Beyond u (listed B Bs u j) y
  own_beyond B [] y k h e = box_beyond B y k h e
  own_beyond B (C ∷ Cs) y k h e =
      beyond_trans u (listed B (C ∷ Cs) u j) (extent_of B u j) y (extreme_first u (extent_of B u j) (listed C Cs u j)) (box_beyond B y k h e)

  listed_beyond : (y : ℤ) (B : WholeBox) (Bs : List WholeBox) → CornerCoordinate j y (B ∷ Bs) → Beyond u (listed B Bs u j) y
  listed_beyond y B Bs (own k h e) = own_beyond B Bs y k h e
  listed_beyond y B [] (other c) = elim c [ ]
  listed_beyond y B (C ∷ Cs) (other c) =
      beyond_trans u (listed B (C ∷ Cs) u j) (listed C Cs u j) y (extreme_second u (extent_of B u j) (listed C Cs u j)) (listed_beyond y C Cs c)

module _ (B : WholeBox) (Bs : List WholeBox) (j : ℕ) where
  pub listed_least : Least (B ∷ Bs) j (listed B Bs false j)
  listed_least = record { among = listed_among false j B Bs; least = λ {y} c. listed_beyond false j y B Bs c }

  pub listed_greatest : Greatest (B ∷ Bs) j (listed B Bs true j)
  listed_greatest = record { among = listed_among true j B Bs; greatest = λ {y} c. listed_beyond true j y B Bs c }
