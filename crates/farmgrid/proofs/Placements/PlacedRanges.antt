-- Placed ranges in whole numbers: a placement keeps a range non-empty and its size bounded, it respects unions, two placements
-- one after the other are their product, and what was brought into a placement's space by its inverse comes back.
-- The idea: along an axis a placed range is what the placement makes of one axis, a sign turned or not and a translation added,
-- of its least and of its greatest number.
use mathlib.Core.Path.{◌≡◌, sym, ap, ◌∙◌}
use Prim.Native.Nat.{ℕ, ◌+◌, ◌≤◌, ◌<◌}
use native.Mathlib.Omega.{arith}
use mathlib.Core.Bool.{Bool, true, false}
use lib.Dec.{lit<}
use lib.IntN.{ℤ, nat_abs, ◌+ℤ◌, ◌*ℤ◌}
use lib.Signed.{◌≤ℤ◌}
use Rattle.whole.proofs.Integer.{of_self as self, of_neg, of_eq, of_le, of_min, of_max, le_is, min_ind, max_ind, ◌⊞◌}
use Rattle.placed.specs.Placement.{movedℤ, smaller, larger}
use Rattle.farmgrid.specs.Placement.{Within, NonEmpty, PlacementWithin, productℤ}
use Rattle.farmgrid.specs.Placement.{placed_low, placed_high}
use Rattle.farmgrid.proofs.Numbers.WholeSigns.{flip}
use Rattle.farmgrid.proofs.Placements.QuarterTurns.{source, moved_is, moved_within, product_placement, product_moves}
use Rattle.farmgrid.proofs.Placements.InversePlacements.{inverseℤ, inverse_placement, undone}
use Rattle.farmgrid.proofs.Placements.WholeRanges.{placed_low_lem, placed_high_lem}

-- ---- the least, and where u is true the greatest

abbrev pub extreme : Bool → ℤ → ℤ → ℤ
extreme false = smaller
extreme true = larger

abbrev pub placed : Bool → (ℕ → ℕ → ℤ) → (ℕ → ℤ) → (ℕ → ℤ) → ℕ → ℤ
placed false = placed_low
placed true = placed_high

-- ---- along one axis: a sign turned or not, and a translation added

abbrev shifted : Bool → ℤ → ℤ → ℤ
shifted s t z = flip s z +ℤ t

-- of the least and the greatest of two numbers
again : (u s : Bool) (t a b : ℤ)
    → extreme u (shifted s t (smaller a b)) (shifted s t (larger a b)) ≡ extreme u (shifted s t a) (shifted s t b)
again false false t a b =
    of_eq (of_min (of_min (self a) (self b) ⊞ self t) (of_max (self a) (self b) ⊞ self t))
    (of_min (self a ⊞ self t) (self b ⊞ self t)) (omega arith)
again false true t a b =
    of_eq (of_min (of_neg (of_min (self a) (self b)) ⊞ self t) (of_neg (of_max (self a) (self b)) ⊞ self t))
    (of_min (of_neg (self a) ⊞ self t) (of_neg (self b) ⊞ self t)) (omega arith)
again true false t a b =
    of_eq (of_max (of_min (self a) (self b) ⊞ self t) (of_max (self a) (self b) ⊞ self t))
    (of_max (self a ⊞ self t) (self b ⊞ self t)) (omega arith)
again true true t a b =
    of_eq (of_max (of_neg (of_min (self a) (self b)) ⊞ self t) (of_neg (of_max (self a) (self b)) ⊞ self t))
    (of_max (of_neg (self a) ⊞ self t) (of_neg (self b) ⊞ self t)) (omega arith)

-- of a union
joined : (u s : Bool) (t a b a' b' : ℤ) → a ≤ℤ b → a' ≤ℤ b' → extreme u (shifted s t (smaller a a')) (shifted s t (larger b b'))
    ≡ extreme u (extreme u (shifted s t a) (shifted s t b)) (extreme u (shifted s t a') (shifted s t b'))
joined false false t a b a' b' l l' =
    of_eq (of_min (of_min (self a) (self a') ⊞ self t) (of_max (self b) (self b') ⊞ self t))
    (of_min (of_min (self a ⊞ self t) (self b ⊞ self t)) (of_min (self a' ⊞ self t) (self b' ⊞ self t)))
    (omega (arith, (le_is a b).0 l, (le_is a' b').0 l'))
joined false true t a b a' b' l l' =
    of_eq (of_min (of_neg (of_min (self a) (self a')) ⊞ self t) (of_neg (of_max (self b) (self b')) ⊞ self t))
    (of_min (of_min (of_neg (self a) ⊞ self t) (of_neg (self b) ⊞ self t)) (of_min (of_neg (self a') ⊞ self t) (of_neg (self b') ⊞ self t)))
    (omega (arith, (le_is a b).0 l, (le_is a' b').0 l'))
joined true false t a b a' b' l l' =
    of_eq (of_max (of_min (self a) (self a') ⊞ self t) (of_max (self b) (self b') ⊞ self t))
    (of_max (of_max (self a ⊞ self t) (self b ⊞ self t)) (of_max (self a' ⊞ self t) (self b' ⊞ self t)))
    (omega (arith, (le_is a b).0 l, (le_is a' b').0 l'))
joined true true t a b a' b' l l' =
    of_eq (of_max (of_neg (of_min (self a) (self a')) ⊞ self t) (of_neg (of_max (self b) (self b')) ⊞ self t))
    (of_max (of_max (of_neg (self a) ⊞ self t) (of_neg (self b) ⊞ self t)) (of_max (of_neg (self a') ⊞ self t) (of_neg (self b') ⊞ self t)))
    (omega (arith, (le_is a b).0 l, (le_is a' b').0 l'))

-- ---- a range through a placement

module _ {b : ℕ} {f : ℕ → ℕ → ℤ} (F : PlacementWithin b f) where
  -- two of the eight corners decide
  pub placed_is : (u : Bool) (low high : ℕ → ℤ) (j : ℕ) → j < 3 → placed u f low high j ≡ extreme u (movedℤ f low j) (movedℤ f high j)
  placed_is false = placed_low_lem F
  placed_is true = placed_high_lem F

  module _ (u : Bool) (low high : ℕ → ℤ) (j : ℕ) (h : j < 3) where
    abbrev s : Bool
    s = (source F.turn j h).sign

    abbrev k : ℕ
    k = (source F.turn j h).from

    placed_shifted : placed u f low high j ≡ extreme u (shifted s (f 3 j) (low k)) (shifted s (f 3 j) (high k))
    placed_shifted = placed_is u low high j h ∙ (λ i. extreme u (moved_is F low j h i) (moved_is F high j h i))

  -- it is not empty, and no larger than the range and the translation together
  pub placed_nonempty : (low high : ℕ → ℤ) → NonEmpty (placed_low f low high) (placed_high f low high)
  placed_nonempty low high = record {
    ordered = λ j h.
        let a = movedℤ f low j in
        let b = movedℤ f high j in
        rw (placed_low_lem F low high j h, placed_high_lem F low high j h)
        ((of_le (of_min (self a) (self b)) (of_max (self a) (self b))).1 (omega arith));
  }

  pub placed_within : (u : Bool) {n : ℕ} {low high : ℕ → ℤ} → Within n low → Within n high → Within (n + b) (placed u f low high)
  placed_within u {n} {low} {high} L H = record {
    size = λ j h. rw (placed_is u low high j h)
        (either u (movedℤ f low j) (movedℤ f high j) ((moved_within F L).size j h) ((moved_within F H).size j h));
  }
    where
      either : (u : Bool) (x y : ℤ) → nat_abs x ≤ n + b → nat_abs y ≤ n + b → nat_abs (extreme u x y) ≤ n + b
      either false x y k l = min_ind (λ z. nat_abs z ≤ n + b) x y (λ i. l) (λ i. k)
      either true x y k l = max_ind (λ z. nat_abs z ≤ n + b) x y (λ i. l) (λ i. k)

  -- the union of two ranges, placed, is the union of the placed ranges
  pub placed_union : (u : Bool) {low high low' high' : ℕ → ℤ} → NonEmpty low high → NonEmpty low' high' → (j : ℕ) → j < 3
      → placed u f (λ i. smaller (low i) (low' i)) (λ i. larger (high i) (high' i)) j
      ≡ extreme u (placed u f low high j) (placed u f low' high' j)
  placed_union u {low} {high} {low'} {high'} o o' j h =
      let from = source F.turn j h in
      let k = from.from in
      placed_shifted u (λ i. smaller (low i) (low' i)) (λ i. larger (high i) (high' i)) j h
      ∙ joined u from.sign (f 3 j) (low k) (high k) (low' k) (high' k) (o.ordered k from.below) (o'.ordered k from.below)
      ∙ sym (λ i. extreme u (placed_shifted u low high j h i) (placed_shifted u low' high' j h i))

-- ---- one placement after another

same_moved : (f : ℕ → ℕ → ℤ) (p q : ℕ → ℤ) → ((i : ℕ) → i < 3 → p i ≡ q i) → (j : ℕ) → movedℤ f p j ≡ movedℤ f q j
same_moved f p q e j t = e 0 (lit< tt) t *ℤ f 0 j +ℤ e 1 (lit< tt) t *ℤ f 1 j +ℤ e 2 (lit< tt) t *ℤ f 2 j +ℤ f 3 j

module _ {a b : ℕ} {f g : ℕ → ℕ → ℤ} (F : PlacementWithin a f) (G : PlacementWithin b g) (u : Bool) (low high : ℕ → ℤ) (j : ℕ)
    (h : j < 3) where
  -- the range placed by g, and then by f
  abbrev twice : ℤ
  twice = placed u f (placed_low g low high) (placed_high g low high) j

  twice_is : twice ≡ extreme u (movedℤ f (movedℤ g low) j) (movedℤ f (movedℤ g high) j)
  twice_is =
      let from = source F.turn j h in
      let k = from.from in
      let l = from.below in
      let put : ℤ → ℤ = shifted from.sign (f 3 j) in
      placed_shifted F u (placed_low g low high) (placed_high g low high) j h
      ∙ (λ i. extreme u (put (placed_low_lem G low high k l i)) (put (placed_high_lem G low high k l i)))
      ∙ again u from.sign (f 3 j) (movedℤ g low k) (movedℤ g high k)
      ∙ sym (λ i. extreme u (moved_is F (movedℤ g low) j h i) (moved_is F (movedℤ g high) j h i))

  -- it is placed by their product
  pub placed_product : placed u (productℤ g f) low high j ≡ placed u f (placed_low g low high) (placed_high g low high) j
  placed_product =
      placed_is (product_placement G F) u low high j h
      ∙ (λ i. extreme u (product_moves G F low j h i) (product_moves G F high j h i))
      ∙ sym twice_is

-- a range placed by g, brought into the space of f by the inverse of f, is by f placed as by g
module _ {a b : ℕ} {f g : ℕ → ℕ → ℤ} (F : PlacementWithin a f) (G : PlacementWithin b g) where
  abbrev into : ℕ → ℕ → ℤ
  into = productℤ g (inverseℤ f)

  returned : (p : ℕ → ℤ) (j : ℕ) → j < 3 → movedℤ f (movedℤ into p) j ≡ movedℤ g p j
  returned p j h =
      same_moved f (movedℤ into p) (movedℤ (inverseℤ f) (movedℤ g p)) (product_moves G (inverse_placement F) p) j
      ∙ undone F (movedℤ g p) j h

  pub placed_back : (u : Bool) (low high : ℕ → ℤ) (j : ℕ) → j < 3
      → placed u f (placed_low into low high) (placed_high into low high) j ≡ placed u g low high j
  placed_back u low high j h =
      twice_is F (product_placement G (inverse_placement F)) u low high j h
      ∙ (λ i. extreme u (returned low j h i) (returned high j h i))
      ∙ sym (placed_is G u low high j h)

  -- so that a range of f, grown by such a range, is placed as the union of the two placed ranges
  pub placed_grown : (u : Bool) {low high : ℕ → ℤ} → NonEmpty low high → (low' high' : ℕ → ℤ) → (j : ℕ) → j < 3
      → placed u f (λ i. smaller (low i) (placed_low into low' high' i)) (λ i. larger (high i) (placed_high into low' high' i)) j
      ≡ extreme u (placed u f low high j) (placed u g low' high' j)
  placed_grown u {low} {high} o low' high' j h =
      placed_union F u o (placed_nonempty (product_placement G (inverse_placement F)) low' high') j h
      ∙ ap (extreme u (placed u f low high j)) (placed_back u low' high' j h)
