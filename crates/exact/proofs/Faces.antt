-- The six faces of a box as constraints: a point satisfies them exactly where it is in the box, and those of a grid box are segment planes. The idea: each looks at one
-- coordinate alone. Assumes nothing.
use mathlib.Core.Path.{◌≡◌, refl, sym, ap, subst, ◌∙◌}
use mathlib.Core.Logic.{◌↔◌}
use mathlib.Core.Bool.{true, ◌&&◌}
use mathlib.Core.List.{List}
use Prim.Native.Nat.{ℕ, zero, suc, ◌≤◌, ◌<◌}
use native.Mathlib.Nat.{le_trans}
use native.Mathlib.Omega.{arith}
use borrow.Author.Tests.{leb-true, le-leb}
use lib.Dec.{lit<, lit≤}
use lib.IntN.{ℤ, pos, neg_ℤ, nat_abs, ◌-ℤ◌, ◌*ℤ◌}
use lib.Signed.{le_z, ◌≤ℤ◌}
use Rattle.number.specs.Limits.{grid_limit, distance_limit}
use Rattle.number.proofs.Tests.{both_hold}
use Rattle.whole.specs.Plane.{WholePlane, dotℤ}
use Rattle.whole.specs.SegmentCall.{number_at, within, plane_within}
use Rattle.whole.proofs.Integer.{of_self as self, of_pos, of_neg, of_eq, of_le, abs_neg, ◌⊞◌, ◌⊟◌, ◌⊠◌}
use Rattle.exact.specs.ExactPoint.{ExactPoint, Satisfies, InBox}
use Rattle.exact.specs.BBoxCall.{low_corner, high_corner, axis_within, box_within}
use Rattle.exact.specs.Steps.{axis_direction, faces, face_at, constraint_at}

-- what holds of each of six numbers
pub six : (K : ℕ → Type 0) → K 0 → K 1 → K 2 → K 3 → K 4 → K 5 → (i : ℕ) → i < 6 → K i
six K a b c d e f zero l = a
six K a b c d e f (suc zero) l = b
six K a b c d e f (suc (suc zero)) l = c
six K a b c d e f (suc (suc (suc zero))) l = d
six K a b c d e f (suc (suc (suc (suc zero)))) l = e
six K a b c d e f (suc (suc (suc (suc (suc zero))))) l = f
six K a b c d e f (suc (suc (suc (suc (suc (suc i)))))) l = absurd (omega arith)

-- ---- along one axis
unit_is : (j : ℕ) → j < 3 → (x : ℕ → ℤ) → dotℤ (axis_direction j) x ≡ x j
unit_is zero l x = of_eq (of_pos 1 ⊠ self (x 0) ⊞ of_pos 0 ⊠ self (x 1) ⊞ of_pos 0 ⊠ self (x 2)) (self (x 0)) (omega arith)
unit_is (suc zero) l x = of_eq (of_pos 0 ⊠ self (x 0) ⊞ of_pos 1 ⊠ self (x 1) ⊞ of_pos 0 ⊠ self (x 2)) (self (x 1)) (omega arith)
unit_is (suc (suc zero)) l x = of_eq (of_pos 0 ⊠ self (x 0) ⊞ of_pos 0 ⊠ self (x 1) ⊞ of_pos 1 ⊠ self (x 2)) (self (x 2)) (omega arith)
unit_is (suc (suc (suc j))) l x = absurd (omega arith)

dot_neg : (n x : ℕ → ℤ) → dotℤ (λ i. neg_ℤ (n i)) x ≡ neg_ℤ (dotℤ n x)
dot_neg n x = of_eq
    (of_neg (self (n 0)) ⊠ self (x 0) ⊞ of_neg (self (n 1)) ⊠ self (x 1) ⊞ of_neg (self (n 2)) ⊠ self (x 2))
    (of_neg (self (n 0) ⊠ self (x 0) ⊞ self (n 1) ⊠ self (x 1) ⊞ self (n 2) ⊠ self (x 2))) (omega arith)

-- a plane whose dot product with the point is y
along : (P : WholePlane) (X : ExactPoint) (y : ℤ) → dotℤ P.normal X.numbers ≡ y → Satisfies P X ↔ (pos 0 ≤ℤ (y -ℤ pos X.k *ℤ P.distance))
along P X y e = (
  λ h. subst (λ (z : ℤ). pos 0 ≤ℤ (z -ℤ pos X.k *ℤ P.distance)) e h.side,
  λ h. record { side = subst (λ (z : ℤ). pos 0 ≤ℤ (z -ℤ pos X.k *ℤ P.distance)) (sym e) h },
)

least_is : (x l : ℤ) (k : ℕ) → (pos 0 ≤ℤ (x -ℤ pos k *ℤ l)) ↔ ((pos k *ℤ l) ≤ℤ x)
least_is x l k =
    let g = of_le (of_pos 0) (self x ⊟ of_pos k ⊠ self l) in
    let h = of_le (of_pos k ⊠ self l) (self x) in
    (λ t. h.1 (omega (arith, g.0 t)), λ t. g.1 (omega (arith, h.0 t)))

greatest_is : (x u : ℤ) (k : ℕ) → (pos 0 ≤ℤ (neg_ℤ x -ℤ pos k *ℤ neg_ℤ u)) ↔ (x ≤ℤ (pos k *ℤ u))
greatest_is x u k =
    let g = of_le (of_pos 0) (of_neg (self x) ⊟ of_pos k ⊠ of_neg (self u)) in
    let h = of_le (self x) (of_pos k ⊠ self u) in
    (λ t. h.1 (omega (arith, g.0 t)), λ t. g.1 (omega (arith, h.0 t)))

module _ (view box : List ℤ) (X : ExactPoint) where
  abbrev x : ℕ → ℤ
  x = X.numbers

  Low : (P : WholePlane) (j : ℕ) → j < 3 → (l : ℤ) → P ≡ record { normal = axis_direction j; distance = l } → Satisfies P X ↔ ((pos X.k *ℤ l) ≤ℤ x j)
  Low P j b l e =
      let Q : WholePlane = record { normal = axis_direction j; distance = l } in
      let r = along Q X (x j) (unit_is j b x) in
      let s = least_is (x j) l X.k in (
        λ h. s.0 (r.0 (subst (λ (P : WholePlane). Satisfies P X) e h)),
        λ h. subst (λ (P : WholePlane). Satisfies P X) (sym e) (r.1 (s.1 h)),
      )

  High : (P : WholePlane) (j : ℕ) → j < 3 → (u : ℤ) → P ≡ record { normal = λ i. neg_ℤ (axis_direction j i); distance = neg_ℤ u } → Satisfies P X ↔ (x j ≤ℤ (pos X.k *ℤ u))
  High P j b u e =
      let Q : WholePlane = record { normal = λ i. neg_ℤ (axis_direction j i); distance = neg_ℤ u } in
      let r = along Q X (neg_ℤ (x j)) (dot_neg (axis_direction j) x ∙ ap neg_ℤ (unit_is j b x)) in
      let s = greatest_is (x j) u X.k in (
        λ h. s.0 (r.0 (subst (λ (P : WholePlane). Satisfies P X) e h)),
        λ h. subst (λ (P : WholePlane). Satisfies P X) (sym e) (r.1 (s.1 h)),
      )

  abbrev C : ℕ → WholePlane
  C = constraint_at view box

  pub in_box : ((i : ℕ) → i < faces → Satisfies (C i) X) → InBox (low_corner box) (high_corner box) X
  in_box h = record { least = low; greatest = high }
    where
      low : (j : ℕ) → j < 3 → (pos X.k *ℤ low_corner box j) ≤ℤ x j
      low zero l = (Low (C 0) 0 (lit< tt) (number_at box 0) refl).0 (h 0 (lit< tt))
      low (suc zero) l = (Low (C 1) 1 (lit< tt) (number_at box 1) refl).0 (h 1 (lit< tt))
      low (suc (suc zero)) l = (Low (C 2) 2 (lit< tt) (number_at box 2) refl).0 (h 2 (lit< tt))
      low (suc (suc (suc j))) l = absurd (omega arith)

      high : (j : ℕ) → j < 3 → x j ≤ℤ (pos X.k *ℤ high_corner box j)
      high zero l = (High (C 3) 0 (lit< tt) (number_at box 3) refl).0 (h 3 (lit< tt))
      high (suc zero) l = (High (C 4) 1 (lit< tt) (number_at box 4) refl).0 (h 4 (lit< tt))
      high (suc (suc zero)) l = (High (C 5) 2 (lit< tt) (number_at box 5) refl).0 (h 5 (lit< tt))
      high (suc (suc (suc j))) l = absurd (omega arith)

  pub faces_hold : InBox (low_corner box) (high_corner box) X → (i : ℕ) → i < faces → Satisfies (C i) X
  faces_hold b = six (λ i. Satisfies (C i) X)
      ((Low (C 0) 0 (lit< tt) (number_at box 0) refl).1 (b.least 0 (lit< tt)))
      ((Low (C 1) 1 (lit< tt) (number_at box 1) refl).1 (b.least 1 (lit< tt)))
      ((Low (C 2) 2 (lit< tt) (number_at box 2) refl).1 (b.least 2 (lit< tt)))
      ((High (C 3) 0 (lit< tt) (number_at box 3) refl).1 (b.greatest 0 (lit< tt)))
      ((High (C 4) 1 (lit< tt) (number_at box 4) refl).1 (b.greatest 1 (lit< tt)))
      ((High (C 5) 2 (lit< tt) (number_at box 5) refl).1 (b.greatest 2 (lit< tt)))

-- ---- a grid box
module _ (box : List ℤ) (e : box_within box ≡ true) where
  abbrev low : ℕ → ℤ
  low = low_corner box

  abbrev high : ℕ → ℤ
  high = high_corner box

  pub record Along (j : ℕ) : Type 0 where
    pub least : nat_abs (low j) ≤ grid_limit
    pub greatest : nat_abs (high j) ≤ grid_limit
    pub ordered : le_z (low j) (high j) ≡ true

  axis_is : (j : ℕ) → axis_within box j ≡ true → Along j
  axis_is j e =
      let a = within grid_limit (low j) in
      let b = within grid_limit (high j) in
      let f = both_hold (a && b) (le_z (low j) (high j)) e in
      let g = both_hold a b f.0 in
      record { least = leb-true _ _ g.0; greatest = leb-true _ _ g.1; ordered = f.1 }

  pub grid_box : Along 0 × Along 1 × Along 2
  grid_box =
      let f = both_hold (axis_within box 0 && axis_within box 1) (axis_within box 2) e in
      let g = both_hold (axis_within box 0) (axis_within box 1) f.0 in
      (axis_is 0 g.0, axis_is 1 g.1, axis_is 2 f.1)

  pub numbers_small : (i : ℕ) → i < 6 → nat_abs (number_at box i) ≤ grid_limit
  numbers_small =
      let g = grid_box in
      six (λ i. nat_abs (number_at box i) ≤ grid_limit) g.0.least g.1.least g.2.least g.0.greatest g.1.greatest g.2.greatest

  near : (z : ℤ) → nat_abs z ≤ grid_limit → within distance_limit z ≡ true
  near z h = le-leb (nat_abs z) distance_limit (le_trans h (lit≤ {m = grid_limit} {n = distance_limit} tt))

  near_neg : (z : ℤ) → nat_abs z ≤ grid_limit → within distance_limit (neg_ℤ z) ≡ true
  near_neg z h = near (neg_ℤ z) (subst (λ (n : ℕ). n ≤ grid_limit) (sym (abs_neg z)) h)

  pub faces_within : (i : ℕ) → i < 6 → plane_within (face_at box i) ≡ true
  faces_within =
      let n = numbers_small in
      six (λ i. plane_within (face_at box i) ≡ true)
      (near (number_at box 0) (n 0 (lit< tt))) (near (number_at box 1) (n 1 (lit< tt))) (near (number_at box 2) (n 2 (lit< tt)))
      (near_neg (number_at box 3) (n 3 (lit< tt))) (near_neg (number_at box 4) (n 4 (lit< tt))) (near_neg (number_at box 5) (n 5 (lit< tt)))
