-- Where a constraint fails at a point that those before it have in view, no exact point satisfies it and them unless a vertex of it and two of them does: one step of the
-- search. The idea: between the two points is one on the constraint, from which two more constraints are met, and what lies on three planes is their vertex. A
-- constraint whose normal is 0 holds everywhere or nowhere. Assumes nothing.
use mathlib.Core.Path.{◌≡◌, refl, sym, ap, ◌∙◌}
use mathlib.Core.Logic.{◌⊎◌, inl, inr}
use mathlib.Core.Bool.{Bool, true, false}
use mathlib.Core.List.{List}
use Prim.Native.Nat.{ℕ, zero, suc, ◌+◌, ◌≤◌, ◌<◌}
use native.Mathlib.Nat.{eq-or-lt_of_le}
use native.Mathlib.Omega.{arith}
use borrow.Author.Tests.{ltb-true, ltb-false}
use lib.Dec.{ltb, lit<}
use lib.IntN.{ℤ, pos, negsuc, neg_ℤ, nat_abs, ◌+ℤ◌, ◌-ℤ◌, ◌*ℤ◌, neg_ℤ-neg_ℤ}
use lib.Signed.{◌≤ℤ◌}
use Rattle.whole.specs.Plane.{WholePlane}
use Rattle.whole.proofs.Integer.{hi, lo, of_self as self, of_pos, of_neg, of_eq, eq_of, of_le, ◌⊞◌, ◌⊟◌, ◌⊠◌}
use Rattle.exact.specs.ExactPoint.{ExactPoint, Satisfies, InBox}
use Rattle.exact.specs.BBoxCall.{low_corner, high_corner}
use Rattle.exact.specs.Vertex.{determinant, vertex_at}
use Rattle.exact.specs.Steps.{vec_of, vertex_of, faces, constraint_at, Shared, Good}
use Rattle.exact.proofs.Crossing.{gap_of, On, on_side, crossing, Holds, one_more, kept}
use Rattle.exact.proofs.Cramer.{cramer, swapped}
use Rattle.exact.proofs.Onward.{Met, on_plane}
use Rattle.exact.proofs.OnePlace.{same_side, vertex_place}
use Rattle.exact.proofs.Faces.{in_box}

pub is_zero : (z : ℤ) → (z ≡ pos 0) ⊎ (¬ (z ≡ pos 0))
is_zero (pos zero) = inl refl
is_zero (pos (suc m)) = inr (λ e. absurd (omega (arith, ap hi e)))
is_zero (negsuc m) = inr (λ e. absurd (omega (arith, ap lo e)))

pub some_size : (z : ℤ) → ¬ (z ≡ pos 0) → 1 ≤ nat_abs z
some_size (pos zero) n = absurd (n refl)
some_size (pos (suc m)) n = omega arith
some_size (negsuc m) n = omega arith

-- ---- a plane with a normal of 0 holds everywhere or nowhere
zero_gap : (A : WholePlane) (X : ExactPoint) → A.normal 0 ≡ pos 0 → A.normal 1 ≡ pos 0 → A.normal 2 ≡ pos 0 → gap_of A X ≡ pos 0 -ℤ pos X.k *ℤ A.distance
zero_gap A X e f g =
    (λ t. e t *ℤ X.numbers 0 +ℤ f t *ℤ X.numbers 1 +ℤ g t *ℤ X.numbers 2 -ℤ pos X.k *ℤ A.distance)
    ∙ (λ t. zeros (X.numbers 0) (X.numbers 1) (X.numbers 2) t -ℤ pos X.k *ℤ A.distance)
  where
    zeros : (x y z : ℤ) → pos 0 *ℤ x +ℤ pos 0 *ℤ y +ℤ pos 0 *ℤ z ≡ pos 0
    zeros x y z = of_eq (of_pos 0 ⊠ self x ⊞ of_pos 0 ⊠ self y ⊞ of_pos 0 ⊠ self z) (of_pos 0) (omega arith)

no_normal : (k l : ℕ) (d : ℤ) → 1 ≤ l → pos 0 ≤ℤ (pos 0 -ℤ pos l *ℤ d) → pos 0 ≤ℤ (pos 0 -ℤ pos k *ℤ d)
no_normal k l (pos zero) L h = (of_le (of_pos 0) (of_pos 0 ⊟ of_pos k ⊠ of_pos 0)).1 (omega arith)
no_normal k l (pos (suc m)) L h = absurd (omega (arith, (of_le (of_pos 0) (of_pos 0 ⊟ of_pos l ⊠ of_pos (suc m))).0 h))
no_normal k l (negsuc m) L h = (of_le (of_pos 0) (of_pos 0 ⊟ of_pos k ⊠ self (negsuc m))).1 (omega arith)

-- ---- the vertex as an exact point
module _ (A B C : WholePlane) (n : ¬ (determinant A B C ≡ pos 0)) where
  abbrev vertex : ExactPoint
  vertex = record { numbers = vec_of (vertex_of A B C).numbers; k = nat_abs (determinant A B C); some = some_size (determinant A B C) n }

  -- what lies on all three planes is that place
  one_place : (X : ExactPoint) → On A X → On B X → On C X → (j : ℕ) → j < 3 → pos vertex.k *ℤ X.numbers j ≡ pos X.k *ℤ vertex.numbers j
  one_place X a b c zero l = vertex_place (determinant A B C) (X.numbers 0) (vertex_at A B C 0) X.k (cramer A B C X a b c 0 (lit< tt))
  one_place X a b c (suc zero) l = vertex_place (determinant A B C) (X.numbers 1) (vertex_at A B C 1) X.k (cramer A B C X a b c 1 (lit< tt))
  one_place X a b c (suc (suc zero)) l = vertex_place (determinant A B C) (X.numbers 2) (vertex_at A B C 2) X.k (cramer A B C X a b c 2 (lit< tt))
  one_place X a b c (suc (suc (suc j))) l = absurd (omega arith)

module _ (view box : List ℤ) (n : ℕ) where
  abbrev K : ℕ → WholePlane
  K = constraint_at view box

  -- ---- a point on the constraint n and two before it, which satisfies all before n
  module _ (b c : ℕ) (single : ¬ (determinant (K n) (K b) (K c) ≡ pos 0)) (X : ExactPoint) (on : On (K n) X) (on_b : On (K b) X) (on_c : On (K c) X) (seen : Holds K n X) where
    good : Good view box n b c
    good = record {
      single = λ e. let s = some_size (determinant (K n) (K b) (K c)) single in absurd (omega (arith, ap hi e));
      seen = record {
        each = λ i l. (same_side X (vertex (K n) (K b) (K c) single) (one_place (K n) (K b) (K c) single X on on_b on_c) (K i) (all.each i (omega arith))).side;
      };
    }
      where
        all : Holds K (suc n) X
        all = one_more K seen (on_side on)

  -- the two in the order of the search
  module _ (none : (b c : ℕ) → b < n → c < b → ¬ Good view box n b c) (U : ExactPoint) (u : Holds K n U) (failed : ¬ Satisfies (K n) U) (f : faces ≤ n) where
    bounded : (X : ExactPoint) → Holds K n X → InBox (low_corner box) (high_corner box) X
    bounded X h = in_box view box X (λ i l. h.each i (omega arith))

    turned : (b c : ℕ) → ¬ (determinant (K n) (K b) (K c) ≡ pos 0) → ¬ (determinant (K n) (K c) (K b) ≡ pos 0)
    turned b c s e = s (sym (neg_ℤ-neg_ℤ (determinant (K n) (K b) (K c))) ∙ ap neg_ℤ (sym (swapped (K n) (K b) (K c)) ∙ e))

    met_none : Met K n (low_corner box) (high_corner box) bounded (K n) → ⊥
    met_none m = go (ltb m.third m.second) refl
      where
        halves : (z : ℤ) → z ≡ neg_ℤ z → z ≡ pos 0
        halves z e = of_eq (self z) (of_pos 0) (omega (arith, eq_of (self z) (of_neg (self z)) e))

        later : (m.second ≡ m.third) ⊎ (m.second < m.third) → ⊥
        later (inr l) = none m.third m.second m.below.1 l
            (good m.third m.second (turned m.second m.third m.single) m.point m.on.0 m.on.2 m.on.1 m.seen)
        later (inl e) = m.single (halves (determinant (K n) (K m.second) (K m.third))
            ((λ t. determinant (K n) (K (e t)) (K (sym e t))) ∙ swapped (K n) (K m.second) (K m.third)))

        go : (b : Bool) → ltb m.third m.second ≡ b → ⊥
        go true e = none m.second m.third m.below.0 (ltb-true m.third m.second e)
            (good m.second m.third m.single m.point m.on.0 m.on.1 m.on.2 m.seen)
        go false e = later (eq-or-lt_of_le (ltb-false m.third m.second e))

    pub none_shared : ¬ Shared view box (n + 1)
    none_shared s = elim (crossing (K n) U X (s.each n (omega arith))) [
      | inl t ↦ failed t
      | inr c ↦
          let w = kept K c.between u (record { each = λ i l. s.each i (omega arith) }) in
          elim (is_zero ((K n).normal 0)) [
            | inr z ↦ met_none (on_plane K n (low_corner box) (high_corner box) bounded (K n) c.point c.on w 0 (lit< tt) z)
            | inl e ↦ elim (is_zero ((K n).normal 1)) [
              | inr z ↦ met_none (on_plane K n (low_corner box) (high_corner box) bounded (K n) c.point c.on w 1 (lit< tt) z)
              | inl g ↦ elim (is_zero ((K n).normal 2)) [
                | inr z ↦ met_none (on_plane K n (low_corner box) (high_corner box) bounded (K n) c.point c.on w 2 (lit< tt) z)
                | inl h ↦ failed (flat e g h)
              ]
            ]
          ]
    ]
      where
        X : ExactPoint
        X = s.point

        flat : (K n).normal 0 ≡ pos 0 → (K n).normal 1 ≡ pos 0 → (K n).normal 2 ≡ pos 0 → Satisfies (K n) U
        flat e g h = record {
          side = rw (zero_gap (K n) U e g h) (no_normal U.k X.k (K n).distance X.some (rw (zero_gap (K n) X e g h) at (s.each n (omega arith)).side));
        }
