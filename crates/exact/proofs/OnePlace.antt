-- Two exact points that are one place satisfy the same planes; and a point on three planes is the place of their vertex. The idea: over one k their distances from a
-- plane are the same. Assumes nothing.
use mathlib.Core.Path.{◌≡◌, sym, ◌∙◌}
use Prim.Native.Nat.{ℕ, suc, ◌*◌, ◌<◌}
use native.Mathlib.Omega.{arith}
use lib.Dec.{le→leb, lit<}
use lib.IntN.{ℤ, pos, negsuc, nat_abs, ◌-ℤ◌, ◌*ℤ◌, ◌+ℤ◌}
use lib.Signed.{◌≤ℤ◌}
use Rattle.whole.specs.Plane.{WholePlane, dotℤ}
use Rattle.whole.proofs.Integer.{of_self as self, of_pos, of_neg, of_eq, eq_of, ◌⊟◌, ◌⊠◌}
use Rattle.whole.proofs.Dot.{dot_times}
use Rattle.exact.specs.ExactPoint.{ExactPoint, Satisfies}
use Rattle.exact.specs.Vertex.{signed_by}
use Rattle.exact.proofs.Crossing.{gap_of}

module _ (X Y : ExactPoint) (same : (j : ℕ) → j < 3 → pos Y.k *ℤ X.numbers j ≡ pos X.k *ℤ Y.numbers j) where
  same_gap : (Q : WholePlane) → pos Y.k *ℤ gap_of Q X ≡ pos X.k *ℤ gap_of Q Y
  same_gap Q =
      let n = Q.normal in
      open_out Y.k X.k (dotℤ n X.numbers) Q.distance
      ∙ (λ t. (sym (dot_times n X.numbers (pos Y.k)) ∙ moved n ∙ dot_times n Y.numbers (pos X.k)) t -ℤ pos (Y.k * X.k) *ℤ Q.distance)
      ∙ close_up X.k Y.k (dotℤ n Y.numbers) Q.distance
    where
      moved : (n : ℕ → ℤ) → dotℤ n (λ j. pos Y.k *ℤ X.numbers j) ≡ dotℤ n (λ j. pos X.k *ℤ Y.numbers j)
      moved n t = n 0 *ℤ same 0 (lit< tt) t +ℤ n 1 *ℤ same 1 (lit< tt) t +ℤ n 2 *ℤ same 2 (lit< tt) t

      open_out : (l k : ℕ) (y d : ℤ) → pos l *ℤ (y -ℤ pos k *ℤ d) ≡ pos l *ℤ y -ℤ pos (l * k) *ℤ d
      open_out l k y d = of_eq (of_pos l ⊠ (self y ⊟ of_pos k ⊠ self d)) (of_pos l ⊠ self y ⊟ of_pos (l * k) ⊠ self d) (omega arith)

      close_up : (k l : ℕ) (y d : ℤ) → pos k *ℤ y -ℤ pos (l * k) *ℤ d ≡ pos k *ℤ (y -ℤ pos l *ℤ d)
      close_up k l y d = of_eq (of_pos k ⊠ self y ⊟ of_pos (l * k) ⊠ self d) (of_pos k ⊠ (self y ⊟ of_pos l ⊠ self d)) (omega arith)

  pub same_side : (Q : WholePlane) → Satisfies Q X → Satisfies Q Y
  same_side Q h = record { side = go (gap_of Q X) (gap_of Q Y) (same_gap Q) h.side }
    where
      go : (x y : ℤ) → pos Y.k *ℤ x ≡ pos X.k *ℤ y → pos 0 ≤ℤ x → pos 0 ≤ℤ y
      go x (pos y) e l = record { le = le→leb 0 y (omega arith) }
      go (pos x) (negsuc y) e l = absurd (
          let f = eq_of (of_pos Y.k ⊠ of_pos x) (of_pos X.k ⊠ self (negsuc y)) e in
          omega (arith, f, X.some))
      go (negsuc x) (negsuc y) e l = absurd l.le

pub vertex_place : (D x v : ℤ) (k : ℕ) → D *ℤ x ≡ pos k *ℤ v → pos (nat_abs D) *ℤ x ≡ pos k *ℤ signed_by D v
vertex_place (pos m) x v k e = e
vertex_place (negsuc m) x v k e = of_eq (of_pos (suc m) ⊠ self x) (of_pos k ⊠ of_neg (self v)) (omega (arith, eq_of (self (negsuc m) ⊠ self x) (of_pos k ⊠ self v) e))
