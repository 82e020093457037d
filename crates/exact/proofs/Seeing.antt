-- What the tests of a point say, one constraint after another, and of the vertices that are tried one after another. Assumes nothing.
use mathlib.Core.Path.{◌≡◌, sym, ap, subst, ◌∙◌}
use mathlib.Core.Logic.{◌⊎◌, inl, inr}
use mathlib.Core.Bool.{Bool, true, false}
use mathlib.Core.List.{List}
use Prim.Native.Nat.{ℕ, ◌+◌, ◌<◌}
use native.Mathlib.Nat.{eq-or-lt_of_le}
use native.Mathlib.Omega.{arith}
use lib.Dec.{T}
use lib.IntN.{ℤ, pos}
use lib.Signed.{le_z, ◌≤ℤ◌}
use Rattle.whole.specs.Plane.{WholePlane}
use Rattle.exact.specs.declared.plane.Plane.{Plane}
use Rattle.exact.specs.declared.plane.Point.{Point}
use Rattle.exact.specs.Steps.{plane_of, plane, gap_at, constraint_at, Seen}

pub clash : true ≡ false → ⊥
clash e = subst T e tt

-- what holds of all below n, and of n, holds of all below n + 1
pub up_to : (K : ℕ → Type 0) (n : ℕ) → ((i : ℕ) → i < n → K i) → K n → (i : ℕ) → i < n + 1 → K i
up_to K n below last i l = go (eq-or-lt_of_le (omega arith))
  where
    go : (i ≡ n) ⊎ (i < n) → K i
    go (inl e) = subst K (sym e) last
    go (inr k) = below i k

-- ---- a test of a constraint, as it was read
module _ (p : Point) (P : WholePlane) (q : Plane) (e : q ≡ plane P) (r : Bool) (f : r ≡ le_z (pos 0) (gap_at (plane_of q) p)) where
  said : r ≡ le_z (pos 0) (gap_at P p)
  said = f ∙ ap (λ (q : Plane). le_z (pos 0) (gap_at (plane_of q) p)) e

  pub it_holds : r ≡ true → pos 0 ≤ℤ gap_at P p
  it_holds t = record { le = subst T (sym t ∙ said) tt }

  pub it_fails : r ≡ false → ¬ (pos 0 ≤ℤ gap_at P p)
  it_fails t h = subst T (sym said ∙ t) h.le

module _ {view box : List ℤ} {p : Point} where
  pub none_seen : Seen view box 0 p
  none_seen = record { each = λ i l. absurd (omega arith) }

  pub one_seen : (n : ℕ) → Seen view box n p → pos 0 ≤ℤ gap_at (constraint_at view box n) p → Seen view box (n + 1) p
  one_seen n s h = record { each = up_to (λ i. pos 0 ≤ℤ gap_at (constraint_at view box i) p) n s.each h }
