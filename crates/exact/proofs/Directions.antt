-- A direction in a plane, and the line where two planes meet: what is needed to go on from a point along them. The idea: each equation is multiplied out.
-- Assumes nothing.
use mathlib.Core.Path.{◌≡◌}
use Prim.Native.Nat.{ℕ, zero, suc}
use native.Mathlib.Omega.{arith}
use lib.IntN.{ℤ, pos, neg_ℤ, ◌+ℤ◌, ◌*ℤ◌}
use Rattle.whole.proofs.Integer.{of_self as self, of_pos, of_neg, of_eq, eq_of, ◌⊞◌, ◌⊟◌, ◌⊠◌}
use Rattle.exact.specs.Vertex.{minor}

abbrev pub three : ℤ → ℤ → ℤ → ℕ → ℤ
three x y z zero = x
three x y z (suc zero) = y
three x y z (suc (suc i)) = z

-- across each axis a direction in the plane of the normal x y z
pub flat0 : (x y z : ℤ) → x *ℤ neg_ℤ z +ℤ y *ℤ pos 0 +ℤ z *ℤ x ≡ pos 0
flat0 x y z = of_eq (self x ⊠ of_neg (self z) ⊞ self y ⊠ of_pos 0 ⊞ self z ⊠ self x) (of_pos 0) (omega arith)

pub flat1 : (x y z : ℤ) → x *ℤ y +ℤ y *ℤ neg_ℤ x +ℤ z *ℤ pos 0 ≡ pos 0
flat1 x y z = of_eq (self x ⊠ self y ⊞ self y ⊠ of_neg (self x) ⊞ self z ⊠ of_pos 0) (of_pos 0) (omega arith)

pub flat2 : (x y z : ℤ) → x *ℤ pos 0 +ℤ y *ℤ z +ℤ z *ℤ neg_ℤ y ≡ pos 0
flat2 x y z = of_eq (self x ⊠ of_pos 0 ⊞ self y ⊠ self z ⊞ self z ⊠ of_neg (self y)) (of_pos 0) (omega arith)

-- where a second plane does not cross the first along that axis, it holds the direction as well
pub like0 : (f f'' g g' g'' : ℤ) → minor f'' f g'' g ≡ pos 0 → g *ℤ neg_ℤ f'' +ℤ g' *ℤ pos 0 +ℤ g'' *ℤ f ≡ pos 0
like0 f f'' g g' g'' e = of_eq (self g ⊠ of_neg (self f'') ⊞ self g' ⊠ of_pos 0 ⊞ self g'' ⊠ self f) (of_pos 0)
    (omega (arith, eq_of (self f'' ⊠ self g ⊟ self f ⊠ self g'') (of_pos 0) e))

pub like1 : (f f' g g' g'' : ℤ) → minor f f' g g' ≡ pos 0 → g *ℤ f' +ℤ g' *ℤ neg_ℤ f +ℤ g'' *ℤ pos 0 ≡ pos 0
like1 f f' g g' g'' e = of_eq (self g ⊠ self f' ⊞ self g' ⊠ of_neg (self f) ⊞ self g'' ⊠ of_pos 0) (of_pos 0)
    (omega (arith, eq_of (self f ⊠ self g' ⊟ self f' ⊠ self g) (of_pos 0) e))

pub like2 : (f' f'' g g' g'' : ℤ) → minor f' f'' g' g'' ≡ pos 0 → g *ℤ pos 0 +ℤ g' *ℤ f'' +ℤ g'' *ℤ neg_ℤ f' ≡ pos 0
like2 f' f'' g g' g'' e = of_eq (self g ⊠ of_pos 0 ⊞ self g' ⊠ self f'' ⊞ self g'' ⊠ of_neg (self f')) (of_pos 0)
    (omega (arith, eq_of (self f' ⊠ self g'' ⊟ self f'' ⊠ self g') (of_pos 0) e))
