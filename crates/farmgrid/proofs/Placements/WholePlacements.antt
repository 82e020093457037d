-- The operations on placements are exact: the point operation, the product, and a homogeneous point through a transposed placement compute the whole
-- numbers. The idea: the numbers of a placement are no larger than its translation, at most 2 ^ 20 here, so that the laws
-- of whole matrices hold of them; and the point operation divides by exactly 1. Assumes nothing.
use mathlib.Core.Path.{ap}
use Prim.Native.Nat.{ℕ, ◌^◌, ◌≤◌, ◌<◌}
use native.Mathlib.Omega.{arith}
use lib.Dec.{lit≤}
use lib.IntN.{ℤ, nat_abs}
use Rattle.farmgrid.proofs.Numbers.Fit.{Fit}
use Rattle.matrix.specs.declared.vec.Vec3d.{Vec3d}
use Rattle.matrix.specs.declared.vec.Vec4d.{Vec4d}
use Rattle.matrix.specs.declared.matrix.Mat4d.{Mat4d}
use Rattle.matrix.specs.Matrix.{entry, product, transpose}
use Rattle.matrix.specs.Transform as Transform
use Rattle.matrix.specs.Transform.{homogeneous}
use Rattle.farmgrid.specs.Placement.{WholeVec, WholeVec4, WholeMatrix, Within, MatrixWithin, PlacementWithin}
use Rattle.placed.specs.Placement.{movedℤ}
use Rattle.farmgrid.specs.Placement.{dot4ℤ, productℤ}
use Rattle.farmgrid.proofs.Placements.Singles.{four}
use Rattle.farmgrid.proofs.Placements.QuarterTurns.{upper_size}
use Rattle.farmgrid.proofs.Placements.WholeMatrices.{point_computed, product_computed, transpose_whole, homogeneous_computed}

-- the bound of coordinates and translations under which all this is exact, far more than the grid needs
abbrev pub wide : ℕ
wide = 2 ^ 20

-- the numbers of a placement are no larger than its translation may be
pub entry_size : {b : ℕ} {f : ℕ → ℕ → ℤ} → 1 ≤ b → PlacementWithin b f → (i j : ℕ) → i < 4 → j < 4 → nat_abs (f i j) ≤ b
entry_size {b} {f} l F i j h k = four (λ i. nat_abs (f i j) ≤ b) upper (four (λ j. nat_abs (f 3 j) ≤ b) F.translation.size corner j k) i h
  where
    corner : nat_abs (f 3 3) ≤ b
    corner = omega (arith, ap nat_abs F.last)

    upper : (i : ℕ) → i < 3 → nat_abs (f i j) ≤ b
    upper i h = omega (arith, upper_size F i j h k)

pub entry_fit : {m : Mat4d} {f : ℕ → ℕ → ℤ} → WholeMatrix m f → PlacementWithin wide f
    → (i j : ℕ) → i < 4 → j < 4 → Fit (entry m i j) (f i j) wide
entry_fit M F i j h k = record { whole = M.at i j h k; size = entry_size (lit≤ tt) F i j h k }

sized : {f : ℕ → ℕ → ℤ} → PlacementWithin wide f → MatrixWithin wide f
sized F = record { size = entry_size (lit≤ tt) F }

-- a point through a placement
pub point_whole : {m : Mat4d} {f : ℕ → ℕ → ℤ} → WholeMatrix m f → PlacementWithin wide f → {v : Vec3d} {p : ℕ → ℤ} → WholeVec v p → Within wide p
    → WholeVec (Transform.transformed m v) (movedℤ f p)
point_whole M F W P = point_computed (lit≤ tt) M (sized F) W P F.zeros F.last

-- the product of two placements
pub product_whole : {m n : Mat4d} {f g : ℕ → ℕ → ℤ} → WholeMatrix m f → PlacementWithin wide f → WholeMatrix n g → PlacementWithin wide g
    → WholeMatrix (product m n) (productℤ f g)
product_whole M F N G = product_computed (lit≤ tt) M (sized F) N (sized G)

-- through a transposed placement: the point's numbers times each row
pub transposed_whole : {m : Mat4d} {f : ℕ → ℕ → ℤ} {v : Vec4d} {p : ℕ → ℤ} → WholeMatrix m f → PlacementWithin wide f → WholeVec4 v p
    → ((i : ℕ) → i < 4 → nat_abs (p i) ≤ 2 ^ 26) → WholeVec4 (homogeneous (transpose m) v) (λ j. dot4ℤ p (f j))
transposed_whole {f = f} M F =
    homogeneous_computed (lit≤ tt) (transpose_whole M) (record { size = λ i j h k. entry_size (lit≤ tt) F j i k h })
