-- Whole-number points and matrices, and the quarter-turn placements of the farm grid. Definitions only.
-- A whole point is its coordinates by axis, 0, 1 and 2, and a whole matrix its numbers by row and column, from 0 to 3. `sizes p` adds up the sizes of three numbers, and
-- `movedℤ f` moves a point by a matrix (placed/specs/Placement).
use Rattle.std.specs.Prelude.{◌≡◌, ℕ, zero, suc, ◌/◌, ◌%◌, ◌^◌, ◌≤◌, ◌<◌, cond, eqb, ℤ, pos, nat_abs, ◌+ℤ◌, ◌*ℤ◌, ◌≤ℤ◌}
use Rattle.number.specs.Limits.{grid_limit}
use Rattle.whole.specs.Plane.{dotℤ}
use Rattle.placed.specs.Placement.{columnℤ, movedℤ, sizes, smaller, larger}
use Rattle.farmgrid.specs.Whole.{Whole}
use Rattle.matrix.specs.declared.vec.Vec3d.{Vec3d}
use Rattle.matrix.specs.declared.vec.Vec4d.{Vec4d}
use Rattle.matrix.specs.declared.matrix.Mat4d.{Mat4d}
use Rattle.matrix.specs.declared.range.Range3d.{Range3d}
use Rattle.matrix.specs.Vec.{axis, axis4}
use Rattle.matrix.specs.Matrix.{entry}

-- ---- floats that are given whole numbers, "zeros of either sign alike"

pub record WholeVec (v : Vec3d) (p : ℕ → ℤ) : Type 0 where
  pub at : (i : ℕ) → i < 3 → Whole (axis v i) (p i)

pub record WholeVec4 (v : Vec4d) (p : ℕ → ℤ) : Type 0 where
  pub at : (i : ℕ) → i < 4 → Whole (axis4 v i) (p i)

pub record WholeRange (r : Range3d) (low high : ℕ → ℤ) : Type 0 where
  pub min : WholeVec r.min low
  pub max : WholeVec r.max high

pub record WholeMatrix (m : Mat4d) (f : ℕ → ℕ → ℤ) : Type 0 where
  pub at : (i j : ℕ) → i < 4 → j < 4 → Whole (entry m i j) (f i j)

-- "of size at most" b, along each axis
pub record Within (b : ℕ) (p : ℕ → ℤ) : Type 0 where
  pub size : (i : ℕ) → i < 3 → nat_abs (p i) ≤ b

-- and for every number of a matrix
pub record MatrixWithin (b : ℕ) (f : ℕ → ℕ → ℤ) : Type 0 where
  pub size : (i j : ℕ) → i < 4 → j < 4 → nat_abs (f i j) ≤ b

-- "Empty means min > max on some axis."
pub record NonEmpty (low high : ℕ → ℤ) : Type 0 where
  pub ordered : (i : ℕ) → i < 3 → low i ≤ℤ high i

-- ---- exact operations

abbrev pub dot4ℤ : (ℕ → ℤ) → (ℕ → ℤ) → ℤ
dot4ℤ p q = dotℤ p q +ℤ p 3 *ℤ q 3

-- at row i and column j the row i of f times the column j of g
abbrev pub productℤ : (ℕ → ℕ → ℤ) → (ℕ → ℕ → ℤ) → ℕ → ℕ → ℤ
productℤ f g i j = dot4ℤ (f i) (columnℤ g j)

-- ---- quarter-turn placements

-- "exactly one 1 or −1 and otherwise zeros in every row and column of its upper three by three; mirrors count"
pub record QuarterTurn (f : ℕ → ℕ → ℤ) : Type 0 where
  pub rows : (i : ℕ) → i < 3 → sizes (f i) ≡ 1
  pub columns : (j : ℕ) → j < 3 → sizes (columnℤ f j) ≡ 1

-- a quarter turn with a whole translation of size at most b: "its last column is 0,0,0,1"
pub record PlacementWithin (b : ℕ) (f : ℕ → ℕ → ℤ) : Type 0 where
  pub turn : QuarterTurn f
  pub translation : Within b (f 3)
  pub zeros : (i : ℕ) → i < 3 → f i 3 ≡ pos 0
  pub last : f 3 3 ≡ pos 1

-- "Grid points have whole coordinates of size at most 65,536."
abbrev pub GridPoint : (ℕ → ℤ) → Type 0
GridPoint = Within grid_limit

-- "Its translation is whole, at most 65,536 in size"
abbrev pub Placement : (ℕ → ℕ → ℤ) → Type 0
Placement = PlacementWithin grid_limit

-- the matrix is the quarter-turn placement f
pub record Placed (m : Mat4d) (f : ℕ → ℕ → ℤ) : Type 0 where
  pub numbers : WholeMatrix m f
  pub placement : Placement f

-- ---- the corners of a range, and the least and the greatest of several numbers

-- corner k of eight, counted as `Range.corner` counts them: along axis a the greatest where bit a of k is set
abbrev pub cornerℤ : (ℕ → ℤ) → (ℕ → ℤ) → ℕ → ℕ → ℤ
cornerℤ low high k a = cond (eqb (k / 2 ^ a % 2) 1) (high a) (low a)

-- one of g 0, g 1, .., g n, picked by comparing them one after another
unfoldable pub picked_of : (ℤ → ℤ → ℤ) → ℕ → (ℕ → ℤ) → ℤ
picked_of pick zero g = g 0
picked_of pick (suc n) g = pick (picked_of pick n g) (g (suc n))

abbrev pub least_of : ℕ → (ℕ → ℤ) → ℤ
least_of = picked_of smaller

abbrev pub greatest_of : ℕ → (ℕ → ℤ) → ℤ
greatest_of = picked_of larger

-- "A box's placed corners are its range's eight corners moved by its placement": corner k along axis j
abbrev pub placed_corner : (ℕ → ℕ → ℤ) → (ℕ → ℤ) → (ℕ → ℤ) → ℕ → ℕ → ℤ
placed_corner f low high j k = movedℤ f (cornerℤ low high k) j

-- "the least" and "the greatest of that coordinate among them"
abbrev pub placed_low : (ℕ → ℕ → ℤ) → (ℕ → ℤ) → (ℕ → ℤ) → ℕ → ℤ
placed_low f low high j = least_of 7 (placed_corner f low high j)

abbrev pub placed_high : (ℕ → ℕ → ℤ) → (ℕ → ℤ) → (ℕ → ℤ) → ℕ → ℤ
placed_high f low high j = greatest_of 7 (placed_corner f low high j)
