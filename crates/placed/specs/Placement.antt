-- Boxes in whole numbers: a range, and the matrix that places it. Definitions only.
-- A whole point is its coordinates by axis, 0, 1 and 2, and a whole matrix its numbers by row and column, from 0 to 3.
use Rattle.std.specs.Prelude.{ℕ, ◌+◌, ◌*◌, Bool, cond, ◌&&◌, List, eqb, ℤ, pos, nat_abs, ◌+ℤ◌}
use Rattle.std.specs.Int.Signed.{lt_z, le_z}
use Rattle.number.specs.Limits.{range_length, grid_limit}
use Rattle.whole.specs.Plane.{dotℤ}
use Rattle.whole.specs.SegmentCall.{number_at, within, point_within}

-- ---- exact operations

-- column j of a matrix
abbrev pub columnℤ : (ℕ → ℕ → ℤ) → ℕ → ℕ → ℤ
columnℤ f j i = f i j

-- a direction through a matrix: its row times each column
abbrev pub turnedℤ : (ℕ → ℕ → ℤ) → (ℕ → ℤ) → ℕ → ℤ
turnedℤ f p j = dotℤ p (columnℤ f j)

-- "It moves a point by the point operation": turned, and moved by the translation, which is the last row
abbrev pub movedℤ : (ℕ → ℕ → ℤ) → (ℕ → ℤ) → ℕ → ℤ
movedℤ f p j = turnedℤ f p j +ℤ f 3 j

-- the sizes of three numbers together; that is 1 where one of them is 1 or -1 and the others are 0, and only there
abbrev pub sizes : (ℕ → ℤ) → ℕ
sizes p = nat_abs (p 0) + nat_abs (p 1) + nat_abs (p 2)

abbrev pub smaller : ℤ → ℤ → ℤ
smaller a b = cond (lt_z b a) b a

abbrev pub larger : ℤ → ℤ → ℤ
larger a b = cond (lt_z a b) b a

-- ---- boxes

-- a range from low to high, and the matrix that places it
pub record WholeBox : Type 0 where
  pub low : ℕ → ℤ
  pub high : ℕ → ℤ
  pub matrix : ℕ → ℕ → ℤ

-- the box of a record in whole numbers, whose range and matrix stand in front of its flag
abbrev pub box_of : List ℤ → WholeBox
box_of s = record { low = λ j. number_at s j; high = λ j. number_at s (3 + j); matrix = λ i j. number_at s (range_length + i * 4 + j) }

-- The placed box, by axis: a quarter turn takes the two opposite corners of a range to opposite corners, so that these two tell the least and the greatest of all eight.
abbrev pub placed_least : WholeBox → ℕ → ℤ
placed_least B j = smaller (movedℤ B.matrix B.low j) (movedℤ B.matrix B.high j)

abbrev pub placed_greatest : WholeBox → ℕ → ℤ
placed_greatest B j = larger (movedℤ B.matrix B.low j) (movedℤ B.matrix B.high j)

-- ---- "Grid boxes have [..] non-empty ranges with grid corners, such a placement, and placed corners on the grid."

-- a and b are the same number
abbrev pub same_number : ℤ → ℤ → Bool
same_number a b = le_z a b && le_z b a

-- Along an axis: both corners on the grid, and the least not past the greatest; "exactly one 1 or −1 and otherwise zeros in every row and column of its upper three by
-- three"; a "translation [..] at most 65,536 in size"; and a 0 in the last column.
abbrev pub grid_along : WholeBox → ℕ → Bool
grid_along B i =
    within grid_limit (B.low i) && within grid_limit (B.high i) && le_z (B.low i) (B.high i)
    && eqb (sizes (B.matrix i)) 1 && eqb (sizes (columnℤ B.matrix i)) 1
    && within grid_limit (B.matrix 3 i) && same_number (B.matrix i 3) (pos 0)

-- so along each axis, "its last column is 0,0,0,1", and the placed corners are on the grid
abbrev pub quarter_turned : WholeBox → Bool
quarter_turned B = grid_along B 0 && grid_along B 1 && grid_along B 2 && same_number (B.matrix 3 3) (pos 1)

abbrev pub is_grid_box : WholeBox → Bool
is_grid_box B = quarter_turned B && point_within (placed_least B) && point_within (placed_greatest B)
