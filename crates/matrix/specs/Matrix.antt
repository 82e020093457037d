-- Matrices of four rows and four columns for row vectors, as Gf's documentation has them. Definitions only.
use Rattle.std.specs.Prelude.{ℕ, ◌+◌, ◌*◌, ◌%◌, Bool, cond, List, ◌++◌, eqb, Float}
use Rattle.std.specs.Float.Ieee.{lt}
use Rattle.number.specs.Arithmetic.{◌⊕◌, ◌⊖◌, ◌⊗◌}
use Rattle.number.specs.Slice.{at}
use Rattle.matrix.specs.declared.vec.Vec3d.{Vec3d}
use Rattle.matrix.specs.declared.matrix.Mat4d.{Mat4d}
use Rattle.matrix.specs.Constants.{positive_zero, one}
use Rattle.matrix.specs.Vec.{coordinates4, vec3, vec4}

-- ---- its numbers, "matrices row by row"

abbrev pub entries : Mat4d → List Float
entries m = coordinates4 m.r0 ++ coordinates4 m.r1 ++ coordinates4 m.r2 ++ coordinates4 m.r3

-- at row i and column j
abbrev pub entry : Mat4d → ℕ → ℕ → Float
entry m i j = at (entries m) (i * 4 + j)

-- the matrix with f i j at row i and column j
abbrev pub matrix : (ℕ → ℕ → Float) → Mat4d
matrix f = record { r0 = vec4 (f 0); r1 = vec4 (f 1); r2 = vec4 (f 2); r3 = vec4 (f 3) }

abbrev pub matrix_of : List Float → Mat4d
matrix_of s = matrix (λ i j. at s (i * 4 + j))

-- 1 down the diagonal and 0 elsewhere
abbrev pub identity : Mat4d
identity = matrix (λ i j. cond (eqb i j) one positive_zero)

-- what is added to a moved point: the last row
abbrev pub translation : Mat4d → Vec3d
translation m = vec3 (entry m 3)

-- ---- product and transpose

-- a row times a matrix: at column j its numbers times those of the column, added to 0 one after another
abbrev pub row_times : (ℕ → Float) → Mat4d → ℕ → Float
row_times row m j = positive_zero ⊕ row 0 ⊗ entry m 0 j ⊕ row 1 ⊗ entry m 1 j ⊕ row 2 ⊗ entry m 2 j ⊕ row 3 ⊗ entry m 3 j

-- at row i and column j the row i of a times the column j of b
unfoldable pub product : Mat4d → Mat4d → Mat4d
product a b = matrix (λ i j. row_times (entry a i) b j)

abbrev pub transpose : Mat4d → Mat4d
transpose m = matrix (λ i j. entry m j i)

-- ---- the upper left three by three

-- a product down to the right from number j of the first row, and one down to the left, columns counted round
abbrev pub down_right : Mat4d → ℕ → Float
down_right m j = entry m 0 j ⊗ entry m 1 ((j + 1) % 3) ⊗ entry m 2 ((j + 2) % 3)

abbrev pub down_left : Mat4d → ℕ → Float
down_left m j = entry m 0 j ⊗ entry m 1 ((j + 2) % 3) ⊗ entry m 2 ((j + 1) % 3)

-- its determinant, by the rule of Sarrus
abbrev pub determinant3 : Mat4d → Float
determinant3 m = down_right m 0 ⊕ down_right m 1 ⊕ down_right m 2 ⊖ down_left m 0 ⊖ down_left m 1 ⊖ down_left m 2

-- it is above 0: nothing is mirrored
abbrev pub right_handed : Mat4d → Bool
right_handed m = lt positive_zero (determinant3 m)
