-- Boxes at any angle, as Gf's documentation has them: a range, and the matrix that places it in the world. Definitions only.
use Rattle.std.specs.Prelude.{◌+◌, ◌*◌, ◌^◌, Bool, false, cond, not, ◌||◌, List, [], ◌∷◌, ◌++◌, Float, None, Option, Some}
use Rattle.std.specs.Float.Ieee.{lt, le, eq}
use Rattle.number.specs.Limits.{range_length, flag_place}
use Rattle.number.specs.Arithmetic.{◌⊖◌, ◌⊗◌, abs_of, max_of}
use Rattle.number.specs.Slice.{at}
use Rattle.matrix.specs.Constants.{rounded, positive_zero, one}
use Rattle.matrix.specs.Matrix.{entries, matrix, identity, product, determinant3}
use Rattle.matrix.specs.Inverse.{inverse_above, has_inverse}
use Rattle.matrix.specs.Transform.{transformed as transformed_point}
use Rattle.matrix.specs.Range.{range_of, bounds, is_empty, union, size, midpoint, transformed}
use Rattle.matrix.specs.declared.vec.Vec3d.{Vec3d}
use Rattle.matrix.specs.declared.matrix.Mat4d.{Mat4d}
use Rattle.matrix.specs.declared.range.Range3d.{Range3d}
use Rattle.verdict.specs.declared.bbox.BBox3d.{BBox3d}

-- ---- its numbers, "Box 23: range, matrix, zero-area flag 0 or 1"

abbrev pub flag_of : Bool → Float
flag_of b = cond b one positive_zero

abbrev pub numbers : BBox3d → List Float
numbers b = bounds b.range ++ entries b.matrix ++ flag_of b.flag ∷ []

abbrev pub box : Range3d → Mat4d → Bool → BBox3d
box r m f = record { range = r; matrix = m; flag = f }

abbrev pub box_of : List Float → BBox3d
box_of s = box (range_of s) (matrix (λ i j. at s (range_length + i * 4 + j))) (eq (at s flag_place) one)

-- "3 means a kind or flag outside its named values; a zero of either sign counts as 0"
abbrev pub is_flag : Float → Bool
is_flag x = eq x positive_zero || eq x one

-- ---- the inverse "follows from its matrix"

-- "1e-13 for boxes"
abbrev pub box_epsilon : Float
box_epsilon = rounded 1 (10 ^ 13)

abbrev pub into_box : BBox3d → Option Mat4d
into_box b = inverse_above box_epsilon b.matrix

-- it has none
abbrev pub is_degenerate : BBox3d → Bool
is_degenerate b = not (has_inverse (into_box b))

-- ---- in the world

-- from the least to the greatest of the placed box along each axis
abbrev pub aligned_range : BBox3d → Range3d
aligned_range b = transformed b.range b.matrix

abbrev pub centroid : BBox3d → Vec3d
centroid b = transformed_point b.matrix (midpoint b.range)

-- an empty range has none
unfoldable pub volume : BBox3d → Float
volume b =
    let s = size b.range in
    cond (is_empty b.range) positive_zero (abs_of (determinant3 b.matrix ⊗ s.x ⊗ s.y ⊗ s.z))

-- moved by m, as by a turn: "a box takes the product of its placement and the turn"
abbrev pub transformed_box : BBox3d → Mat4d → BBox3d
transformed_box b m = box b.range (product b.matrix m) b.flag

-- ---- combining

-- in the space of a: its range, united with that of b, which b's matrix and then the inverse of a's bring there
unfoldable pub extended : BBox3d → BBox3d → Mat4d → BBox3d
extended a b inverse = box (union a.range (transformed b.range (product b.matrix inverse))) a.matrix a.flag

-- what two volumes may differ by and pass for one: a millionth of the larger, and at least 1e-10
abbrev pub volume_tolerance : Float → Float → Float
volume_tolerance v w = max_of (rounded 1 (10 ^ 6) ⊗ abs_of (max_of v w)) (rounded 1 (10 ^ 10))

-- "`combine` takes the first candidate if it is within the volume tolerance or smaller."
abbrev pub preferred : Float → Float → Bool
preferred v w = le (abs_of (v ⊖ w)) (volume_tolerance v w) || lt v w

unfoldable pub smaller_box : BBox3d → BBox3d → BBox3d
unfolding volume
smaller_box a b = cond (preferred (volume a) (volume b)) a b

abbrev pub aligned : BBox3d → BBox3d → BBox3d
aligned a b = box (union (aligned_range a) (aligned_range b)) identity false

-- Of two boxes whose ranges are not empty, with the inverses of their matrices. There is a candidate in the space of each that has an inverse, and of two the
-- smaller is taken; where neither has one, the range is in the world.
unfoldable pub merged : BBox3d → BBox3d → Option Mat4d → Option Mat4d → BBox3d
unfolding extended smaller_box
merged a b (Some i) (Some j) = smaller_box (extended a b i) (extended b a j)
merged a b (Some i) None = extended a b i
merged a b None (Some j) = extended b a j
merged a b None None = aligned a b

-- where a range is empty it is the other box, and b where both are
unfoldable pub held : BBox3d → BBox3d → BBox3d
unfolding merged
held a b = cond (is_empty a.range) b (cond (is_empty b.range) a (merged a b (into_box a) (into_box b)))

-- "The flag is set if either input's is, even where one range is empty."
unfoldable pub combined : BBox3d → BBox3d → BBox3d
unfolding held
combined a b = box (held a b).range (held a b).matrix (a.flag || b.flag)
