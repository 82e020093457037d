-- What each operation on matrices over lent slices answers and leaves, by the numbers of the refusals. Definitions only.
-- "1 means an input slice's length differs from its record. 2 means an output slice's length differs." "Each is given only on its condition, earliest listed first."
use Rattle.std.specs.Prelude.{Bool, ◌&&◌, List, Float, None, Option, Some}
use Rattle.number.specs.Limits.{point_length, homogeneous_length, matrix_length}
use Rattle.number.specs.Answer.{Reply, refuse, write, Outcome, has, leaving, writing, answering}
use Rattle.matrix.specs.Vec.{vec3_of, vec4_of, coordinates, coordinates4}
use Rattle.matrix.specs.declared.matrix.Mat4d.{Mat4d}
use Rattle.matrix.specs.Matrix.{matrix_of, entries, product, transpose, determinant3, right_handed}
use Rattle.matrix.specs.Inverse.{inverse}
use Rattle.matrix.specs.Transform.{direction, affine, transformed as transformed_point, homogeneous}

unfoldable pub product_call : List Float → List Float → List Float → Reply Float
product_call a b out = writing (has matrix_length a && has matrix_length b) matrix_length (entries (product (matrix_of a) (matrix_of b))) out

unfoldable pub transpose_call : List Float → List Float → Reply Float
transpose_call m out = writing (has matrix_length m) matrix_length (entries (transpose (matrix_of m))) out

-- "4 is singular"
abbrev pub inverse_reply : Option Mat4d → List Float → Reply Float
inverse_reply (Some m) out = write (entries m)
inverse_reply None out = refuse 4 out

unfoldable pub inverse_call : List Float → List Float → Reply Float
inverse_call m out = leaving (has matrix_length m) matrix_length (inverse_reply (inverse (matrix_of m)) out) out

unfoldable pub transform_call : List Float → List Float → List Float → Reply Float
transform_call m p out = writing (has matrix_length m && has point_length p) point_length (coordinates (transformed_point (matrix_of m) (vec3_of p))) out

unfoldable pub affine_call : List Float → List Float → List Float → Reply Float
affine_call m p out = writing (has matrix_length m && has point_length p) point_length (coordinates (affine (matrix_of m) (vec3_of p))) out

unfoldable pub homogeneous_call : List Float → List Float → List Float → Reply Float
homogeneous_call m v out = writing (has matrix_length m && has homogeneous_length v) homogeneous_length (coordinates4 (homogeneous (matrix_of m) (vec4_of v))) out

unfoldable pub direction_call : List Float → List Float → List Float → Reply Float
direction_call m v out = writing (has matrix_length m && has point_length v) point_length (coordinates (direction (matrix_of m) (vec3_of v))) out

unfoldable pub determinant_call : List Float → Outcome Float
determinant_call m = answering (has matrix_length m) (determinant3 (matrix_of m))

unfoldable pub right_handed_call : List Float → Outcome Bool
right_handed_call m = answering (has matrix_length m) (right_handed (matrix_of m))
