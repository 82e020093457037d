-- What each operation on planes over lent slices answers and leaves, by the numbers of the refusals. Definitions only.
-- "1 means an input slice's length differs from its record. 2 means an output slice's length differs." "Each is given only on its condition, earliest listed first."
use Rattle.std.specs.Prelude.{Bool, ◌&&◌, List, Float}
use Rattle.number.specs.Limits.{point_length, homogeneous_length, matrix_length, plane_length}
use Rattle.number.specs.Answer.{Reply, Outcome, has, writing, attempting, answering}
use Rattle.matrix.specs.Vec.{vec3_of, vec4_of}
use Rattle.matrix.specs.Matrix.{matrix_of}
use Rattle.verdict.specs.Plane.{plane_of, numbers as plane_numbers, facing, from_points, from_equation, distance_to, on_positive_side, transformed as transformed_plane, transformed_numbers}

unfoldable pub new_plane_call : List Float → Float → List Float → Reply Float
new_plane_call n d out = writing (has point_length n) plane_length (plane_numbers (facing (vec3_of n) d)) out

unfoldable pub from_points_call : List Float → List Float → List Float → List Float → Reply Float
from_points_call p0 p1 p2 out = writing (has point_length p0 && has point_length p1 && has point_length p2) plane_length (plane_numbers (from_points (vec3_of p0) (vec3_of p1) (vec3_of p2))) out

unfoldable pub from_equation_call : List Float → List Float → Reply Float
from_equation_call e out = writing (has homogeneous_length e) plane_length (plane_numbers (from_equation (vec4_of e))) out

unfoldable pub distance_call : List Float → List Float → Outcome Float
distance_call p x = answering (has plane_length p && has point_length x) (distance_to (plane_of p) (vec3_of x))

unfoldable pub side_call : List Float → List Float → Outcome Bool
side_call p x = answering (has plane_length p && has point_length x) (on_positive_side (plane_of p) (vec3_of x))

unfoldable pub transformed_plane_call : List Float → List Float → List Float → Reply Float
transformed_plane_call p m out = attempting (has plane_length p && has matrix_length m) plane_length (transformed_numbers (transformed_plane (matrix_of m) (plane_of p))) out
