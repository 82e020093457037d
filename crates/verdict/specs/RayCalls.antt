-- What each operation on rays over lent slices answers and leaves, by the numbers of the refusals. Definitions only.
-- "1 means an input slice's length differs from its record. 2 means an output slice's length differs." "Each is given only on its condition, earliest listed first."
use Rattle.std.specs.Prelude.{◌&&◌, List, Float}
use Rattle.number.specs.Limits.{point_length, matrix_length, plane_length, ray_length, hit_length, plane_hit_length}
use Rattle.number.specs.Answer.{Reply, has, writing, attempting}
use Rattle.matrix.specs.Vec.{vec3_of, coordinates}
use Rattle.matrix.specs.Matrix.{matrix_of}
use Rattle.verdict.specs.Plane.{plane_of}
use Rattle.verdict.specs.Ray.{ray_of, numbers as ray_numbers, point_at, transformed as transformed_ray, plane_hit, plane_hit_numbers, triangle_hit, triangle_hit_numbers}

unfoldable pub point_call : List Float → Float → List Float → Reply Float
point_call r d out = writing (has ray_length r) point_length (coordinates (point_at (ray_of r) d)) out

unfoldable pub transformed_ray_call : List Float → List Float → List Float → Reply Float
transformed_ray_call r m out = writing (has ray_length r && has matrix_length m) ray_length (ray_numbers (transformed_ray (matrix_of m) (ray_of r))) out

unfoldable pub plane_hit_call : List Float → List Float → List Float → Reply Float
plane_hit_call r p out = attempting (has ray_length r && has plane_length p) plane_hit_length (plane_hit_numbers (plane_hit (ray_of r) (plane_of p))) out

unfoldable pub triangle_hit_call : List Float → List Float → List Float → List Float → List Float → Reply Float
triangle_hit_call r p0 p1 p2 out =
    attempting (has ray_length r && has point_length p0 && has point_length p1 && has point_length p2) hit_length (triangle_hit_numbers (triangle_hit (ray_of r) (vec3_of p0) (vec3_of p1) (vec3_of p2))) out
