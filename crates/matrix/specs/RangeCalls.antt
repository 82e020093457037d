-- What each operation on ranges over lent slices answers and leaves, by the numbers of the refusals. Definitions only.
-- "1 means an input slice's length differs from its record. 2 means an output slice's length differs." "Each is given only on its condition, earliest listed first."
use Rattle.std.specs.Prelude.{Bool, ◌&&◌, List, Float}
use Rattle.number.specs.Limits.{point_length, range_length, matrix_length, corners_length}
use Rattle.number.specs.Answer.{Reply, Outcome, has, writing, answering}
use Rattle.matrix.specs.Vec.{vec3_of, coordinates}
use Rattle.matrix.specs.Matrix.{matrix_of}
use Rattle.matrix.specs.Range.{range_of, bounds, is_empty, union, intersection, midpoint, distance_squared, transformed, corners}

unfoldable pub is_empty_call : List Float → Outcome Bool
is_empty_call r = answering (has range_length r) (is_empty (range_of r))

unfoldable pub union_call : List Float → List Float → List Float → Reply Float
union_call a b out = writing (has range_length a && has range_length b) range_length (bounds (union (range_of a) (range_of b))) out

unfoldable pub intersection_call : List Float → List Float → List Float → Reply Float
intersection_call a b out = writing (has range_length a && has range_length b) range_length (bounds (intersection (range_of a) (range_of b))) out

unfoldable pub midpoint_call : List Float → List Float → Reply Float
midpoint_call r out = writing (has range_length r) point_length (coordinates (midpoint (range_of r))) out

unfoldable pub distance_squared_call : List Float → List Float → Outcome Float
distance_squared_call r p = answering (has range_length r && has point_length p) (distance_squared (range_of r) (vec3_of p))

unfoldable pub transformed_call : List Float → List Float → List Float → Reply Float
transformed_call r m out = writing (has range_length r && has matrix_length m) range_length (bounds (transformed (range_of r) (matrix_of m))) out

-- "Corners write 24 numbers."
unfoldable pub corners_call : List Float → List Float → Reply Float
corners_call r out = writing (has range_length r) corners_length (corners (range_of r) 8) out
