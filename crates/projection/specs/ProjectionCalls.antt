-- What the operations on projections over lent slices answer and leave, by the numbers of the refusals. Definitions only.
-- A slice is any list of numbers, NaN and infinities among them, of any length; nothing is assumed of it.
-- "1 means an input slice's length differs from its record. 2 means an output slice's length differs." "Each is given only on its condition, earliest listed first."
use Rattle.std.specs.Prelude.{List, Float}
use Rattle.number.specs.Limits.{matrix_length, projection_length}
use Rattle.number.specs.Answer.{Reply, has, attempting}
use Rattle.matrix.specs.Matrix.{matrix_of}
use Rattle.projection.specs.Projection.{params_loaded, built_numbers, recovered, recovered_numbers}

-- "building gives 1, 2, 3"
unfoldable pub projection_call : List Float → List Float → Reply Float
projection_call p out = attempting (has projection_length p) matrix_length (built_numbers (params_loaded p)) out

-- "Recovery gives 1, 2, then 6"
unfoldable pub recovery_call : List Float → List Float → Reply Float
recovery_call m out = attempting (has matrix_length m) projection_length (recovered_numbers (recovered (matrix_of m))) out
