-- What is recovered from a slice, by its length. Assumes nothing.
use Rattle.std.specs.Prelude.{None}
use mathlib.Core.Path.{◌≡◌}
use mathlib.Core.Bool.{true, false}
use mathlib.Core.List.{List}
use lib.Ieee.{Float}
use Rattle.number.specs.Limits.{matrix_length}
use Rattle.number.specs.Answer.{has}
use Rattle.matrix.specs.Matrix.{matrix_of}
use Rattle.projection.specs.Projection.{recovered, recovered_from}

-- a matrix, and no other number of numbers
pub of_matrix : (s : List Float) → has matrix_length s ≡ true → recovered_from s ≡ recovered (matrix_of s)
unfolding recovered_from
of_matrix s h = rw h

pub of_none : (s : List Float) → has matrix_length s ≡ false → recovered_from s ≡ None
unfolding recovered_from
of_none s h = rw h
