-- A projection without a far end is taken, by computation. Assumes nothing.
use mathlib.Core.Path.{refl}
use mathlib.Core.List.{flat_map}
use lib.Count.{count_trailing_zeros}
use lib.Ieee.{add, sub, mul, div, neg, lt, le, eq, is_nan, round, sum, units, odd, size, span, climb}
use Rattle.number.specs.Tabulate.{tabulate}
use Rattle.number.specs.Answer.{leaving}
use Rattle.number.specs.Arithmetic.{abs_of, max_of}
use Rattle.number.specs.Root.{sqrt_of}
use Rattle.number.specs.Every.{every}
use Rattle.matrix.specs.Matrix.{product}
use Rattle.matrix.specs.Inverse.{adjugate, determinant, over, inverse_above}
use Rattle.matrix.specs.Transform.{divisor, transformed}
use Rattle.matrix.specs.Vec.{length_of, normalized}
use Rattle.volume.specs.Volume.{numbers, finite_only, clip_volume, from_matrices_call}
use Rattle.volume.specs.Accepted.{WithoutFarEnd}

pub without_far_end : WithoutFarEnd
unfolding from_matrices_call clip_volume finite_only numbers tabulate flat_map leaving every product adjugate determinant over inverse_above divisor transformed length_of normalized sqrt_of abs_of max_of add sub mul div neg lt le eq is_nan round sum units odd size span climb count_trailing_zeros
without_far_end = record { taken = refl; far = refl }
