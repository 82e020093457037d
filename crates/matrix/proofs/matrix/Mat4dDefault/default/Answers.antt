-- `Mat4d::IDENTITY`, which `Mat4d::default` gives, is the identity, by computation. Assumes nothing.
use mathlib.Core.Path.{refl}
use lib.Count.{count_trailing_zeros}
use lib.Ieee.{of_bits, round, units, odd, size, span, climb}
use Rattle.matrix.proofs.matrix.Mat4dDefault.default.Goals as goal

pub returns : goal.returns
unfolding of_bits round units odd size span climb count_trailing_zeros
returns c = refl
