-- `Range3d::EMPTY`, which `Range3d::default` gives, is the empty range, by computation. Assumes nothing.
use mathlib.Core.Path.{refl}
use lib.Count.{count_trailing_zeros}
use lib.Ieee.{of_bits, round, units, odd, size, span, climb, neg}
use Rattle.matrix.proofs.range.Range3dDefault.default.Goals as goal

pub returns : goal.returns
unfolding of_bits round units odd size span climb count_trailing_zeros neg
returns c = refl
