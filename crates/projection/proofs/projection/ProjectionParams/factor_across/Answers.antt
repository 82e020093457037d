-- `ProjectionParams::factor_across` meets its contract, by its literal and the width. Assumes nothing.
use lib.Count.{count_trailing_zeros}
use lib.Ieee.{of_bits, round, units, odd, size, span, climb, neg}
use Rattle.projection.proofs.projection.ProjectionParams.factor_across.Goals as goal

pub returns : goal.returns
unfolding of_bits round units odd size span climb count_trailing_zeros neg
returns c = rw c.width.ensures
