-- `ProjectionParams::factor_up` meets its contract, by its literal and the height. Assumes nothing.
use lib.Count.{count_trailing_zeros}
use lib.Ieee.{of_bits, round, units, odd, size, span, climb, neg}
use Rattle.projection.proofs.projection.ProjectionParams.factor_up.Goals as goal

pub returns : goal.returns
unfolding of_bits round units odd size span climb count_trailing_zeros neg
returns c = rw c.height.ensures
