-- `ProjectionParams::through_window` meets its contract, by its literals and the sizes of the window. Assumes nothing.
use lib.Count.{count_trailing_zeros}
use lib.Ieee.{of_bits, round, units, odd, size, span, climb, neg}
use Rattle.projection.proofs.projection.ProjectionParams.through_window.Goals as goal

pub returns : goal.returns
unfolding of_bits round units odd size span climb count_trailing_zeros neg
returns c = rw (c.factor_across.ensures, c.factor_up.ensures)
