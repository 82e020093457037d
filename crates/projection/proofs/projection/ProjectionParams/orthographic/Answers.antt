-- `ProjectionParams::orthographic` meets its contract, by its literals and what it calls. Assumes nothing.
use lib.Count.{count_trailing_zeros}
use lib.Ieee.{of_bits, round, units, odd, size, span, climb, neg}
use Rattle.projection.proofs.projection.ProjectionParams.orthographic.Goals as goal

pub returns : goal.returns
unfolding of_bits round units odd size span climb count_trailing_zeros neg
returns c = rw (c.through_window.ensures, c.width.ensures, c.height.ensures, c.depth-depth.ensures)
