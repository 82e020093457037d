-- `projection::orthographic_of` meets its contract: the volume of its window. Assumes nothing.
use lib.Count.{count_trailing_zeros}
use lib.Ieee.{of_bits, round, units, odd, size, span, climb, neg}
use Rattle.projection.proofs.projection.orthographic_of.Goals as goal

pub returns : goal.returns
unfolding of_bits round units odd size span climb count_trailing_zeros neg
returns c = rw (c.volume.ensures, c.of-window.ensures)
