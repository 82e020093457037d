-- `Window::volume` meets its contract by computation. Assumes nothing.
use mathlib.Core.Path.{refl}
use lib.Count.{count_trailing_zeros}
use lib.Ieee.{of_bits, round, units, odd, size, span, climb, neg}
use Rattle.projection.proofs.projection.Window.volume.Goals as goal

pub returns : goal.returns
unfolding of_bits round units odd size span climb count_trailing_zeros neg
returns c = refl
