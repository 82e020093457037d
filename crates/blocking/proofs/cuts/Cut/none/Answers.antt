-- `Cut::none` meets its contract: the quotient of -1 and 0 is the infinity below all. Assumes nothing.
use mathlib.Core.Path.{refl}
use lib.Ieee.{div, neg, of_bits}
use Rattle.blocking.proofs.cuts.Cut.none.Goals as goal

pub returns : goal.returns
unfolding div neg of_bits
returns c = refl
