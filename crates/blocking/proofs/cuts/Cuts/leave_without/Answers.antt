-- `Cuts::leave_without` meets its contract by what it calls. Assumes nothing.
use mathlib.Core.Bool.{not}
use lib.Ieee.{lt, neg}
use Rattle.blocking.proofs.cuts.Cuts.leave_without.Goals as goal

pub returns : goal.returns
returns c = λ k. not (lt (neg (c.without.ensures k)) (c.without-2.ensures k))
