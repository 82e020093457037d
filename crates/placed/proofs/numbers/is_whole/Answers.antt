-- `is_whole` meets its contract: a number passes the test just where it is whole. Assumes nothing.
use lib.Ieee.{of_bits}
use Rattle.placed.proofs.Truncation.{test_is}
use Rattle.placed.proofs.numbers.is_whole.Goals as goal

pub returns : goal.returns
unfolding of_bits
returns c = test_is c.args.x
