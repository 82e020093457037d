-- `whole_of` meets its contract: what comes back is the number itself, and small. Assumes nothing.
use lib.Ieee.{of_bits}
use Rattle.placed.proofs.Registers.{kept_as}
use Rattle.placed.proofs.Truncation.{casts, cast_is, whole_small}
use Rattle.placed.proofs.numbers.whole_of.Goals as goal

pub float_to_int-result : goal.float_to_int-result
unfolding of_bits
float_to_int-result c = casts c.args.x c.requires

pub returns : goal.returns
unfolding of_bits
returns c = let x = c.args.x in kept_as _ _ (cast_is x c.requires) (whole_small x c.requires)
