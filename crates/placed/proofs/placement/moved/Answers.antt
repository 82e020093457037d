-- `moved` meets its contract: of numbers on the grid nothing overflows. Assumes nothing.
use Rattle.placed.proofs.Registers.{third_fits, two_fits, three_fits, four_fits, four_is}
use Rattle.placed.proofs.placement.moved.Goals as goal

pub overflow_add-result : goal.overflow_add-result
overflow_add-result c = two_fits c.args.translation c.requires.0 c.requires.1 c.requires.2

pub overflow_mul-result-3 : goal.overflow_mul-result-3
overflow_mul-result-3 c = third_fits c.args.translation c.requires.0 c.requires.1 c.requires.2

pub overflow_add-result-2 : goal.overflow_add-result-2
overflow_add-result-2 c = three_fits c.args.translation c.requires.0 c.requires.1 c.requires.2

pub overflow_add-result-3 : goal.overflow_add-result-3
overflow_add-result-3 c = four_fits c.args.translation c.requires.0 c.requires.1 c.requires.2

pub returns : goal.returns
returns c = four_is c.args.translation c.requires.0 c.requires.1 c.requires.2
