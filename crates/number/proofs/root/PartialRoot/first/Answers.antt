-- `number::root::PartialRoot::first` meets its contract: 2 ^ 53 is the first bit of the root of a number from 2 ^ 106 to below 2 ^ 108. Assumes nothing.
use Rattle.std.proofs.Common.{arith}
use Rattle.number.proofs.Search.{first}
use Rattle.number.proofs.root.PartialRoot.first.Goals as goal

pub returns : goal.returns
returns c = first c.args.number (omega arith) (omega arith)
