-- `range_calls::midpoint` meets its contract, by that of `of_one`. Assumes nothing.
use Rattle.std.proofs.Common.{rules}
use Rattle.matrix.specs.Range.{midpoint}
use Rattle.matrix.specs.RangeCalls.{midpoint_call}
use Rattle.matrix.proofs.range_calls.midpoint.Goals as goal

pub returns : goal.returns
unfolding midpoint_call
returns c = c.of_one.ensures midpoint (λ x r p. search rules)
