-- `range_calls::intersection` meets its contract, by that of `of_two`. Assumes nothing.
use Rattle.matrix.specs.Range.{intersection}
use Rattle.matrix.specs.RangeCalls.{intersection_call}
use Rattle.matrix.proofs.range_calls.intersection.Goals as goal

pub returns : goal.returns
unfolding intersection_call
returns c = c.of_two.ensures intersection (λ x y r p. p)
