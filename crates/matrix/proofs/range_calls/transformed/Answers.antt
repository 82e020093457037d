-- `range_calls::transformed` meets its contract, by that of `of_two`. Assumes nothing.
use Rattle.matrix.specs.Range.{transformed}
use Rattle.matrix.specs.RangeCalls.{transformed_call}
use Rattle.matrix.proofs.range_calls.transformed.Goals as goal

pub returns : goal.returns
unfolding transformed_call
returns c = c.of_two.ensures transformed (λ x y r p. p)
