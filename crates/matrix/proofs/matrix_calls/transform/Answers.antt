-- `matrix_calls::transform` meets its contract, by that of `of_two`. Assumes nothing.
use Rattle.std.proofs.Common.{rules}
use Rattle.matrix.specs.Transform.{transformed}
use Rattle.matrix.specs.MatrixCalls.{transform_call}
use Rattle.matrix.proofs.matrix_calls.transform.Goals as goal

pub returns : goal.returns
unfolding transform_call
returns c = c.of_two.ensures transformed (λ x y r p. search rules)
