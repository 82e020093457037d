-- `matrix_calls::transform_dir` meets its contract, by that of `of_two`. Assumes nothing.
use Rattle.std.proofs.Common.{rules}
use Rattle.matrix.specs.Transform.{direction}
use Rattle.matrix.specs.MatrixCalls.{direction_call}
use Rattle.matrix.proofs.matrix_calls.transform_dir.Goals as goal

pub returns : goal.returns
unfolding direction_call
returns c = c.of_two.ensures direction (λ x y r p. search rules)
