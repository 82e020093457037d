-- `matrix_calls::transform_homogeneous` meets its contract, by that of `of_two`. Assumes nothing.
use Rattle.std.proofs.Common.{rules}
use Rattle.matrix.specs.Transform.{homogeneous}
use Rattle.matrix.specs.MatrixCalls.{homogeneous_call}
use Rattle.matrix.proofs.matrix_calls.transform_homogeneous.Goals as goal

pub returns : goal.returns
unfolding homogeneous_call
returns c = c.of_two.ensures homogeneous (λ x y r p. search rules)
