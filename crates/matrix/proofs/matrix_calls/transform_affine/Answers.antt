-- `matrix_calls::transform_affine` meets its contract, by that of `of_two`. Assumes nothing.
use Rattle.std.proofs.Common.{rules}
use Rattle.matrix.specs.Transform.{affine}
use Rattle.matrix.specs.MatrixCalls.{affine_call}
use Rattle.matrix.proofs.matrix_calls.transform_affine.Goals as goal

pub returns : goal.returns
unfolding affine_call
returns c = c.of_two.ensures affine (λ x y r p. search rules)
