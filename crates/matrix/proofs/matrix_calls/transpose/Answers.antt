-- `matrix_calls::transpose` meets its contract, by that of `of_one`. Assumes nothing.
use Rattle.matrix.specs.Matrix.{transpose}
use Rattle.matrix.specs.MatrixCalls.{transpose_call}
use Rattle.matrix.proofs.matrix_calls.transpose.Goals as goal

pub returns : goal.returns
unfolding transpose_call
returns c = c.of_one.ensures transpose (λ x r p. p)
