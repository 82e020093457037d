-- `matrix_calls::product` meets its contract, by that of `of_two`. Assumes nothing.
use Rattle.matrix.specs.Matrix.{product}
use Rattle.matrix.specs.MatrixCalls.{product_call}
use Rattle.matrix.proofs.matrix_calls.product.Goals as goal

pub returns : goal.returns
unfolding product_call
returns c = c.of_two.ensures product (λ x y r p. p)
