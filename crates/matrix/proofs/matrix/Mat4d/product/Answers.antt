-- `Mat4d::product` meets its contract: row by row by that of `row_product`. Assumes nothing.
use Rattle.matrix.specs.Matrix.{product}
use Rattle.matrix.proofs.Same.{same_matrix}
use Rattle.matrix.proofs.matrix.Mat4d.product.Goals as goal

pub returns : goal.returns
unfolding product
returns c =
    same_matrix c.row_product.ensures c.row_product-2.ensures c.row_product-3.ensures c.row_product-4.ensures
