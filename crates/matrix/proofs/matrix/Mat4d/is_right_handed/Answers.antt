-- `Mat4d::is_right_handed` meets its contract: by that of `determinant3`. Assumes nothing.
use Rattle.matrix.proofs.Literals.{zero_bits}
use Rattle.matrix.proofs.matrix.Mat4d.is_right_handed.Goals as goal

pub returns : goal.returns
returns c = rw (zero_bits, c.determinant3.ensures)
