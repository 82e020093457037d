-- `Mat4d::inverse` meets its contract: that of `inverse_above` at 1e-12. Assumes nothing.
use Rattle.matrix.proofs.Literals.{singular_bits}
use Rattle.matrix.proofs.matrix.Mat4d.inverse.Goals as goal

pub returns : goal.returns
returns c = rw (c.inverse_above.ensures, singular_bits)
