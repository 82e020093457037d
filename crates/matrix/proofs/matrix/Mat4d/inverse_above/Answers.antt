-- `Mat4d::inverse_above` meets its contract: by what it calls. Assumes nothing.
use Rattle.matrix.proofs.Composed.{inverse_from}
use Rattle.matrix.proofs.matrix.Mat4d.inverse_above.Goals as goal

pub returns : goal.returns
returns c = inverse_from _ _ _ _ _ c.adjugate-adjugate.ensures c.determinant_by-det.ensures c.over.ensures
