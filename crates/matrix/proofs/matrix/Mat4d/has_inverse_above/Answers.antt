-- `Mat4d::has_inverse_above` meets its contract: by its tests of the determinant. Assumes nothing.
use mathlib.Core.Path.{sym}
use Rattle.number.proofs.Nan.{nan_is}
use Rattle.matrix.proofs.Composed.{has_none, has_one}
use Rattle.matrix.proofs.matrix.Mat4d.has_inverse_above.Goals as goal

pub returns-then-is_nan : goal.returns-then-is_nan
returns-then-is_nan c =
    let a = c.args in
    has_none a.epsilon a.self _ _ c.adjugate.ensures c.determinant_by-det.ensures (nan_is _ (sym c.if-is_nan.ensures.value))

pub returns : goal.returns
returns c =
    let a = c.args in
    has_one a.epsilon a.self _ _ c.adjugate.ensures c.determinant_by-det.ensures _ c.abs.ensures
