-- `Mat4d::cofactors3` meets its contract: a row of the adjugate. Assumes nothing.
use mathlib.Core.Path.{ap}
use Rattle.matrix.specs.declared.matrix.Mat4d.{Mat4d}
use Rattle.matrix.specs.Inverse.{adjugate}
use Rattle.matrix.proofs.matrix.Mat4d.cofactors3.Goals as goal

pub returns : goal.returns
unfolding adjugate
returns c = ap (λ (m : Mat4d). m.r3) c.adjugate.ensures
