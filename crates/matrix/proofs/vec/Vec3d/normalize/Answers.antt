-- `Vec3d::normalize` meets its contract by what it calls. Assumes nothing.
use Rattle.matrix.proofs.Length.{by_length}
use Rattle.matrix.proofs.vec.Vec3d.normalize.Goals as goal

pub returns : goal.returns
returns c = by_length _ _ _ c.unit.ensures c.length.ensures
