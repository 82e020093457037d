-- `Vec3::cross` meets its contract: three minors. Assumes nothing.
use Rattle.exact.proofs.Machine.{cross_read}
use Rattle.exact.proofs.vec.Vec3+i64.cross.Goals as goal

pub returns : goal.returns
returns c =
    cross_read c.args.self c.args.other c.requires.0 c.requires.1 c.minor.result c.minor-2.result c.minor-3.result
    c.minor.ensures c.minor-2.ensures c.minor-3.ensures
