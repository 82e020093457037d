-- `minor` meets its contract: of entries of normals nothing overflows. Assumes nothing.
use Rattle.exact.proofs.Machine.{minor_fits, minor_is}
use Rattle.exact.proofs.vec.minor.Goals as goal

pub overflow_sub-result : goal.overflow_sub-result
overflow_sub-result c = let a = c.args in let h = c.requires in minor_fits a.a a.b a.c a.d h.0 h.1 h.2 h.3

pub returns : goal.returns
returns c = let a = c.args in let h = c.requires in minor_is a.a a.b a.c a.d h.0 h.1 h.2 h.3
