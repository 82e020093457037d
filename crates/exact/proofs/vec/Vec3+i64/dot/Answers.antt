-- `Vec3::dot` meets its contract: of numbers that are small enough nothing overflows. Assumes nothing.
use Rattle.exact.proofs.Machine.{dot_first, dot_second, dot_third, dot_two, dot_three, dot_is}
use Rattle.exact.proofs.vec.Vec3+i64.dot.Goals as goal

pub overflow_mul-result : goal.overflow_mul-result
overflow_mul-result c = dot_first c.requires

pub overflow_mul-result-2 : goal.overflow_mul-result-2
overflow_mul-result-2 c = dot_second c.requires

pub overflow_add-result : goal.overflow_add-result
overflow_add-result c = dot_two c.requires

pub overflow_mul-result-3 : goal.overflow_mul-result-3
overflow_mul-result-3 c = dot_third c.requires

pub overflow_add-result-2 : goal.overflow_add-result-2
overflow_add-result-2 c = dot_three c.requires

pub returns : goal.returns
returns c = dot_is c.requires
