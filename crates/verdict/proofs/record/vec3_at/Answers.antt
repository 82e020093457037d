-- `record::vec3_at` meets its contract: number by number what the slice has there. Assumes nothing.
use Rattle.std.proofs.Common.{refl}
use Rattle.matrix.proofs.Same.{same_vec3, first}
use Rattle.verdict.proofs.record.vec3_at.Goals as goal

pub returns : goal.returns
returns c = let a = c.args in same_vec3 (first a.s.now a.from) refl refl
