-- `record::vec4_at` meets its contract: number by number what the slice has there. Assumes nothing.
use Rattle.std.proofs.Common.{refl}
use Rattle.matrix.proofs.Same.{same_vec4, first}
use Rattle.verdict.proofs.record.vec4_at.Goals as goal

pub returns : goal.returns
returns c = let a = c.args in same_vec4 (first a.s.now a.from) refl refl refl
