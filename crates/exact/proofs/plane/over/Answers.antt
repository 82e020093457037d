-- `over` meets its contract: where k is below 0 all signs are turned. Assumes nothing.
use Rattle.exact.proofs.Machine.{over_behind, below_some}
use Rattle.exact.proofs.plane.over.Goals as goal

pub returns-then-k-lt0 : goal.returns-then-k-lt0
returns-then-k-lt0 c =
    let a = c.args in
    let h = c.requires in
    (over_behind a.numbers a.k h.0 h.1 c.if-k-lt0.true, below_some a.numbers a.k h.0 h.1 c.if-k-lt0.true)
