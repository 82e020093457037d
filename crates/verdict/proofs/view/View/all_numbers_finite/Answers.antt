-- `View::all_numbers_finite` meets its contract: the zeros kept, and the numbers left, decide. Assumes nothing.
use Rattle.std.proofs.Common.{arith}
use Rattle.verdict.proofs.ZerosKept.{started, four_more, all_told}
use Rattle.verdict.proofs.view.View.all_numbers_finite.Goals as goal

pub loop-i-init : goal.loop-i-init
loop-i-init c = started _ (omega arith)

pub loop-i-preserved : goal.loop-i-preserved
loop-i-preserved c =
    let v = c.args.self in
    four_more _ _ _ _ _ _ _ (omega (arith, v.whole)) (omega arith) c.loop-i.invariant

pub returns : goal.returns
returns c =
    let v = c.args.self in
    all_told _ _ _ _ _ _ (omega (arith, v.whole)) c.loop-i.invariant
