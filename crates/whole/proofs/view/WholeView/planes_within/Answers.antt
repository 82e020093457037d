-- `planes_within` meets its contract: the planes left decide. Assumes nothing.
use mathlib.Core.Path.{refl, ap, ◌∙◌}
use mathlib.Core.Bool.{not}
use native.Mathlib.Omega.{arith}
use Rattle.number.proofs.Tabulate.{next, none}
use Rattle.number.proofs.ListLoops.{fails, holds, all_hold}
use Rattle.whole.specs.SegmentCall.{plane_at, plane_within}
use Rattle.whole.proofs.view.WholeView.planes_within.Goals as goal

pub returns-then-not-plane_within : goal.returns-then-not-plane_within
returns-then-not-plane_within c =
    let l = c.loop-i in
    let a = c.args.self.now in
    fails plane_within _ _ _ (next (plane_at a.numbers.now) a.count l.i _ (omega arith) refl) _ c.plane_within.ensures (ap not c.if-not-plane_within.true) ∙ l.invariant

pub loop-i-preserved : goal.loop-i-preserved
loop-i-preserved c =
    let l = c.loop-i in
    let a = c.args.self.now in
    holds plane_within _ _ _ (next (plane_at a.numbers.now) a.count l.i _ (omega arith) refl) _ c.plane_within.ensures (ap not c.if-not-plane_within.false) ∙ l.invariant

pub returns : goal.returns
returns c =
    let l = c.loop-i in
    let a = c.args.self.now in
    all_hold plane_within _ (none (plane_at a.numbers.now) a.count l.i (omega arith)) ∙ l.invariant
