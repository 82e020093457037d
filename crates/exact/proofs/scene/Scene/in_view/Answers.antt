-- `in_view` meets its contract: those before have the point in view. Assumes nothing.
use mathlib.Core.Path.{sym}
use native.Mathlib.Omega.{arith}
use Rattle.exact.specs.Steps.{constraint_at}
use Rattle.exact.proofs.Seeing.{clash, it_holds, it_fails, none_seen, one_seen}
use Rattle.exact.proofs.Tried.{read_within}
use Rattle.exact.proofs.scene.Scene.in_view.Goals as goal

pub loop-i-init : goal.loop-i-init
loop-i-init c = none_seen

pub holds-requires : goal.holds-requires
holds-requires c =
    let l = c.loop-i in
    (read_within c.args.self.now.constraints l.i (omega arith) c.constraint-c.result c.constraint-c.ensures, c.requires.1)

pub returns-then-not-holds : goal.returns-then-not-holds
returns-then-not-holds c =
    let l = c.loop-i in
    let s = c.args.self.now in
    let P = constraint_at s.view.numbers.now s.bounds.now l.i in (
      λ e. absurd (clash (sym e)),
      λ e t. it_fails c.args.p P c.constraint-c.result c.constraint-c.ensures c.holds.result c.holds.ensures
          c.if-not-holds.true (t.each l.i (omega arith)),
    )

pub loop-i-preserved : goal.loop-i-preserved
loop-i-preserved c =
    let l = c.loop-i in
    let s = c.args.self.now in
    let P = constraint_at s.view.numbers.now s.bounds.now l.i in
    one_seen l.i l.invariant (it_holds c.args.p P c.constraint-c.result c.constraint-c.ensures c.holds.result c.holds.ensures c.if-not-holds.false)

pub returns : goal.returns
returns c =
    let l = c.loop-i in (
      λ e. record { each = λ i k. l.invariant.each i (omega arith) },
      λ e t. clash e,
    )
