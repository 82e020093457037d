-- `with_next` meets its contract: the constraint holds there, or at a corner, or at a vertex, or nowhere. Assumes nothing.
use Prim.Native.Nat.{◌+◌}
use Rattle.exact.specs.Steps.{constraint_at, Satisfying}
use Rattle.exact.proofs.Seeing.{it_holds, it_fails}
use Rattle.exact.proofs.Tried.{none_else}
use Rattle.exact.proofs.Taken.{more_found, none_more}
use Rattle.exact.proofs.scene.Scene.with_next.Goals as goal

pub returns-then-holds : goal.returns-then-holds
returns-then-holds c =
    let s = c.args.self.now in
    let P = constraint_at s.view.numbers.now s.bounds.now c.args.n in
    more_found c.requires.2 (it_holds c.args.p P c.constraint-c.result c.constraint-c.ensures c.holds.result c.holds.ensures c.if-holds.true)

pub returns : goal.returns
returns c =
    let s = c.args.self.now in
    let P = constraint_at s.view.numbers.now s.bounds.now c.args.n in
    let m = it_fails c.args.p P c.constraint-c.result c.constraint-c.ensures c.holds.result c.holds.ensures c.if-holds.false in
    none_else (Satisfying s.view.numbers.now s.bounds.now (c.args.n + 1)) c.with_two.result (λ none. none_more c.requires.2 c.requires.1 m none) c.with_two.ensures
