-- `reaches` meets its contract: where the farthest corner is behind a plane, all of the box is. Assumes nothing.
use Prim.Native.Nat.{◌+◌}
use native.Mathlib.Omega.{arith}
use Rattle.exact.specs.Steps.{faces}
use Rattle.exact.proofs.Taken.{behind_none}
use Rattle.exact.proofs.scene.Scene.reaches.Goals as goal

pub returns-then-not-holds : goal.returns-then-not-holds
returns-then-not-holds c =
    let s = c.args.self.now in
    λ e. behind_none s.view.numbers.now s.bounds.now c.loop-i.i (faces + s.view.count) (omega arith) (omega arith)
    c.constraint-c.result c.constraint-c.ensures c.farthest.result c.farthest.ensures c.holds.result c.holds.ensures c.if-not-holds.true
