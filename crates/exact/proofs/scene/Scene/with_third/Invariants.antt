-- `with_third` meets its contract: none of those before is good. Assumes nothing.
use Prim.Native.Nat.{ℕ, ◌<◌}
use Rattle.exact.specs.Steps.{Good}
use Rattle.exact.proofs.scene.Scene.with_third.Given as goal

abbrev pub invariant-loop-i : goal.invariant-loop-i
invariant-loop-i l = (c : ℕ) → c < l.i → ¬ Good l.self.view.numbers.now l.self.bounds.now l.n l.second c
