-- `with_two` meets its contract: with none of those before it is there a good one. Assumes nothing.
use Prim.Native.Nat.{ℕ, ◌<◌}
use Rattle.exact.specs.Steps.{Good}
use Rattle.exact.proofs.scene.Scene.with_two.Given as goal

abbrev pub invariant-loop-second : goal.invariant-loop-second
invariant-loop-second l = (b : ℕ) → b < l.second → (c : ℕ) → c < b → ¬ Good l.self.view.numbers.now l.self.bounds.now l.n b c
