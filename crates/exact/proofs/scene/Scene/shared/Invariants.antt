-- `shared` meets its contract: a point satisfies the constraints taken so far, or none does. Assumes nothing.
use Rattle.exact.specs.Steps.{Satisfying}
use Rattle.exact.proofs.scene.Scene.shared.Given as goal

abbrev pub invariant-loop-n : goal.invariant-loop-n
invariant-loop-n l = Satisfying l.self.view.numbers.now l.self.bounds.now l.n l.p
