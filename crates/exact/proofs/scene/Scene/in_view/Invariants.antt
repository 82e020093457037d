-- `in_view` meets its contract: those before have the point in view. Assumes nothing.
use Rattle.exact.specs.Steps.{Seen}
use Rattle.exact.proofs.scene.Scene.in_view.Given as goal

abbrev pub invariant-loop-i : goal.invariant-loop-i
invariant-loop-i l = Seen l.self.view.numbers.now l.self.bounds.now l.i l.p
