-- The lines of the boxes passed are in the text.
use Rattle.reason.specs.Steps.{FirstLines}
use Rattle.reason.proofs.explain.lines_of_boxes.Given as goal

abbrev pub invariant-loop-i : goal.invariant-loop-i
invariant-loop-i l = FirstLines l.volume l.boxes l.i l.text
