-- `planes_within` meets its contract: the planes left decide. Assumes nothing.
use mathlib.Core.Path.{◌≡◌}
use lib.ListN.{drop}
use Rattle.number.specs.Every.{every}
use Rattle.whole.specs.SegmentCall.{planes_of, plane_within}
use Rattle.whole.proofs.view.WholeView.planes_within.Given as goal

abbrev pub invariant-loop-i : goal.invariant-loop-i
invariant-loop-i l = every plane_within (drop l.i (planes_of l.self.numbers.now l.self.count)) ≡ every plane_within (planes_of l.self.numbers.now l.self.count)
