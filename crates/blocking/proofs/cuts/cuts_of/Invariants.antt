-- `cuts_of` meets its contract: the cuts are those of the planes passed. Assumes nothing.
use Rattle.std.proofs.Common.{◌≡◌}
use Rattle.verdict.specs.View.{plane_at}
use Rattle.blocking.specs.Steps.{cuts_below}
use Rattle.blocking.proofs.cuts.cuts_of.Given as goal

abbrev pub invariant-loop-i : goal.invariant-loop-i
invariant-loop-i l = l.cuts ≡ cuts_below (plane_at l.planes.numbers.now) l.a l.b l.i
