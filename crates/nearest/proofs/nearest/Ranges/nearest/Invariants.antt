-- `Ranges::nearest` meets its contract: what is known of the place found is kept from range to range. Assumes nothing.
use Rattle.nearest.proofs.Steps.{Held}
use Rattle.nearest.proofs.nearest.Ranges.nearest.Given as goal

abbrev pub invariant-loop-i : goal.invariant-loop-i
invariant-loop-i l = Held l.self.numbers.now l.p l.i l.found
