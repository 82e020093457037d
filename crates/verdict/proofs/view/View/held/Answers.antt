-- `View::held` meets its contract: what is held is a view. Assumes nothing.
use Rattle.std.proofs.Common.{arith}
use Rattle.verdict.proofs.PlanesHeld.{held}
use Rattle.verdict.proofs.view.View.held.Goals as goal

pub invariant_of-result : goal.invariant_of-result
invariant_of-result c = let h = held _ _ c.in_ok-count.ensures in record { most = h.most; long = omega (arith, h.numbers) }

pub invariant_of-result-2 : goal.invariant_of-result-2
invariant_of-result-2 c = let h = held _ _ c.in_ok-count.ensures in record { fewest = h.fewest; whole = h.numbers }
