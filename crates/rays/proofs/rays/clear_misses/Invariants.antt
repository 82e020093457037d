-- `rays::clear_misses` meets its contract: what is cleared in front and the slots left decide. Assumes nothing.
use mathlib.Core.Path.{◌≡◌}
use lib.ListN.{length}
use Rattle.rays.specs.Steps.{cleared}
use Rattle.rays.proofs.Cleared.{all_cleared}
use Rattle.rays.proofs.rays.clear_misses.Given as goal

abbrev pub invariant-loop-i : goal.invariant-loop-i
invariant-loop-i l = (length l.out ≡ length l.initial.out) × (all_cleared l.slots l.out l.i ≡ cleared l.slots l.initial.out)
