-- `View::all_numbers_finite` meets its contract: the zeros kept, and the numbers left, decide. Assumes nothing.
use Rattle.std.proofs.Common.{◌+◌, ◌*◌}
use Rattle.verdict.proofs.ZerosKept.{FourKept}
use Rattle.verdict.proofs.view.View.all_numbers_finite.Given as goal

abbrev pub invariant-loop-i : goal.invariant-loop-i
invariant-loop-i l = FourKept l.numbers (1 + l.i * 4) l.a l.b l.c l.d
