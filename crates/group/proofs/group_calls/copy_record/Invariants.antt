-- What was copied so far is so many numbers.
use Rattle.std.proofs.Common.{◌≡◌, length}
use lib.Seq.{paste}
use Rattle.group.proofs.group_calls.copy_record.Given as goal

abbrev pub invariant-loop-i : goal.invariant-loop-i
invariant-loop-i l = (l.to ≡ paste l.initial.to 0 l.from l.i) × (length l.to ≡ length l.initial.to)
