-- `number::bytes::load` meets its contract: so many numbers from the bytes are in front. Assumes nothing.
use Rattle.std.proofs.Common.{◌≡◌}
use Rattle.number.proofs.Words.{filled}
use Rattle.number.proofs.bytes.load.Given as goal

abbrev pub invariant-loop-i : goal.invariant-loop-i
invariant-loop-i l = l.out ≡ filled l.bytes l.at l.initial.out l.i
