-- `load` meets its contract: the numbers are whole or nothing is stored, and what was stored so far are so many of them. Assumes nothing.
use mathlib.Core.Path.{◌≡◌}
use lib.ListN.{length, take}
use lib.Seq.{paste}
use Rattle.placed.specs.Numbers.{whole_numbers}
use Rattle.placed.proofs.numbers.load.Given as goal

abbrev pub invariant-loop-i : goal.invariant-loop-i
invariant-loop-i l = l.out ≡ paste l.initial.out 0 (whole_numbers (take (length l.initial.out) l.from)) l.i
