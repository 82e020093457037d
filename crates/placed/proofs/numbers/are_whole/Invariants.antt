-- `are_whole` meets its contract: what was found of the numbers passed, and those left, decide. Assumes nothing.
use mathlib.Core.Path.{◌≡◌}
use mathlib.Core.Bool.{◌&&◌}
use lib.ListN.{drop}
use Rattle.placed.specs.Numbers.{are_whole_numbers}
use Rattle.placed.proofs.numbers.are_whole.Given as goal

abbrev pub invariant-loop-x : goal.invariant-loop-x
invariant-loop-x l = (l.all && are_whole_numbers (drop l.x-index l.s)) ≡ are_whole_numbers l.s
