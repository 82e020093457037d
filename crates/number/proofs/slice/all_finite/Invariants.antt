-- `number::slice::all_finite` meets its contract: what was found of the numbers passed, and those left, decide. Assumes nothing.
use Rattle.std.proofs.Common.{◌≡◌, ◌&&◌, drop}
use Rattle.number.specs.Slice.{all_finite}
use Rattle.number.proofs.slice.all_finite.Given as goal

abbrev pub invariant-loop-x : goal.invariant-loop-x
invariant-loop-x l = (l.all && all_finite (drop l.x-index l.s)) ≡ all_finite l.s
