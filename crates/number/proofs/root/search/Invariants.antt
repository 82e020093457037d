-- `number::root::search` meets its contract: `AfterBit` of `specs/Search.antt` holds of the loop's variables after the first bit and after each that is tried, by
-- the contracts of `first` and `tried`. Assumes nothing.
use Rattle.std.proofs.Common.{ℕ, ◌*◌, ◌^◌, ◌<◌, ◌≤◌}
use Rattle.number.specs.Search.{AfterBit}
use Rattle.number.specs.declared.root.PartialRoot.{PartialRoot}
use Rattle.number.proofs.root.search.Given as goal

-- the loop's variables after a bit
pub record At (n bit : ℕ) (partial : PartialRoot) : Type 0 where
  pub after : AfterBit n bit partial
  pub bits : bit ≤ 2 ^ 53
  pub small : n < 2 ^ 54 * 2 ^ 54

abbrev pub invariant-loop-bit : goal.invariant-loop-bit
invariant-loop-bit l = At (l.number * 2 ^ 53) l.bit l.partial

abbrev pub decreases-loop-bit : goal.decreases-loop-bit
decreases-loop-bit l = l.bit
