-- `Ranges::places_within` meets its contract: the slots in front hold the places found, and one range more adds its place or none. Assumes nothing.
use mathlib.Core.Path.{◌≡◌}
use mathlib.Core.Bool.{Bool}
use mathlib.Core.List.{List}
use Prim.Native.Nat.{ℕ, ◌≤◌}
use lib.ListN.{length, take}
use Rattle.number.specs.Places.{places_below}
use Rattle.nearest.specs.Nearest.{is_within}
use Rattle.nearest.proofs.nearest.Ranges.places_within.Given as goal

pub record Listed (test : ℕ → Bool) (i count found : ℕ) (out : List ℕ) : Type 0 where
  pub number : found ≡ length (places_below i test)
  pub front : take found out ≡ places_below i test
  pub few : found ≤ i
  pub room : length out ≡ count

abbrev pub invariant-loop-i : goal.invariant-loop-i
invariant-loop-i l = Listed (is_within l.self.numbers.now l.p l.limit) l.i (length l.initial.out) l.found l.out
