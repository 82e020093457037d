-- `Range3d::are_numbers` meets its contract by its tests, those along z first. Assumes nothing.
use mathlib.Core.Path.{◌≡◌}
use mathlib.Core.Bool.{Bool, true, false, ◌&&◌}
use Rattle.matrix.specs.declared.range.Range3d.{Range3d}
use Rattle.matrix.specs.Steps.{numbers_along, all_numbers}
use Rattle.matrix.proofs.range.Range3d.are_numbers.Goals as goal

module _ (a b : Range3d) where
  first_fails : (p : Bool) → p ≡ numbers_along a 2 → p ≡ false → false ≡ all_numbers a b
  unfolding all_numbers
  first_fails p e h = rw (← e, h)

  second_fails : (p q : Bool) → p ≡ numbers_along a 2 → p ≡ true → q ≡ numbers_along b 2 → q ≡ false → false ≡ all_numbers a b
  unfolding all_numbers
  second_fails p q e h f k = rw (← e, h, ← f, k)

  others : (p q s t u v : Bool) → p ≡ numbers_along a 2 → p ≡ true → q ≡ numbers_along b 2 → q ≡ true
      → s ≡ numbers_along a 0 → t ≡ numbers_along a 1 → u ≡ numbers_along b 0 → v ≡ numbers_along b 1 → (s && t && u && v) ≡ all_numbers a b
  unfolding all_numbers
  others p q s t u v e h f k i j l m = rw (← e, h, ← f, k, ← i, ← j, ← l, ← m)

pub returns-then-not-are_numbers : goal.returns-then-not-are_numbers
returns-then-not-are_numbers c = first_fails _ _ _ c.are_numbers.ensures c.if-not-are_numbers.true

pub returns-then-not-are_numbers-2 : goal.returns-then-not-are_numbers-2
returns-then-not-are_numbers-2 c = second_fails _ _ _ _ c.are_numbers.ensures c.if-not-are_numbers.false c.are_numbers-2.ensures c.if-not-are_numbers-2.true

pub returns : goal.returns
returns c =
    others _ _ _ _ _ _ _ _ c.are_numbers.ensures c.if-not-are_numbers.false c.are_numbers-2.ensures c.if-not-are_numbers-2.false
    c.are_numbers-3.ensures c.are_numbers-4.ensures c.are_numbers-5.ensures c.are_numbers-6.ensures
