-- `Range3d::intersection` meets its contract: without a NaN corner by corner, else as a union. Assumes nothing.
use mathlib.Core.Path.{◌≡◌, sym, ◌∙◌}
use Rattle.matrix.specs.declared.range.Range3d.{Range3d}
use Rattle.matrix.specs.Range.{range, joined, intersection}
use Rattle.matrix.proofs.Ordered.{corners_numbers}
use Rattle.matrix.proofs.Same.{same_range}
use Rattle.matrix.proofs.range.Range3d.intersection.Goals as goal

-- corners swapped, joined and swapped back
back : (a b s t u r : Range3d) → s ≡ range a.max a.min → t ≡ range b.max b.min → u ≡ joined s t → r ≡ range u.max u.min → r ≡ intersection a b
back a b s t u r p q h e = rw (e, h, p, q)

pub greater-requires : goal.greater-requires
greater-requires c = (corners_numbers _ _ (sym c.are_numbers.ensures ∙ c.if-are_numbers.true)).0

pub lesser-requires : goal.lesser-requires
lesser-requires c = (corners_numbers _ _ (sym c.are_numbers.ensures ∙ c.if-are_numbers.true)).1

pub returns-then-are_numbers : goal.returns-then-are_numbers
returns-then-are_numbers c = same_range c.greater.ensures c.lesser.ensures

pub returns : goal.returns
returns c = back _ _ _ _ _ _ c.corners_swapped.ensures c.corners_swapped-2.ensures c.joined.ensures c.corners_swapped-3.ensures
