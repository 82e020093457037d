-- `range_calls::corners` meets its contract: the lengths by its tests, the result by what it calls. Assumes nothing.
use mathlib.Core.Path.{◌≡◌, refl}
use borrow.Author.Tests.{eq-eqb, ne_eqb}
use lib.ListN.{length}
use Rattle.matrix.specs.declared.range.Range3d.{Range3d}
use Rattle.matrix.specs.Range.{corners}
use Rattle.matrix.specs.RangeCalls.{corners_call}
use Rattle.number.proofs.Ways.{no_input, no_room, written}
use Rattle.matrix.proofs.range_calls.corners.Goals as goal

count : (r : Range3d) → length (corners r 8) ≡ 24
unfolding corners
count r = refl

pub returns : goal.returns
unfolding corners_call
returns c =
    written _ _ _ _ _ _ (eq-eqb _ _ c.if-range-ne-RANGE_LENGTH.false) c.if-out-ne-CORNERS_LENGTH.false (count _) c.store_corners.ensures
    refl

pub returns-then-range-ne-RANGE_LENGTH : goal.returns-then-range-ne-RANGE_LENGTH
unfolding corners_call
returns-then-range-ne-RANGE_LENGTH c = no_input _ _ _ _ (ne_eqb _ _ c.if-range-ne-RANGE_LENGTH.true)

pub returns-then-out-ne-CORNERS_LENGTH : goal.returns-then-out-ne-CORNERS_LENGTH
unfolding corners_call
returns-then-out-ne-CORNERS_LENGTH c = no_room _ _ _ _ (eq-eqb _ _ c.if-range-ne-RANGE_LENGTH.false) c.if-out-ne-CORNERS_LENGTH.true
