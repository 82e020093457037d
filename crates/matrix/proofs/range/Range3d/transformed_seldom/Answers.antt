-- `Range3d::transformed_seldom` meets its contract: an empty range by its test, any other by `transformed_signed`. Assumes nothing.
use Rattle.matrix.proofs.Composed.{stays, moves}
use Rattle.matrix.proofs.range.Range3d.transformed_seldom.Goals as goal

pub returns-then-is_empty : goal.returns-then-is_empty
returns-then-is_empty c = stays _ _ _ c.is_empty.ensures c.if-is_empty.true

pub returns : goal.returns
returns c = moves _ _ _ c.is_empty.ensures _ c.if-is_empty.false c.transformed_signed.ensures
