-- `Range3d::union` meets its contract by its tests of emptiness. Assumes nothing.
use Rattle.matrix.proofs.Composed.{yields_second, yields_first, unites}
use Rattle.matrix.proofs.range.Range3d.union.Goals as goal

pub returns-then-is_empty : goal.returns-then-is_empty
returns-then-is_empty c = yields_second _ _ _ c.is_empty.ensures c.if-is_empty.true

pub returns-then-is_empty-2 : goal.returns-then-is_empty-2
returns-then-is_empty-2 c =
    yields_first _ _ _ c.is_empty.ensures _ c.is_empty-2.ensures c.if-is_empty.false c.if-is_empty-2.true

pub returns : goal.returns
returns c =
    unites _ _ _ c.is_empty.ensures _ c.is_empty-2.ensures c.if-is_empty.false _ c.if-is_empty-2.false c.joined.ensures
