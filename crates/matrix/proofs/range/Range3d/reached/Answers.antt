-- `Range3d::reached` meets its contract: axis by axis by that of `reach`. Assumes nothing.
use Rattle.matrix.proofs.range.Range3d.reached.Goals as goal

pub returns : goal.returns
returns g c = λ choice same.
    rw (c.reach.ensures choice same, c.reach-2.ensures choice same, c.reach-3.ensures choice same, c.transpose-columns.ensures)
