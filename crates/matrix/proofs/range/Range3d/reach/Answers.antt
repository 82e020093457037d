-- `Range3d::reach` meets its contract: axis by axis by what was picked. Assumes nothing.
use Rattle.matrix.specs.Range.{sum_from, reach}
use Rattle.matrix.proofs.Same.{same_sum}
use Rattle.matrix.proofs.range.Range3d.reach.Goals as goal

pub returns : goal.returns
unfolding reach sum_from
returns g c = λ choice same. same_sum _ (same _ _ _ c.pick.ensures) (same _ _ _ c.pick-2.ensures) (same _ _ _ c.pick-3.ensures)
