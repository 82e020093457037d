-- `Mat4d::cofactors` meets its contract: each is that of the rows left. Assumes nothing.
use Rattle.matrix.proofs.Composed.{cofactors_of_rows}
use Rattle.matrix.proofs.matrix.Mat4d.cofactors.Goals as goal

pub returns : goal.returns
returns g c = λ rest same.
    cofactors_of_rows c.args.self rest _ _ _ _ (same _ _ c.others-r0.ensures) (same _ _ c.others-r1.ensures) (same _ _ c.others-r2.ensures) (same _ _ c.others-r3.ensures)
    c.args.odd _ _ _ _ c.expanded.ensures c.expanded-2.ensures c.expanded-3.ensures c.expanded-4.ensures
