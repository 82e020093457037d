-- `Mat4d::by_columns` meets its contract: column by column. Assumes nothing.
use Rattle.matrix.proofs.matrix.Mat4d.by_columns.Goals as goal

pub returns : goal.returns
returns g c = λ of same.
    rw (same _ _ c.number.ensures, same _ _ c.number-2.ensures, same _ _ c.number-3.ensures, same _ _ c.number-4.ensures, c.transpose-columns.ensures)
