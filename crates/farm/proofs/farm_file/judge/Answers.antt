-- `judge` meets its contract by what it calls. Assumes nothing.
use Rattle.std.proofs.lemmas.Result.{err_from_is_err_and}
use mathlib.Core.Path.{refl}
use Rattle.farm.proofs.farm_file.judge.Goals as goal

pub returns : goal.returns
returns c = record { call = c.in_ok-boxes.ensures.call; kept = c.in_ok-boxes.ensures.kept _ refl }

pub returns-in_err-boxes : goal.returns-in_err-boxes
returns-in_err-boxes c =
    let p = err_from_is_err_and c.from_residual.result c.from_residual.ensures.1 in
    rw (p.1, p.2) (record { call = c.in_err-boxes.ensures.call; kept = tt })
