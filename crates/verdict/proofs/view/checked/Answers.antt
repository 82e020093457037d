-- `checked` meets its contract by what it calls. Assumes nothing.
use Rattle.verdict.proofs.PassedOn.{passed_on}
use Rattle.verdict.proofs.view.checked.Goals as goal

pub returns-in_err-view : goal.returns-in_err-view
returns-in_err-view c = passed_on _ _ c.from_residual.ensures.1 c.in_err-view.ensures.refused
