-- `Rows::load` meets its contract by what it calls. Assumes nothing.
use Rattle.verdict.proofs.PassedOn.{passed_on}
use Rattle.verdict.proofs.PlanesHeld.{held}
use Rattle.verdict.proofs.rows.Rows.load.Goals as goal

pub invariant_of-self-2 : goal.invariant_of-self-2
invariant_of-self-2 c = record { room = (held _ _ c.in_ok-self.ensures.0).most }

pub returns-in_err-self-clause-held : goal.returns-in_err-self-clause-held
returns-in_err-self-clause-held c = passed_on _ _ c.from_residual.ensures.1 c.in_err-self.ensures.0
