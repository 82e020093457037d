-- `rows::load` meets its contract: what a record holds is gathered into a slice that has room for just that. Assumes nothing.
use Rattle.std.proofs.Common.{true, false, ◌∙◌, arith, eq-eqb, ne_eqb}
use Rattle.verdict.proofs.PassedOn.{passed_on}
use Rattle.verdict.proofs.PlanesHeld.{held}
use Rattle.verdict.proofs.SideBySide.{kept_of_refused, by_room}
use Rattle.verdict.proofs.rows.load.Goals as goal

pub invariant_of-gather : goal.invariant_of-gather
invariant_of-gather c = let h = held _ _ c.in_ok-count.ensures in record { most = omega (arith, h.most); long = omega (arith, h.numbers) }

pub returns-then-rows-eq-ROWS_LENGTH : goal.returns-then-rows-eq-ROWS_LENGTH
returns-then-rows-eq-ROWS_LENGTH c =
    (c.in_ok-count.ensures, c.gather.ensures ∙ by_room _ _ _ _ true c.in_ok-count.ensures (eq-eqb _ _ c.if-rows-eq-ROWS_LENGTH.true))

pub returns-else-rows-eq-ROWS_LENGTH : goal.returns-else-rows-eq-ROWS_LENGTH
returns-else-rows-eq-ROWS_LENGTH c =
    (c.in_ok-count.ensures, by_room _ _ _ _ false c.in_ok-count.ensures (ne_eqb _ _ c.if-rows-eq-ROWS_LENGTH.false))

pub returns-in_err-count : goal.returns-in_err-count
returns-in_err-count c =
    (passed_on _ _ c.from_residual.ensures.1 c.in_err-count.ensures, kept_of_refused _ _ _ _ c.in_err-count.ensures)
