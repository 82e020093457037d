-- `ProjectionParams::from_record` meets its contract by its test of the length. Assumes nothing.
use mathlib.Core.Path.{sym, ap, ◌∙◌}
use borrow.Author.Tests.{eq-eqb, ne_eqb}
use Rattle.projection.specs.Projection.{recovered}
use Rattle.projection.proofs.Records.{of_matrix, of_none}
use Rattle.projection.proofs.projection.ProjectionParams.from_record.Goals as goal

pub returns-then-m-ne-MATRIX_LENGTH : goal.returns-then-m-ne-MATRIX_LENGTH
returns-then-m-ne-MATRIX_LENGTH c = sym (of_none _ (ne_eqb _ _ c.if-m-ne-MATRIX_LENGTH.true))

pub returns : goal.returns
returns c =
    c.from_matrix.ensures ∙ ap recovered c.load.ensures ∙ sym (of_matrix _ (eq-eqb _ _ c.if-m-ne-MATRIX_LENGTH.false))
