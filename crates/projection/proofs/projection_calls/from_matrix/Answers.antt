-- `projection_calls::from_matrix` meets its contract: the lengths by its tests, the result by what it calls. Assumes nothing.
use Rattle.std.specs.Prelude.{◌≡◌, None, Some}
use native.Mathlib.Omega.{arith}
use Rattle.std.proofs.lemmas.Result.{err_from_is_err_and}
use Rattle.number.specs.declared.answer.Refusal.TheVariants.{NotAProjection}
use mathlib.Core.Path.{refl, sym, ◌∙◌}
use borrow.Author.Tests.{eq-eqb, ne_eqb}
use Rattle.projection.specs.Projection.{recovered_numbers}
use Rattle.projection.specs.ProjectionCalls.{recovery_call}
use Rattle.number.proofs.Ways.{no_input, no_room, left, written, same_reply}
use Rattle.projection.proofs.Records.{of_matrix}
use Rattle.projection.proofs.projection_calls.from_matrix.Goals as goal

pub returns-then-m-ne-MATRIX_LENGTH : goal.returns-then-m-ne-MATRIX_LENGTH
unfolding recovery_call
returns-then-m-ne-MATRIX_LENGTH c = no_input _ _ _ _ (ne_eqb _ _ c.if-m-ne-MATRIX_LENGTH.true)

pub returns-then-out-ne-PROJECTION_LENGTH : goal.returns-then-out-ne-PROJECTION_LENGTH
unfolding recovery_call
returns-then-out-ne-PROJECTION_LENGTH c = no_room _ _ _ _ (eq-eqb _ _ c.if-m-ne-MATRIX_LENGTH.false) c.if-out-ne-PROJECTION_LENGTH.true

pub returns-in_err-volume : goal.returns-in_err-volume
unfolding recovery_call
returns-in_err-volume c =
    let p = err_from_is_err_and c.from_residual.result c.from_residual.ensures.1 in
    let none : c.from_record.result ≡ None = grind arith in
    let refused : c.in_err-volume.field-0.0 ≡ NotAProjection = grind arith in
    let whole = eq-eqb _ _ c.if-m-ne-MATRIX_LENGTH.false in
    rw (p.1, p.2, refused)
    (same_reply recovered_numbers _ (sym none ∙ c.from_record.ensures ∙ of_matrix _ whole) ∙ left _ 7 _ _ whole c.if-out-ne-PROJECTION_LENGTH.false)

pub returns : goal.returns
unfolding recovery_call
returns c =
    let some : c.from_record.result ≡ Some c.in_ok-volume.volume = grind arith in
    let whole = eq-eqb _ _ c.if-m-ne-MATRIX_LENGTH.false in
    written _ 7 _ _ _ _ whole c.if-out-ne-PROJECTION_LENGTH.false refl c.store.ensures
    (same_reply recovered_numbers _ (sym some ∙ c.from_record.ensures ∙ of_matrix _ whole))
