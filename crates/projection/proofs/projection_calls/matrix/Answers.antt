-- `projection_calls::matrix` meets its contract: the lengths by its tests, the result by what it calls. Assumes nothing.
use Rattle.std.specs.Prelude.{◌≡◌, None, Some}
use native.Mathlib.Omega.{arith}
use Rattle.std.proofs.lemmas.Result.{err_from_is_err_and}
use Rattle.number.specs.declared.answer.Refusal.TheVariants.{Kind}
use mathlib.Core.Path.{refl, sym, ap, ◌∙◌}
use borrow.Author.Tests.{eq-eqb, ne_eqb}
use Rattle.number.specs.Answer.{write}
use Rattle.matrix.specs.declared.matrix.Mat4d.{Mat4d}
use Rattle.matrix.specs.Matrix.{entries}
use Rattle.projection.specs.Projection.{built_numbers}
use Rattle.projection.specs.ProjectionCalls.{projection_call}
use Rattle.number.proofs.Ways.{no_input, no_room, left, written, same_reply}
use Rattle.projection.proofs.projection_calls.matrix.Goals as goal

pub returns-then-params-ne-PROJECTION_LENGTH : goal.returns-then-params-ne-PROJECTION_LENGTH
unfolding projection_call
returns-then-params-ne-PROJECTION_LENGTH c = no_input _ _ _ _ (ne_eqb _ _ c.if-params-ne-PROJECTION_LENGTH.true)

pub returns-then-out-ne-MATRIX_LENGTH : goal.returns-then-out-ne-MATRIX_LENGTH
unfolding projection_call
returns-then-out-ne-MATRIX_LENGTH c = no_room _ _ _ _ (eq-eqb _ _ c.if-params-ne-PROJECTION_LENGTH.false) c.if-out-ne-MATRIX_LENGTH.true

pub returns-in_err-volume : goal.returns-in_err-volume
unfolding projection_call
returns-in_err-volume c =
    let p = err_from_is_err_and c.from_residual.result c.from_residual.ensures.1 in
    let none : c.load.result ≡ None = grind arith in
    let refused : c.in_err-volume.field-0.0 ≡ Kind = grind arith in
    rw (p.1, p.2, refused)
    (same_reply built_numbers _ (sym none ∙ c.load.ensures) ∙ left _ 16 _ _ (eq-eqb _ _ c.if-params-ne-PROJECTION_LENGTH.false) c.if-out-ne-MATRIX_LENGTH.false)

pub returns : goal.returns
unfolding projection_call
returns c =
    let some : c.load.result ≡ Some c.in_ok-volume.volume = grind arith in
    written _ 16 _ _ _ _ (eq-eqb _ _ c.if-params-ne-PROJECTION_LENGTH.false) c.if-out-ne-MATRIX_LENGTH.false refl c.store.ensures
    (ap (λ (m : Mat4d). write (entries m)) c.matrix.ensures ∙ same_reply built_numbers _ (sym some ∙ c.load.ensures))
