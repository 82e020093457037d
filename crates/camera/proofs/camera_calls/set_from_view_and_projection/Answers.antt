-- `camera_calls::set_from_view_and_projection` meets its contract: the lengths by its tests, the result by what it calls. Assumes nothing.
use Rattle.std.specs.Prelude.{Result}
use mathlib.Core.Path.{◌≡◌, refl, sym, ap, ◌∙◌}
use mathlib.Core.Bool.{true}
use mathlib.Core.List.{List}
use borrow.Author.Tests.{eq-eqb, ne_eqb}
use lib.Ieee.{Float}
use Rattle.std.proofs.lemmas.Result.{err_from_is_err_and}
use Rattle.number.proofs.Ways.{both, no_input, no_room, left, written, same_reply}
use Rattle.number.specs.Limits.{matrix_length}
use Rattle.number.specs.Answer.{has}
use Rattle.matrix.specs.Inverse.{inverse}
use Rattle.matrix.specs.Matrix.{matrix_of}
use Rattle.projection.specs.Projection.{recovered_from}
use Rattle.projection.proofs.Records.{of_matrix}
use Rattle.number.specs.declared.answer.Refusal.{Refusal}
use Rattle.camera.specs.declared.camera.Camera.{Camera}
use Rattle.camera.specs.Camera.{opened, camera_from, set_numbers, camera_call}
use Rattle.camera.proofs.camera_calls.set_from_view_and_projection.Goals as goal

-- of the matrices that were read
found : (view projection : List Float) (f : Float) (s : Result Camera Refusal) → has matrix_length projection ≡ true → s ≡ opened (inverse (matrix_of view)) (recovered_from projection) f
    → s ≡ camera_from (matrix_of view) (matrix_of projection) f
unfolding camera_from
found view projection f s w e = e ∙ ap (λ r. opened (inverse (matrix_of view)) r f) (of_matrix projection w)

pub returns-then-view-ne-MATRIX_LENGTH : goal.returns-then-view-ne-MATRIX_LENGTH
unfolding camera_call
returns-then-view-ne-MATRIX_LENGTH c = no_input _ _ _ _ (both (ne_eqb _ _ c.if-view-ne-MATRIX_LENGTH.true) refl)

pub returns-then-projection-ne-MATRIX_LENGTH : goal.returns-then-projection-ne-MATRIX_LENGTH
unfolding camera_call
returns-then-projection-ne-MATRIX_LENGTH c = no_input _ _ _ _ (both (eq-eqb _ _ c.if-view-ne-MATRIX_LENGTH.false) (ne_eqb _ _ c.if-projection-ne-MATRIX_LENGTH.true))

pub returns-then-out-ne-CAMERA_LENGTH : goal.returns-then-out-ne-CAMERA_LENGTH
unfolding camera_call
returns-then-out-ne-CAMERA_LENGTH c = no_room _ _ _ _ (both (eq-eqb _ _ c.if-view-ne-MATRIX_LENGTH.false) (eq-eqb _ _ c.if-projection-ne-MATRIX_LENGTH.false)) c.if-out-ne-CAMERA_LENGTH.true

pub returns : goal.returns
unfolding camera_call
returns c =
    let a = c.args in
    let whole = eq-eqb _ _ c.if-projection-ne-MATRIX_LENGTH.false in
    written _ 24 _ a.out.now _ _ (both (eq-eqb _ _ c.if-view-ne-MATRIX_LENGTH.false) whole) c.if-out-ne-CAMERA_LENGTH.false refl c.store.ensures
    (same_reply set_numbers a.out.now
    (sym c.in_ok-camera.was ∙ found a.view.now a.projection.now _ _ whole c.set_from_view_and_projection.ensures))

pub returns-in_err-camera : goal.returns-in_err-camera
unfolding camera_call
returns-in_err-camera c =
    let a = c.args in
    let whole = eq-eqb _ _ c.if-projection-ne-MATRIX_LENGTH.false in
    let p = err_from_is_err_and c.from_residual.result c.from_residual.ensures.1 in
    rw (p.1, p.2)
    (same_reply set_numbers a.out.now
    (sym c.in_err-camera.was ∙ found a.view.now a.projection.now _ _ whole c.set_from_view_and_projection.ensures)
    ∙ left _ 24 _ a.out.now (both (eq-eqb _ _ c.if-view-ne-MATRIX_LENGTH.false) whole) c.if-out-ne-CAMERA_LENGTH.false)
