-- `frustum_calls::intersects_point` meets its contract: the length by its test, and the rest by what its checks come to. Assumes nothing.
use Rattle.std.proofs.Common.{List, ap₂, refl, ap, ◌∙◌, eq-eqb, ne_eqb}
use lib.Ieee.{Float}
use Rattle.matrix.specs.declared.vec.Vec3d.{Vec3d}
use Rattle.number.specs.Limits.{point_length}
use Rattle.number.specs.Answer.{outcome}
use Rattle.verdict.specs.View.{planes_of}
use Rattle.verdict.specs.Frustum.{point_in_view}
use Rattle.verdict.proofs.PassedOn.{passed_on}
use Rattle.verdict.proofs.VerdictChecks.{one_input, last_record, wrong_length, by_volume}
use Rattle.verdict.proofs.VerdictCalls.{point_call_lem}
use Rattle.verdict.proofs.frustum_calls.intersects_point.Goals as goal

pub returns-then-p-ne-POINT_LENGTH : goal.returns-then-p-ne-POINT_LENGTH
returns-then-p-ne-POINT_LENGTH c =
    let a = c.args in
    wrong_length _ _ _ _ _ (one_input point_length a.p.now ∙ ne_eqb _ _ c.if-p-ne-POINT_LENGTH.true) ∙ point_call_lem a.volume.now a.p.now

pub returns : goal.returns
returns c =
    let a = c.args in
    let h = c.in_ok-view.ensures.held in
    ap outcome (c.holds_point.ensures ∙ ap₂ (λ (l : List Float) (x : Vec3d). point_in_view (planes_of l c.in_ok-view.view.planes.count) x) h.0 c.load.ensures)
    ∙ by_volume _ _ _ _ _ (one_input point_length a.p.now ∙ eq-eqb _ _ c.if-p-ne-POINT_LENGTH.false) _ _ _ h.1 refl (last_record _ c.all_finite.ensures)
    ∙ point_call_lem a.volume.now a.p.now

pub returns-in_err-view : goal.returns-in_err-view
returns-in_err-view c =
    let a = c.args in
    passed_on _ _ c.from_residual.ensures.1 (by_volume _ _ _ _ _ (one_input point_length a.p.now ∙ eq-eqb _ _ c.if-p-ne-POINT_LENGTH.false) _ _ _ c.in_err-view.ensures.refused refl
    (last_record _ c.all_finite.ensures)
    ∙ point_call_lem a.volume.now a.p.now)
