-- `frustum_calls::intersects_triangle` meets its contract: the lengths by their test, and the rest by what its checks come to. Assumes nothing.
use Rattle.std.proofs.Common.{refl, ap, ◌∙◌}
use Rattle.number.specs.Limits.{point_length}
use Rattle.number.specs.Answer.{outcome}
use Rattle.verdict.specs.View.{planes_of, rays_of}
use Rattle.verdict.specs.Frustum.{triangle_in_view}
use Rattle.verdict.proofs.PassedOn.{passed_on}
use Rattle.verdict.proofs.VerdictChecks.{three_inputs, last_record, next_record, wrong_length, by_volume}
use Rattle.verdict.proofs.VerdictCalls.{triangle_call}
use Rattle.verdict.proofs.frustum_calls.intersects_triangle.Goals as goal

pub returns-then-not-p0-p1 : goal.returns-then-not-p0-p1
returns-then-not-p0-p1 c =
    let a = c.args in
    wrong_length _ _ _ _ _ (three_inputs point_length a.p0.now point_length a.p1.now point_length a.p2.now ∙ c.if-not-p0-p1.true)
    ∙ triangle_call a.volume.now a.p0.now a.p1.now a.p2.now

pub returns : goal.returns
returns c =
    let a = c.args in
    let n = c.in_ok-view.view.planes.count in
    let h = c.in_ok-view.ensures.held in
    ap outcome (c.holds_some_triangle.ensures ∙ (λ t. triangle_in_view (planes_of (h.0 t) n) (rays_of (h.0 t) n) (c.load.ensures t) (c.load-2.ensures t) (c.load-3.ensures t)))
    ∙ by_volume _ _ _ _ _ (three_inputs point_length a.p0.now point_length a.p1.now point_length a.p2.now ∙ c.if-not-p0-p1.false) _ _ _ h.1 refl
    (next_record _ c.all_finite.ensures _ (next_record _ c.all_finite-2.ensures _ (last_record _ c.all_finite-3.ensures)))
    ∙ triangle_call a.volume.now a.p0.now a.p1.now a.p2.now

pub returns-in_err-view : goal.returns-in_err-view
returns-in_err-view c =
    let a = c.args in
    passed_on _ _ c.from_residual.ensures.1 (by_volume _ _ _ _ _ (three_inputs point_length a.p0.now point_length a.p1.now point_length a.p2.now ∙ c.if-not-p0-p1.false) _ _ _ c.in_err-view.ensures.refused refl
    (next_record _ c.all_finite.ensures _ (next_record _ c.all_finite-2.ensures _ (last_record _ c.all_finite-3.ensures)))
    ∙ triangle_call a.volume.now a.p0.now a.p1.now a.p2.now)
