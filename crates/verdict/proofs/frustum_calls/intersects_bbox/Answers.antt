-- `frustum_calls::intersects_bbox` meets its contract: the length by its test, and the rest by what its checks come to. Assumes nothing.
use Rattle.std.proofs.Common.{List, ap, ◌∙◌, eq-eqb, ne_eqb}
use lib.Ieee.{Float}
use Rattle.verdict.specs.View.{planes_of}
use Rattle.number.specs.Limits.{box_length}
use Rattle.number.specs.Answer.{outcome}
use Rattle.verdict.specs.declared.plane.Plane.{Plane}
use Rattle.verdict.specs.BBox.{is_flag, box_of}
use Rattle.verdict.specs.Frustum.{box_in_view}
use Rattle.verdict.proofs.PassedOn.{passed_on}
use Rattle.verdict.proofs.SideBySide.{gathered}
use Rattle.verdict.proofs.VerdictChecks.{one_input, last_record, wrong_length, by_volume}
use Rattle.verdict.proofs.VerdictCalls.{box_call}
use Rattle.verdict.proofs.frustum_calls.intersects_bbox.Goals as goal

pub returns-then-bbox-ne-BOX_LENGTH : goal.returns-then-bbox-ne-BOX_LENGTH
returns-then-bbox-ne-BOX_LENGTH c =
    let a = c.args in
    wrong_length _ _ _ _ _ (one_input box_length a.bbox.now ∙ ne_eqb _ _ c.if-bbox-ne-BOX_LENGTH.true) ∙ box_call a.volume.now a.bbox.now

pub holds_some-requires : goal.holds_some-requires
holds_some-requires c = c.if-bbox-ne-BOX_LENGTH.false

pub returns : goal.returns
returns c =
    let a = c.args in
    let v = c.in_ok-view.view in
    let h = c.in_ok-view.ensures.held in
    let planes = gathered v.planes.numbers.now _ _ _ v.planes.most c.gather.ensures.numbers c.gather.ensures.count ∙ ap (λ (l : List Float). planes_of l v.planes.count) h.0 in
    ap outcome (c.holds_some.ensures ∙ ap (λ (ps : List Plane). box_in_view ps (box_of a.bbox.now)) planes)
    ∙ by_volume _ _ _ _ _ (one_input box_length a.bbox.now ∙ eq-eqb _ _ c.if-bbox-ne-BOX_LENGTH.false) _ _ _ h.1 (c.is_flag.ensures ∙ ap is_flag c.at.ensures)
    (last_record _ c.all_finite.ensures)
    ∙ box_call a.volume.now a.bbox.now

pub returns-in_err-view : goal.returns-in_err-view
returns-in_err-view c =
    let a = c.args in
    passed_on _ _ c.from_residual.ensures.1 (by_volume _ _ _ _ _ (one_input box_length a.bbox.now ∙ eq-eqb _ _ c.if-bbox-ne-BOX_LENGTH.false) _ _ _ c.in_err-view.ensures.refused (c.is_flag.ensures ∙ ap is_flag c.at.ensures)
    (last_record _ c.all_finite.ensures)
    ∙ box_call a.volume.now a.bbox.now)
