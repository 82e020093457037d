-- `planes_behind_calls::blocking_planes` meets its contract: each way out is the call's. Assumes nothing.
use Rattle.std.proofs.Common.{false, List, sym, ap, ◌∙◌, eqb-true}
use Rattle.number.specs.Answer.{outcome}
use Rattle.verdict.specs.declared.plane.Plane.{Plane}
use Rattle.verdict.specs.BBox.{box_of}
use Rattle.verdict.specs.PlanesBehind.{blocking_planes}
use Rattle.verdict.proofs.PassedOn.{passed_on}
use Rattle.verdict.proofs.SideBySide.{loaded}
use Rattle.verdict.proofs.PlanesBehind.{box_by, planes_refused, planes_not_held, planes_answered}
use Rattle.verdict.proofs.PlanesMeaning.{seen_no_bit}
use Rattle.verdict.proofs.planes_behind_calls.blocking_planes.Goals as goal

pub bits_behind-requires : goal.bits_behind-requires
bits_behind-requires c =
    let a = c.args in
    eqb-true _ _ (box_by a.volume.now a.bbox.now false (sym (ap outcome (sym c.if-branch.false) ∙ c.in_ok-intersects_bbox.ensures))).long

pub returns-in_err-intersects_bbox : goal.returns-in_err-intersects_bbox
returns-in_err-intersects_bbox c =
    passed_on _ _ c.from_residual.ensures.1 (planes_refused _ _ _ c.in_err-intersects_bbox.ensures)

pub returns-then-branch : goal.returns-then-branch
returns-then-branch c = seen_no_bit _ _ (ap outcome (sym c.if-branch.true) ∙ c.in_ok-intersects_bbox.ensures)

pub returns : goal.returns
returns c =
    let a = c.args in
    let held = c.in_ok-load.ensures.held in
    planes_answered _ _ false (ap outcome (sym c.if-branch.false) ∙ c.in_ok-intersects_bbox.ensures) _ _ held
    (ap outcome (c.bits_behind.ensures
    ∙ ap (λ (ps : List Plane). blocking_planes ps (box_of a.bbox.now)) (loaded _ a.volume.now _ _ held c.in_ok-load.ensures.numbers c.in_ok-load.ensures.count)))

pub returns-in_err-load : goal.returns-in_err-load
returns-in_err-load c =
    passed_on _ _ c.from_residual-in_err-load.ensures.1
    (planes_not_held _ _ false (ap outcome (sym c.if-branch.false) ∙ c.in_ok-intersects_bbox.ensures) _ c.in_err-load.ensures.held)
