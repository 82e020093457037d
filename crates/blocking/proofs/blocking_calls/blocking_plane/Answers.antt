-- `blocking_calls::blocking_plane` meets its contract: each way out is the call's. Assumes nothing.
use mathlib.Core.Path.{sym, ap, ◌∙◌}
use Rattle.number.specs.Answer.{outcome}
use Rattle.verdict.specs.View.{planes_of}
use Rattle.verdict.proofs.PassedOn.{passed_on}
use Rattle.blocking.specs.Blocking.{blocking_plane}
use Rattle.blocking.proofs.Calls.{not_answered, in_view_lem, not_held, answered}
use Rattle.blocking.proofs.blocking_calls.blocking_plane.Goals as goal

pub returns-in_err-intersects_segment : goal.returns-in_err-intersects_segment
returns-in_err-intersects_segment c =
    passed_on _ _ c.from_residual.ensures.1 (not_answered _ _ _ _ c.in_err-intersects_segment.ensures)

pub returns-then-branch : goal.returns-then-branch
returns-then-branch c = in_view_lem _ _ _ (ap outcome (sym c.if-branch.true) ∙ c.in_ok-intersects_segment.ensures)

pub returns : goal.returns
returns c =
    let h = c.in_ok-view.ensures.held in
    answered _ _ _ (ap outcome (sym c.if-branch.false) ∙ c.in_ok-intersects_segment.ensures) _ _ h.1
    (ap outcome (c.blocking_plane.ensures ∙ (λ t. blocking_plane (planes_of (h.0 t) c.in_ok-view.view.planes.count) (c.load.ensures t) (c.load-2.ensures t))))

pub returns-in_err-view : goal.returns-in_err-view
returns-in_err-view c =
    passed_on _ _ c.from_residual-in_err-view.ensures.1
    (not_held _ _ _ (ap outcome (sym c.if-branch.false) ∙ c.in_ok-intersects_segment.ensures) _ c.in_err-view.ensures.refused)
