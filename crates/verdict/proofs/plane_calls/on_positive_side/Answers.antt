-- `plane_calls::on_positive_side` meets its contract: the lengths by their tests, the answer by what it calls. Assumes nothing.
use mathlib.Core.Path.{refl, ap₂, ◌∙◌}
use Rattle.std.proofs.lemmas.Result.{err_from_is_err_and}
use Rattle.verdict.specs.Plane.{on_positive_side}
use Rattle.verdict.specs.PlaneCalls.{side_call}
use Rattle.number.proofs.Ways.{both, no_answer, answered}
use Rattle.matrix.proofs.Given.{was_given, was_refused}
use Rattle.verdict.proofs.plane_calls.on_positive_side.Goals as goal

pub returns-in_err-given : goal.returns-in_err-given
unfolding side_call
returns-in_err-given c =
    let p = err_from_is_err_and c.from_residual.result c.from_residual.ensures.1 in
    let q = was_refused _ _ _ _ c.given.ensures c.in_err-given.was in
    rw (p.1, p.2, q.1) (no_answer _ _ _ (both q.0 refl))

pub returns-in_err-given-2 : goal.returns-in_err-given-2
unfolding side_call
returns-in_err-given-2 c =
    let p = err_from_is_err_and c.from_residual-in_err-given-2.result c.from_residual-in_err-given-2.ensures.1 in
    let q = was_given _ _ _ _ c.given.ensures c.in_ok-given.was in
    let r = was_refused _ _ _ _ c.given-2.ensures c.in_err-given-2.was in
    rw (p.1, p.2, r.1) (no_answer _ _ _ (both q.0 r.0))

pub returns : goal.returns
unfolding side_call
returns c =
    let q = was_given _ _ _ _ c.given.ensures c.in_ok-given.was in
    let r = was_given _ _ _ _ c.given-2.ensures c.in_ok-given-2.was in
    answered _ _ _ _ (both q.0 r.0) (c.on_positive_side.ensures ∙ ap₂ on_positive_side q.1 r.1)
