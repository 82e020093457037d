-- `plane_calls::new` meets its contract: the lengths by their tests, the result by what it calls. Assumes nothing.
use mathlib.Core.Path.{refl, ap, ap₂, ◌∙◌}
use Rattle.std.proofs.lemmas.Result.{err_from_is_err_and}
use Rattle.number.specs.Answer.{write}
use Rattle.verdict.specs.declared.plane.Plane.{Plane}
use Rattle.verdict.specs.Plane.{numbers, facing}
use Rattle.verdict.specs.PlaneCalls.{new_plane_call}
use Rattle.number.proofs.Ways.{written}
use Rattle.matrix.proofs.Given.{was_lent, not_lent}
use Rattle.verdict.proofs.plane_calls.new.Goals as goal

pub returns-in_err-unscaled : goal.returns-in_err-unscaled
unfolding new_plane_call
returns-in_err-unscaled c =
    let p = err_from_is_err_and c.from_residual.result c.from_residual.ensures.1 in
    rw (p.1, p.2) (not_lent _ _ _ _ _ _ _ c.lent_one.ensures c.in_err-unscaled.was)

pub returns : goal.returns
unfolding new_plane_call
returns c =
    let q = was_lent _ _ _ _ _ _ c.lent_one.ensures c.in_ok-unscaled.was in
    written _ _ _ _ _ _ q.0 q.1 refl c.store.ensures (ap (λ (p : Plane). write (numbers p)) (c.new.ensures ∙ ap₂ facing q.2 refl))
