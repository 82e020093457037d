-- `ray_calls::transformed` meets its contract: the lengths by their tests, the result by what it calls. Assumes nothing.
use mathlib.Core.Path.{refl, ap, ◌∙◌}
use Rattle.std.proofs.lemmas.Result.{err_from_is_err_and}
use Rattle.number.specs.Answer.{write}
use Rattle.matrix.specs.declared.matrix.Mat4d.{Mat4d}
use Rattle.verdict.specs.declared.ray.Ray.{Ray}
use Rattle.verdict.specs.Ray.{numbers, transformed}
use Rattle.verdict.specs.RayCalls.{transformed_ray_call}
use Rattle.number.proofs.Ways.{written}
use Rattle.matrix.proofs.Given.{was_lent, not_lent}
use Rattle.verdict.proofs.ray_calls.transformed.Goals as goal

pub returns-in_err-along : goal.returns-in_err-along
unfolding transformed_ray_call
returns-in_err-along c =
    let p = err_from_is_err_and c.from_residual.result c.from_residual.ensures.1 in
    rw (p.1, p.2) (not_lent _ _ _ _ _ _ _ c.lent_two.ensures c.in_err-along.was)

pub returns : goal.returns
unfolding transformed_ray_call
returns c =
    let q = was_lent _ _ _ _ _ _ c.lent_two.ensures c.in_ok-along.was in
    written _ _ _ _ _ _ q.0 q.1 refl c.store.ensures
    (ap (λ (p : Ray). write (numbers p)) (c.transformed.ensures ∙ ap (λ (p : Ray × Mat4d). transformed p.1 p.0) q.2))
