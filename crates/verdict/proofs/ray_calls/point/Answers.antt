-- `ray_calls::point` meets its contract: the lengths by their tests, the result by what it calls. Assumes nothing.
use mathlib.Core.Path.{refl, ap, ap₂, ◌∙◌}
use Rattle.std.proofs.lemmas.Result.{err_from_is_err_and}
use Rattle.number.specs.Answer.{write}
use Rattle.matrix.specs.declared.vec.Vec3d.{Vec3d}
use Rattle.matrix.specs.Vec.{coordinates}
use Rattle.verdict.specs.Ray.{point_at}
use Rattle.verdict.specs.RayCalls.{point_call}
use Rattle.number.proofs.Ways.{written}
use Rattle.matrix.proofs.Given.{was_lent, not_lent}
use Rattle.verdict.proofs.ray_calls.point.Goals as goal

pub returns-in_err-along : goal.returns-in_err-along
unfolding point_call
returns-in_err-along c =
    let p = err_from_is_err_and c.from_residual.result c.from_residual.ensures.1 in
    rw (p.1, p.2) (not_lent _ _ _ _ _ _ _ c.lent_one.ensures c.in_err-along.was)

pub returns : goal.returns
unfolding point_call
returns c =
    let q = was_lent _ _ _ _ _ _ c.lent_one.ensures c.in_ok-along.was in
    written _ _ _ _ _ _ q.0 q.1 refl c.store.ensures (ap (λ (p : Vec3d). write (coordinates p)) (c.point.ensures ∙ ap₂ point_at q.2 refl))
