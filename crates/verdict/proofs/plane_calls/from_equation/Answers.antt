-- `plane_calls::from_equation` meets its contract: the lengths by their tests, the result by what it calls. Assumes nothing.
use mathlib.Core.Path.{refl, ap, ◌∙◌}
use Rattle.std.proofs.lemmas.Result.{err_from_is_err_and}
use Rattle.number.specs.Answer.{write}
use Rattle.verdict.specs.declared.plane.Plane.{Plane}
use Rattle.verdict.specs.Plane.{numbers, from_equation}
use Rattle.verdict.specs.PlaneCalls.{from_equation_call}
use Rattle.number.proofs.Ways.{written}
use Rattle.matrix.proofs.Given.{was_lent, not_lent}
use Rattle.verdict.proofs.plane_calls.from_equation.Goals as goal

pub returns-in_err-numbers : goal.returns-in_err-numbers
unfolding from_equation_call
returns-in_err-numbers c =
    let p = err_from_is_err_and c.from_residual.result c.from_residual.ensures.1 in
    rw (p.1, p.2) (not_lent _ _ _ _ _ _ _ c.lent_one.ensures c.in_err-numbers.was)

pub returns : goal.returns
unfolding from_equation_call
returns c =
    let q = was_lent _ _ _ _ _ _ c.lent_one.ensures c.in_ok-numbers.was in
    written _ _ _ _ _ _ q.0 q.1 refl c.store.ensures (ap (λ (p : Plane). write (numbers p)) (c.from_equation.ensures ∙ ap from_equation q.2))
