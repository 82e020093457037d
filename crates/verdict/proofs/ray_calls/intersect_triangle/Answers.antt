-- `ray_calls::intersect_triangle` meets its contract: the lengths by their tests, the reply by what the ray met. Assumes nothing.
use mathlib.Core.Path.{◌≡◌, refl, sym, ap, ◌∙◌}
use mathlib.Core.List.{List}
use lib.Ieee.{Float}
use Rattle.std.proofs.lemmas.Result.{err_from_is_err_and}
use Rattle.number.specs.Slice.{stored}
use Rattle.matrix.specs.declared.vec.Vec3d.{Vec3d}
use Rattle.verdict.specs.declared.ray.Ray.{Ray}
use Rattle.verdict.specs.Ray.{triangle_hit, triangle_hit_numbers}
use Rattle.verdict.specs.RayCalls.{triangle_hit_call}
use Rattle.number.proofs.Ways.{both, no_input, no_room, left, written, same_reply}
use Rattle.matrix.proofs.Given.{was_given, was_refused}
use Rattle.verdict.proofs.ray_calls.intersect_triangle.Goals as goal

-- a hit is that of what the ray and the three points were read as
same_hit : {r r' : Ray} {a a' b b' d d' : Vec3d} → r ≡ r' → a ≡ a' → b ≡ b' → d ≡ d' → triangle_hit r a b d ≡ triangle_hit r' a' b' d'
same_hit p q s t = rw (p, q, s, t)

pub returns-in_err-cast : goal.returns-in_err-cast
unfolding triangle_hit_call
returns-in_err-cast c =
    let p = err_from_is_err_and c.from_residual.result c.from_residual.ensures.1 in
    let r = was_refused _ _ _ _ c.given.ensures c.in_err-cast.was in
    rw (p.1, p.2, r.1) (no_input _ _ _ _ (both (both (both r.0 refl) refl) refl))

pub returns-in_err-first : goal.returns-in_err-first
unfolding triangle_hit_call
returns-in_err-first c =
    let p = err_from_is_err_and c.from_residual-in_err-first.result c.from_residual-in_err-first.ensures.1 in
    let q0 = was_given _ _ _ _ c.given.ensures c.in_ok-cast.was in
    let r = was_refused _ _ _ _ c.given-2.ensures c.in_err-first.was in
    rw (p.1, p.2, r.1) (no_input _ _ _ _ (both (both (both q0.0 r.0) refl) refl))

pub returns-in_err-second : goal.returns-in_err-second
unfolding triangle_hit_call
returns-in_err-second c =
    let p = err_from_is_err_and c.from_residual-in_err-second.result c.from_residual-in_err-second.ensures.1 in
    let q0 = was_given _ _ _ _ c.given.ensures c.in_ok-cast.was in
    let q1 = was_given _ _ _ _ c.given-2.ensures c.in_ok-first.was in
    let r = was_refused _ _ _ _ c.given-3.ensures c.in_err-second.was in
    rw (p.1, p.2, r.1) (no_input _ _ _ _ (both (both (both q0.0 q1.0) r.0) refl))

pub returns-in_err-third : goal.returns-in_err-third
unfolding triangle_hit_call
returns-in_err-third c =
    let p = err_from_is_err_and c.from_residual-in_err-third.result c.from_residual-in_err-third.ensures.1 in
    let q0 = was_given _ _ _ _ c.given.ensures c.in_ok-cast.was in
    let q1 = was_given _ _ _ _ c.given-2.ensures c.in_ok-first.was in
    let q2 = was_given _ _ _ _ c.given-3.ensures c.in_ok-second.was in
    let r = was_refused _ _ _ _ c.given-4.ensures c.in_err-third.was in
    rw (p.1, p.2, r.1) (no_input _ _ _ _ (both (both (both q0.0 q1.0) q2.0) r.0))

pub returns-then-out-ne-HIT_LENGTH : goal.returns-then-out-ne-HIT_LENGTH
unfolding triangle_hit_call
returns-then-out-ne-HIT_LENGTH c =
    let q0 = was_given _ _ _ _ c.given.ensures c.in_ok-cast.was in
    let q1 = was_given _ _ _ _ c.given-2.ensures c.in_ok-first.was in
    let q2 = was_given _ _ _ _ c.given-3.ensures c.in_ok-second.was in
    let q3 = was_given _ _ _ _ c.given-4.ensures c.in_ok-third.was in
    no_room _ _ _ _ (both (both (both q0.0 q1.0) q2.0) q3.0) c.if-out-ne-HIT_LENGTH.true

pub returns-in_err-hit : goal.returns-in_err-hit
unfolding triangle_hit_call
returns-in_err-hit c =
    let args = c.args in
    let p = err_from_is_err_and c.from_residual-in_err-hit.result c.from_residual-in_err-hit.ensures.1 in
    let q0 = was_given _ _ _ _ c.given.ensures c.in_ok-cast.was in
    let q1 = was_given _ _ _ _ c.given-2.ensures c.in_ok-first.was in
    let q2 = was_given _ _ _ _ c.given-3.ensures c.in_ok-second.was in
    let q3 = was_given _ _ _ _ c.given-4.ensures c.in_ok-third.was in
    rw (p.1, p.2) (same_reply triangle_hit_numbers args.out.now (sym c.in_err-hit.was ∙ c.intersect_triangle.ensures ∙ same_hit q0.1 q1.1 q2.1 q3.1) ∙ left _ _ _ _ (both (both (both q0.0 q1.0) q2.0) q3.0) c.if-out-ne-HIT_LENGTH.false)

pub returns : goal.returns
unfolding triangle_hit_call
returns c =
    let args = c.args in
    let q0 = was_given _ _ _ _ c.given.ensures c.in_ok-cast.was in
    let q1 = was_given _ _ _ _ c.given-2.ensures c.in_ok-first.was in
    let q2 = was_given _ _ _ _ c.given-3.ensures c.in_ok-second.was in
    let q3 = was_given _ _ _ _ c.given-4.ensures c.in_ok-third.was in
    written _ _ _ _ _ _ (both (both (both q0.0 q1.0) q2.0) q3.0) c.if-out-ne-HIT_LENGTH.false refl (c.store.ensures ∙ ap (λ (v : List Float). stored v args.out.now) c.record.ensures)
    (same_reply triangle_hit_numbers args.out.now (sym c.in_ok-hit.was ∙ c.intersect_triangle.ensures ∙ same_hit q0.1 q1.1 q2.1 q3.1))
