-- `Rows::holds_point` meets its contract: every plane is asked. Assumes nothing.
use Rattle.std.proofs.Common.{refl, rules, arith, true, false, ◌≡◌, ℕ}
use borrow.Author.Tests.{tests}
use Rattle.std.proofs.lemmas.Iterator.{cases_from_all, YieldsList-from_range}
use Rattle.verdict.specs.Plane.{on_positive_side}
use Rattle.verdict.specs.Rows.{plane_in_rows}
use Rattle.verdict.specs.Frustum.{point_in_view}
use Rattle.verdict.proofs.Over.{all_over}
use Rattle.verdict.proofs.rows.Rows.holds_point.Goals as goal

pub returns : goal.returns
unfolding point_in_view
returns c =
    let a = c.args in
    let f = plane_in_rows a.self.now.numbers in
    all_over (λ p. on_positive_side p a.p) f a.self.now.count _
    (cases_from_all _ _ _ (λ (k : ℕ). on_positive_side (f k) a.p ≡ true) (λ (k : ℕ). on_positive_side (f k) a.p ≡ false) c.all.ensures.ran
    (YieldsList-from_range 0 a.self.now.count a.self.now.count refl (omega arith)) (λ x q k. search (rules, tests)) (λ x q k. search (rules, tests)))
