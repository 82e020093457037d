-- `rows::gather` meets its contract: the planes passed are put to their places. Assumes nothing.
use Rattle.std.proofs.Common.{◌≡◌, ℕ, sym, refl, ◌∙◌, subst, arith, length-set}
use Rattle.verdict.specs.Rows.{with_planes}
use Rattle.verdict.proofs.SideBySide.{next_put}
use Rattle.verdict.proofs.rows.gather.Goals as goal

pub loop-i-init : goal.loop-i-init
unfolding with_planes
loop-i-init c = (c.requires, refl)

pub loop-i-preserved : goal.loop-i-preserved
loop-i-preserved c =
    let l = c.loop-i in
    let a = c.args in
    (simp length-set l.invariant.0, next_put a.planes.numbers.now a.rows.now l.i l.rows _ l.invariant.1 c.plane-plane.ensures)

pub shape_of-rows : goal.shape_of-rows
shape_of-rows c = c.loop-i.invariant.0 ∙ sym c.requires

pub returns : goal.returns
returns c =
    let l = c.loop-i in
    let a = c.args in
    subst (λ (n : ℕ). l.rows ≡ with_planes a.planes.numbers.now n a.rows.now) (omega arith) l.invariant.1
