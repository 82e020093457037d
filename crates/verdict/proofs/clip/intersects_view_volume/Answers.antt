-- `clip::intersects_view_volume` meets its contract: the bounds are those that the corners passed are inside of. Assumes nothing.
use Rattle.std.proofs.Common.{◌≡◌, ℕ, ◌+◌, Bool, false, sym, ap, ◌∙◌, ap₂, add-one, arith}
use Rattle.number.specs.Every.{every_below, some_below}
use Rattle.matrix.specs.Matrix.{product}
use Rattle.matrix.specs.declared.vec.Vec4d.{Vec4d}
use Rattle.matrix.specs.declared.range.Range3d.{Range3d}
use Rattle.matrix.specs.declared.matrix.Mat4d.{Mat4d}
use Rattle.verdict.specs.declared.bbox.BBox3d.{BBox3d}
use Rattle.verdict.specs.declared.clip.Sides.{Sides}
use Rattle.verdict.specs.Frustum.{box_in_view_volume}
use Rattle.verdict.specs.Steps.Passes.{corner_under, passed_by, passed_of, all_sides}
use Rattle.verdict.proofs.clip.intersects_view_volume.Goals as goal

next : (r : Range3d) (m : Mat4d) (i : ℕ) (s x : Sides) (v : Vec4d) → s ≡ passed_of r m i → v ≡ corner_under r m i → x ≡ passed_by s v → x ≡ passed_of r m (i + 1)
unfolding passed_of some_below
next r m i s x v p q e = e ∙ ap₂ passed_by p q ∙ sym (ap (passed_of r m) (add-one i))

all_passed : (b : BBox3d) (m n : Mat4d) (i : ℕ) (s : Sides) (x : Bool) → i ≡ 8 → n ≡ product b.matrix m → s ≡ passed_of b.range n i → x ≡ all_sides s → x ≡ box_in_view_volume b m
unfolding box_in_view_volume every_below passed_of
all_passed b m n i s x h q p e = e ∙ ap all_sides (p ∙ ap₂ (passed_of b.range) q h)

pub loop-i-init : goal.loop-i-init
unfolding passed_of some_below
loop-i-init c =
    let e = c.default-sides.ensures in
    let near : c.default-sides.result.near ≡ false = e.1.1.1.1.1 in
    λ t. record { right = e.0 t; left = e.1.0 t; top = e.1.1.0 t; bottom = e.1.1.1.0 t; far = e.1.1.1.1.0 t; near = near t }

pub loop-i-preserved : goal.loop-i-preserved
loop-i-preserved c =
    let l = c.loop-i in
    next _ _ l.i l.sides _ _ l.invariant c.corner_under.ensures c.passed_by-sides.ensures

pub returns : goal.returns
returns c =
    let l = c.loop-i in
    let a = c.args in
    all_passed a.b a.m _ l.i l.sides _ (omega arith) c.product-to_clip.ensures l.invariant c.all.ensures
