-- `Segment::crosses_view` meets its contract by its test. Assumes nothing.
use Rattle.std.proofs.Common.{◌≡◌, Bool, true, false, ◌&&◌, List, sym, refl, ◌∙◌, eq-eqb, ne_eqb}
use Rattle.number.specs.Every.{every}
use Rattle.number.proofs.Tabulate.{as_many as plane_count_lem}
use Rattle.matrix.specs.Constants.{positive_zero, one}
use Rattle.matrix.specs.declared.vec.Vec3d.{Vec3d}
use Rattle.verdict.specs.declared.plane.Plane.{Plane}
use Rattle.verdict.specs.View.{plane_at, planes_of}
use Rattle.verdict.specs.Frustum.{has_end, span_left}
use Rattle.verdict.specs.Steps.Passes.{side_left}
use Rattle.verdict.proofs.Sides.{some_end}
use Rattle.verdict.proofs.gathered.Segment.crosses_view.Goals as goal

settled : (ps : List Plane) (a b : Vec3d) (x w : Bool) → every (has_end a b) ps ≡ x → w ≡ span_left ps a b positive_zero one → (x && w) ≡ side_left ps a b
settled ps a b x w n p = sym (λ t. n t && sym p t)

pub returns-then-self-all_planes : goal.returns-then-self-all_planes
returns-then-self-all_planes c =
    let s = c.args.self in
    settled (planes_of s.planes.numbers.now s.planes.count) s.a.point s.b.point false _
    (some_end (planes_of s.planes.numbers.now s.planes.count) s.planes.count (plane_count_lem (plane_at s.planes.numbers.now) s.planes.count) s.a.point s.b.point _ _ s.a_sides s.b_sides
    ∙ ne_eqb _ _ (λ e. c.if-self-all_planes.true (e ∙ sym c.all_planes.ensures))) refl

pub returns : goal.returns
returns c =
    let s = c.args.self in
    settled (planes_of s.planes.numbers.now s.planes.count) s.a.point s.b.point true _
    (some_end (planes_of s.planes.numbers.now s.planes.count) s.planes.count (plane_count_lem (plane_at s.planes.numbers.now) s.planes.count) s.a.point s.b.point _ _ s.a_sides s.b_sides
    ∙ eq-eqb _ _ (c.if-self-all_planes.false ∙ c.all_planes.ensures)) c.is_left.ensures
