-- The verdicts of a view, in the operation order of frustum.rs. A view is a list of planes that have it on their positive sides, six of them in gf and any
-- number here; and for triangles a list of rays. They are asked of finite numbers alone, so that a NaN is met only where an operation
-- overflows: the distance of the plane 2,-2,0;0 from the point 1e308,1e308,0 is one, and is not on the positive side. Definitions only.
use Rattle.std.specs.Prelude.{ℕ, Bool, true, false, cond, not, ◌&&◌, ◌||◌, List, [], ◌∷◌, take, Float, None, Option, Some, Result, Ok, Err}
use Rattle.std.specs.Bool.{beq}
use Rattle.std.specs.Float.Ieee.{lt, neg}
use Rattle.number.specs.Every.{every, every_below, some_below}
use Rattle.number.specs.Arithmetic.{◌⊘◌, min_of, max_of}
use Rattle.matrix.specs.Constants.{positive_zero, one}
use Rattle.matrix.specs.Vec.{axis4, dot, difference}
use Rattle.matrix.specs.Matrix.{identity, transpose, product}
use Rattle.matrix.specs.Transform.{homogeneous}
use Rattle.matrix.specs.Range.{is_empty, corner}
use Rattle.matrix.specs.declared.vec.Vec3d.{Vec3d}
use Rattle.matrix.specs.declared.vec.Vec4d.{Vec4d}
use Rattle.matrix.specs.declared.matrix.Mat4d.{Mat4d}
use Rattle.verdict.specs.declared.plane.Plane.{Plane}
use Rattle.verdict.specs.declared.bbox.BBox3d.{BBox3d}
use Rattle.verdict.specs.declared.ray.Ray.{Ray}
use Rattle.number.specs.declared.answer.Refusal.{Refusal}
use Rattle.verdict.specs.declared.ray.TriangleHit.{TriangleHit}
use Rattle.verdict.specs.Plane.{distance_to, on_positive_side, reaches_positive_side, under_inverse_transpose}
use Rattle.verdict.specs.Ray.{triangle_hit}
use Rattle.verdict.specs.View.{ray_count, original_planes, near_and_far}
use Rattle.verdict.specs.BBox.{is_degenerate}

-- ---- a point: every plane has it on its positive side

unfoldable pub point_in_view : List Plane → Vec3d → Bool
unfolding every
point_in_view ps x = every (λ p. on_positive_side p x) ps

-- ---- a segment, from its end a to its end b

-- one end at least is on the plane's positive side
abbrev pub has_end : Vec3d → Vec3d → Plane → Bool
has_end a b p = on_positive_side p a || on_positive_side p b

-- where the segment meets the plane, as a number that is 0 at a and 1 at b. It is a NaN, which `min_of` and `max_of` pass over, of the plane 0,1,0;0 and the segment
-- from -1.2e308,20,5 to 1.3e308,-1e6,5, whose ends are too far apart along x.
abbrev pub crossing : Plane → Vec3d → Vec3d → Float
crossing p a b = neg (distance_to p a) ⊘ dot p.normal (difference b a)

-- A plane that has one end alone on its positive side cuts the span from a start to an end at the crossing: where that end is b, the
-- start moves there, and where it is a, the end does.
abbrev pub start_cut : Bool → Bool → Float → Float → Float
start_cut in_a in_b start at = cond (not in_a && in_b) (max_of start at) start

abbrev pub end_cut : Bool → Bool → Float → Float → Float
end_cut in_a in_b end at = cond (in_a && not in_b) (min_of end at) end

-- Plane by plane, those that have both ends on one side passed over, the start does not come to lie past the end.
unfoldable pub span_left : List Plane → Vec3d → Vec3d → Float → Float → Bool
span_left [] a b start end = true
span_left (p ∷ ps) a b start end =
    let in_a = on_positive_side p a in
    let in_b = on_positive_side p b in
    let at = crossing p a b in
    let start' = start_cut in_a in_b start at in
    let end' = end_cut in_a in_b end at in
    (beq in_a in_b || not (lt end' start')) && span_left ps a b start' end'

-- Every plane has an end on its positive side; and then all have the same end there, or they leave some of the span from 0 to 1.
unfoldable pub segment_in_view : List Plane → Vec3d → Vec3d → Bool
unfolding every point_in_view span_left
segment_in_view ps a b = every (has_end a b) ps && (point_in_view ps a || point_in_view ps b || span_left ps a b positive_zero one)

-- ---- a box: in its space its range reaches every plane

-- Planes go there by the inverse of the matrix that places the box, and so their equations by the transpose of the matrix itself.
-- "The plane tests take a degenerate box as if its matrix were the identity." One with the rows 1e200,1e200,0,0 twice, then 0,0,1,0 and 0,0,0,1 is, since its
-- determinant overflows to a NaN.
abbrev pub into_space_of : BBox3d → Mat4d
into_space_of b = cond (is_degenerate b) identity (transpose b.matrix)

-- A box with an empty range is not in view.
unfoldable pub box_in_view : List Plane → BBox3d → Bool
unfolding every
box_in_view ps b = not (is_empty b.range) && every (λ p. reaches_positive_side (under_inverse_transpose (into_space_of b) p) b.range) ps

-- ---- a triangle of three points

-- one of them at least is on the plane's positive side
abbrev pub has_corner : Vec3d → Vec3d → Vec3d → Plane → Bool
has_corner a b c p = on_positive_side p a || on_positive_side p b || on_positive_side p c

-- all of them are
abbrev pub has_corners : Vec3d → Vec3d → Vec3d → Plane → Bool
has_corners a b c p = on_positive_side p a && on_positive_side p b && on_positive_side p c

abbrev pub is_hit : Result TriangleHit Refusal → Bool
is_hit (Ok h) = true
is_hit (Err r) = false

-- some ray meets the triangle
unfoldable pub some_hit : List Ray → Vec3d → Vec3d → Vec3d → Bool
some_hit [] a b c = false
some_hit (r ∷ rs) a b c = is_hit (triangle_hit r a b c) || some_hit rs a b c

-- the rays that are tried: the first alone where the near and the far plane have all three points on their positive side
abbrev pub sight_lines : List Plane → List Ray → Vec3d → Vec3d → Vec3d → List Ray
sight_lines ps rs a b c = take (cond (every (has_corners a b c) (near_and_far ps)) 1 ray_count) rs

-- Every plane has a corner on its positive side; and then a corner is in view, or some of a side, or a ray meets the triangle.
-- "The triangle verdict uses the original six and its corner rays": of all planes those in front.
unfoldable pub triangle_in_view : List Plane → List Ray → Vec3d → Vec3d → Vec3d → Bool
unfolding every point_in_view segment_in_view some_hit
triangle_in_view all rs a b c =
    let ps = original_planes all in
    every (has_corner a b c) ps
    && (point_in_view ps a || point_in_view ps b || point_in_view ps c
    || segment_in_view ps a b || segment_in_view ps b c || segment_in_view ps c a
    || some_hit (sight_lines ps rs a b c) a b c)

-- ---- a box in clip space

-- corner k of the box's range, through its matrix and a view's projection
abbrev pub clip_corner : BBox3d → Mat4d → ℕ → Vec4d
clip_corner b m k =
    let c = corner b.range k in
    homogeneous (product b.matrix m) (record { x = c.x; y = c.y; z = c.z; w = one })

-- Of x, of y and of z: it is below w at some corner, and above −w at some corner, which may be another. "`intersects_view_volume` uses strict comparisons".
unfoldable pub box_in_view_volume : BBox3d → Mat4d → Bool
unfolding some_below every_below
box_in_view_volume b m =
    every_below 3 (λ i.
    some_below 8 (λ k. lt (axis4 (clip_corner b m k) i) (clip_corner b m k).w)
    && some_below 8 (λ k. lt (neg (clip_corner b m k).w) (axis4 (clip_corner b m k) i)))
