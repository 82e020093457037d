-- Rays, and where they meet planes and triangles, as Gf's documentation has them. Definitions only.
use Rattle.std.specs.Prelude.{◌+◌, Bool, true, false, cond, not, ◌&&◌, List, [], ◌∷◌, ◌++◌, Float, None, Option, Some, Result, Ok, Err}
use Rattle.std.specs.Float.Ieee.{lt, le, neg}
use Rattle.number.specs.Answer.{Outcome, refused, outcome, number_of, unless}
use Rattle.number.specs.Arithmetic.{◌⊕◌, ◌⊖◌, ◌⊗◌, ◌⊘◌, abs_of}
use Rattle.number.specs.Format.{narrow_of, widen_of}
use Rattle.number.specs.Slice.{at}
use Rattle.number.specs.declared.answer.Refusal.{Refusal}
use Rattle.number.specs.declared.answer.Refusal.TheVariants.{Miss as MissRefusal}
use Rattle.matrix.specs.Constants.{positive_zero, one, min_length}
use Rattle.matrix.specs.Vec.{coordinates, vec3, vec3_of, sum, difference, multiple, dot}
use Rattle.matrix.specs.Transform.{direction, transformed as transformed_point}
use Rattle.matrix.specs.declared.vec.Vec3d.{Vec3d}
use Rattle.matrix.specs.declared.matrix.Mat4d.{Mat4d}
use Rattle.verdict.specs.declared.plane.Plane.{Plane}
use Rattle.verdict.specs.declared.ray.Ray.{Ray}
use Rattle.verdict.specs.declared.ray.PlaneHit.{PlaneHit}
use Rattle.verdict.specs.declared.ray.TriangleHit.{TriangleHit}
use Rattle.verdict.specs.declared.ray.Axis.{Axis}
use Rattle.verdict.specs.declared.ray.Axis.TheVariants.{X, Y, Z}
use Rattle.verdict.specs.declared.ray.Flat.{Flat}
use Rattle.verdict.specs.declared.ray.Triangle.{Triangle}
use Rattle.verdict.specs.declared.ray.Meeting.{Meeting}
use Rattle.verdict.specs.Plane.{from_points}

-- ---- its numbers, "ray 6 (start, direction)"

abbrev pub numbers : Ray → List Float
numbers r = coordinates r.start ++ coordinates r.direction

abbrev pub ray : Vec3d → Vec3d → Ray
ray s d = record { start = s; direction = d }

abbrev pub ray_of : List Float → Ray
ray_of s = ray (vec3_of s) (vec3 (λ i. at s (3 + i)))

-- ---- along the ray, and through a matrix

-- a distance counts directions, which may be of any length
abbrev pub point_at : Ray → Float → Vec3d
point_at r d = sum r.start (multiple r.direction d)

-- the start moves as points do, and the direction without the translation
abbrev pub transformed : Mat4d → Ray → Ray
transformed m r = ray (transformed_point m r.start) (direction m r.direction)

-- ---- where it meets a plane

-- how much the ray runs along the normal
abbrev pub along_normal : Ray → Plane → Float
along_normal r p = dot r.direction p.normal

-- where the ray has come as far along the normal as the point that is normal times distance, through which a plane of unit normal goes
abbrev pub distance_along : Ray → Plane → Float
distance_along r p = dot (difference (multiple p.normal p.distance) r.start) p.normal ⊘ along_normal r p

-- "`intersect_plane` misses if |facing| < 1e-10: 9e-11 misses, 1e-10 goes on. Distance zero hits." The front is the positive side: a ray that meets it runs
-- against the normal.
unfoldable pub plane_hit : Ray → Plane → Option PlaneHit
plane_hit r p =
    cond (lt (abs_of (along_normal r p)) min_length) None
    (cond (le positive_zero (distance_along r p)) (Some (record { distance = distance_along r p; front = lt (along_normal r p) positive_zero })) None)

-- ---- where it meets a triangle

-- The axis that a normal points along most: x only if it is above both others, and z where y is not above it.
unfoldable pub faced : Vec3d → Axis
faced n =
    let x = abs_of n.x in
    let y = abs_of n.y in
    let z = abs_of n.z in
    cond (lt y x && lt z x) X (cond (lt z y) Y Z)

-- projected along an axis: the numbers along the two axes that follow it, counted round
abbrev pub projected : Axis → Vec3d → Flat
projected X p = record { u = p.y; v = p.z }
projected Y p = record { u = p.z; v = p.x }
projected Z p = record { u = p.x; v = p.y }

-- "a weight strictly between −1e-10 and 0 first becomes 0"
unfoldable pub settled : Float → Float
settled w = cond (lt w positive_zero && lt (neg min_length) w) positive_zero w

-- The weights of the third point, the second and the first. d0 is the point met, d1 the second point and d2 the third, all from the first and projected.
unfoldable pub beta_of : Flat → Flat → Flat → Float
beta_of d0 d1 d2 = settled ((d0.v ⊗ d1.u ⊖ d0.u ⊗ d1.v) ⊘ (d2.v ⊗ d1.u ⊖ d2.u ⊗ d1.v))

unfoldable pub alpha_of : Flat → Flat → Flat → Float → Float
alpha_of d0 d1 d2 beta =
    settled (cond (lt min_length (abs_of d1.v)) ((d0.v ⊖ beta ⊗ d2.v) ⊘ d1.v) ((d0.u ⊖ beta ⊗ d2.u) ⊘ d1.u))

-- "Gamma is rounded through f32 before these tests."
unfoldable pub gamma_of : Float → Float → Float
gamma_of alpha beta = settled (widen_of (narrow_of (one ⊖ (alpha ⊕ beta))))

-- "beta must lie in 0 to 1"
abbrev pub in_span : Float → Bool
in_span beta = le positive_zero beta && le beta one

-- "alpha and gamma must not be negative, so NaN passes there"
abbrev pub not_negative : Float → Bool
not_negative w = not (lt w positive_zero)

-- a ray that meets the triangle's plane: all numbers, and whether they are those of a hit
unfoldable pub weighed : Float → Bool → Flat → Flat → Flat → Meeting
weighed distance front d0 d1 d2 =
    let beta = beta_of d0 d1 d2 in
    let alpha = alpha_of d0 d1 d2 beta in
    let gamma = gamma_of alpha beta in
    record {
      numbers = record { distance = distance; gamma = gamma; alpha = alpha; beta = beta; front = front };
      hit = in_span beta && not_negative alpha && not_negative gamma;
    }

-- a ray that misses the plane
abbrev pub no_meeting : Meeting
no_meeting = let o = positive_zero in record { numbers = record { distance = o; gamma = o; alpha = o; beta = o; front = false }; hit = false }

-- What the hits of a triangle share: its plane, its first point, the axis that the plane faces, and the second and the third point from the first, projected.
abbrev pub triangle_of : Vec3d → Vec3d → Vec3d → Triangle
triangle_of p0 p1 p2 =
    let p = from_points p0 p1 p2 in
    let a = faced p.normal in
    record { plane = p; first = p0; axis = a; second = projected a (difference p1 p0); third = projected a (difference p2 p0) }

abbrev pub meeting_at : Option PlaneHit → Ray → Triangle → Meeting
meeting_at (Some h) r t = weighed h.distance h.front (projected t.axis (difference (point_at r h.distance) t.first)) t.second t.third
meeting_at None r t = no_meeting

unfoldable pub meeting_of : Ray → Triangle → Meeting
meeting_of r t = meeting_at (plane_hit r t.plane) r t

-- the answer: the numbers of a hit, or the miss
abbrev pub hit_in : Meeting → Result TriangleHit Refusal
hit_in m = unless m.hit (Err MissRefusal) (Ok m.numbers)

unfoldable pub hit_of : Ray → Triangle → Result TriangleHit Refusal
hit_of r t = hit_in (meeting_of r t)

unfoldable pub triangle_hit : Ray → Vec3d → Vec3d → Vec3d → Result TriangleHit Refusal
triangle_hit r p0 p1 p2 = hit_of r (triangle_of p0 p1 p2)

-- ---- what each answer comes to, by the numbers of the refusals

-- "front 1 or 0"
abbrev pub front_flag : Bool → Float
front_flag true = one
front_flag false = positive_zero

-- "A plane hit writes distance and front flag." "5 a miss"
abbrev pub plane_numbers : PlaneHit → List Float
plane_numbers h = h.distance ∷ front_flag h.front ∷ []

abbrev pub plane_hit_numbers : Option PlaneHit → Outcome (List Float)
plane_hit_numbers (Some h) = outcome (plane_numbers h)
plane_hit_numbers None = refused 5

-- "hit 5 (distance, gamma, alpha, beta, front 1 or 0)"
abbrev pub triangle_numbers : TriangleHit → List Float
triangle_numbers h = h.distance ∷ h.gamma ∷ h.alpha ∷ h.beta ∷ front_flag h.front ∷ []

abbrev pub triangle_hit_numbers : Result TriangleHit Refusal → Outcome (List Float)
triangle_hit_numbers (Ok h) = outcome (triangle_numbers h)
triangle_hit_numbers (Err r) = refused (number_of r)
