-- Planes, as Gf's documentation has them: a normal, which the verdicts do not need to be of unit length, and a distance along it, floats of any kind.
-- Definitions and a statement only.
use Rattle.std.specs.Prelude.{◌≡◌, Bool, true, cond, not, ◌&&◌, List, [], ◌∷◌, ◌++◌, Float, None, Option, Some}
use Rattle.std.specs.Float.Ieee.{le, eq, neg}
use Rattle.number.specs.Answer.{Outcome, refused, outcome}
use Rattle.number.specs.Arithmetic.{◌⊕◌, ◌⊖◌, ◌⊗◌, ◌⊘◌, zero_of}
use Rattle.number.specs.Slice.{at}
use Rattle.matrix.specs.Constants.{positive_zero}
use Rattle.matrix.specs.Vec.{coordinates, axis, axis4, vec3, vec3_of, difference, dot, cross, length_of, normalized}
use Rattle.matrix.specs.Matrix.{transpose}
use Rattle.matrix.specs.Transform.{homogeneous}
use Rattle.matrix.specs.Inverse.{inverse}
use Rattle.matrix.specs.Range.{is_empty}
use Rattle.matrix.specs.declared.vec.Vec3d.{Vec3d}
use Rattle.matrix.specs.declared.vec.Vec4d.{Vec4d}
use Rattle.matrix.specs.declared.matrix.Mat4d.{Mat4d}
use Rattle.matrix.specs.declared.range.Range3d.{Range3d}
use Rattle.verdict.specs.declared.plane.Plane.{Plane}

-- ---- its numbers, "plane 4 (normal, distance)"

abbrev pub numbers : Plane → List Float
numbers p = coordinates p.normal ++ p.distance ∷ []

abbrev pub plane : Vec3d → Float → Plane
plane n d = record { normal = n; distance = d }

abbrev pub plane_of : List Float → Plane
plane_of s = plane (vec3_of s) (at s 3)

-- ---- planes from a normal, from points, from an equation

-- the normal is normalized, and the distance kept
abbrev pub facing : Vec3d → Float → Plane
facing n d = plane (normalized n) d

-- on which the three points lie; seen from its positive side they go round against the clock
abbrev pub from_points : Vec3d → Vec3d → Vec3d → Plane
from_points p0 p1 p2 = let n = normalized (cross (difference p1 p0) (difference p2 p0)) in plane n (dot n p0)

-- "`from_equation` with a normal whose computed length is zero takes −w as distance."
unfoldable pub offset : Float → Float → Float
offset w length = cond (eq length positive_zero) (neg w) (neg w ⊘ length)

-- by the equation n · x + w = 0, of which n is the first three numbers: it faces along n, and its distance is −w over the length of n
abbrev pub from_equation : Vec4d → Plane
from_equation e = let n = vec3 (axis4 e) in plane (normalized n) (offset e.w (length_of n))

abbrev pub equation : Plane → Vec4d
equation p = record { x = p.normal.x; y = p.normal.y; z = p.normal.z; w = neg p.distance }

-- ---- its two sides

-- "the dot product of normal and point, less the distance"
abbrev pub distance_to : Plane → Vec3d → Float
distance_to p x = dot x p.normal ⊖ p.distance

-- it is at least 0, so that touching counts: "A NaN distance is not on the positive side."
abbrev pub on_positive_side : Plane → Vec3d → Bool
on_positive_side p x = le positive_zero (distance_to p x)

-- along an axis the greatest of a range, or the least where the normal's number there is below 0 or a NaN
unfoldable pub end_toward : Float → Float → Float → Float
end_toward n low high = cond (le positive_zero n) high low

-- so along each axis: of the corners of a range the one whose dot product with the normal is greatest
abbrev pub furthest : Vec3d → Range3d → Vec3d
furthest n r = vec3 (λ i. end_toward (axis n i) (axis r.min i) (axis r.max i))

-- How far a range reaches along a normal: the three products added up as the Rust's `sum` does, from -0, the zero that leaves every number as it is.
abbrev pub reach_along : Vec3d → Range3d → Float
reach_along n r = let c = furthest n r in zero_of true ⊕ n.x ⊗ c.x ⊕ n.y ⊗ c.y ⊕ n.z ⊗ c.z

-- a range that is not empty comes at least as far along the normal as the plane
unfoldable pub reaches_positive_side : Plane → Range3d → Bool
reaches_positive_side p r = not (is_empty r) && le p.distance (reach_along p.normal r)

-- Earlier releases of Rust start a sum from +0. The comparison is the same from either zero, and from the first product as the code has it.
abbrev pub ReachFromEitherZero : Type 0
ReachFromEitherZero = (s : Bool) (d : Float) (n c : Vec3d) → le d (zero_of s ⊕ n.x ⊗ c.x ⊕ n.y ⊗ c.y ⊕ n.z ⊗ c.z) ≡ le d (dot n c)

-- ---- a plane through a matrix

-- Where m is the transpose of the inverse of what moves points: a point of the plane, moved, satisfies the equation that m makes of the plane's as a row.
abbrev pub under_inverse_transpose : Mat4d → Plane → Plane
under_inverse_transpose m p = from_equation (homogeneous m (equation p))

abbrev pub carried : Option Mat4d → Plane → Option Plane
carried (Some m) p = Some (under_inverse_transpose (transpose m) p)
carried None p = None

unfoldable pub transformed : Mat4d → Plane → Option Plane
transformed m p = carried (inverse m) p

-- what its answer comes to, by the numbers of the refusals: "4 is singular"
abbrev pub transformed_numbers : Option Plane → Outcome (List Float)
transformed_numbers (Some p) = outcome (numbers p)
transformed_numbers None = refused 4
