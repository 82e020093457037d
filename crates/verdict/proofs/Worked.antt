-- Worked numbers, odd inputs and slips a rater would miss, on planes and rays, and finite ones that overflow, computed from the definitions. Assumes
-- nothing.
use Rattle.std.proofs.Common.{◌≡◌, ◌*◌, ◌^◌, Bool, true, false, cond, ◌||◌, eqb, leb, pos, negsuc, refl, ap, None, Some, Ok}
use lib.Count.{count_trailing_zeros}
use lib.Ieee.{Float, nan, fin, add, sub, mul, div, neg, lt, le, eq, is_nan, round, sum, units, odd, size, span, climb}
use Rattle.number.specs.Arithmetic.{abs_of, max_of}
use Rattle.number.specs.Answer.{refused}
use Rattle.number.specs.Format.{narrow_of}
use Rattle.number.specs.Root.{sqrt_of}
use Rattle.matrix.specs.Constants.{rounded, positive_zero, half, one, min_length}
use Rattle.matrix.specs.Vec.{length_of, normalized}
use Rattle.matrix.specs.Matrix.{matrix}
use Rattle.matrix.specs.Inverse.{adjugate, determinant, inverse_above}
use Rattle.matrix.specs.declared.vec.Vec3d.{Vec3d}
use Rattle.matrix.specs.declared.matrix.Mat4d.{Mat4d}
use Rattle.matrix.specs.declared.range.Range3d.{Range3d}
use Rattle.verdict.specs.declared.plane.Plane.{Plane}
use Rattle.verdict.specs.declared.ray.Ray.{Ray}
use Rattle.verdict.specs.Plane.{plane, offset, from_equation, distance_to, on_positive_side}
use Rattle.verdict.specs.BBox.{box, is_degenerate}
use Rattle.verdict.specs.Frustum.{crossing}
use Rattle.verdict.specs.Ray.{ray, plane_hit, faced, settled, beta_of, alpha_of, gamma_of, weighed, meeting_of, hit_of, triangle_hit, triangle_hit_numbers}

abbrev o : Float
o = positive_zero

abbrev vec : Float → Float → Float → Vec3d
vec x y z = record { x = x; y = y; z = z }

-- ---- planes

-- "`from_equation` with a normal whose computed length is zero takes −w as distance."
no_normal : (w : Float) → (from_equation (record { x = o; y = o; z = o; w = w })).distance ≡ neg w
unfolding offset length_of sqrt_of add mul eq round sum units odd size span climb count_trailing_zeros
no_normal w = refl

-- "A NaN distance is not on the positive side."
no_side : (p : Plane) (x : Vec3d) → distance_to p x ≡ nan → on_positive_side p x ≡ false
unfolding le round units odd size span climb count_trailing_zeros
no_side p x h = ap (le positive_zero) h

-- ---- a NaN of finite numbers, by overflow

abbrev two : Float
two = rounded 2 1

-- a distance: 2e308 less 2e308
endless_distance : distance_to (plane (vec two (neg two) o) o) (vec (rounded (10 ^ 308) 1) (rounded (10 ^ 308) 1) o) ≡ nan
unfolding add sub mul neg round sum units odd size span climb count_trailing_zeros
endless_distance = refl

-- a crossing: the ends are 2.5e308 apart along x, and 0 times that is the NaN
abbrev far_west : Vec3d
far_west = vec (neg (rounded (12 * 10 ^ 307) 1)) (rounded 20 1) (rounded 5 1)

abbrev far_east : Vec3d
far_east = vec (rounded (13 * 10 ^ 307) 1) (neg (rounded (10 ^ 6) 1)) (rounded 5 1)

endless_segment : crossing (plane (vec o one o) o) far_west far_east ≡ nan
unfolding add sub mul div neg round sum units odd size span climb count_trailing_zeros
endless_segment = refl

-- a determinant: 1e400 less 1e400; the box is degenerate
abbrev far : Float
far = rounded (10 ^ 200) 1

abbrev flat : Mat4d
flat = matrix (λ i j. cond (leb 2 i || leb 2 j) (cond (eqb i j) one o) far)

endless_determinant : determinant flat ≡ nan
unfolding determinant adjugate add sub mul neg round sum units odd size span climb count_trailing_zeros
endless_determinant = refl

endless_matrix : (r : Range3d) (f : Bool) → is_degenerate (box r flat f) ≡ true
unfolding inverse_above determinant adjugate abs_of add sub mul div neg lt round sum units odd size span climb count_trailing_zeros
endless_matrix r f = refl

-- ---- a plane, met from above

abbrev ground : Plane
ground = plane (vec o o one) o

-- straight down from x, y and one above the ground
abbrev down : Float → Float → Float → Ray
down x y speed = ray (vec x y one) (vec o o (neg speed))

-- "9e-11 misses, 1e-10 goes on", to a distance of 1e10
too_flat : plane_hit (down o o (rounded 9 (10 ^ 11))) ground ≡ None
unfolding plane_hit abs_of add sub mul div neg lt le
too_flat = refl

steep_enough : plane_hit (down o o min_length) ground ≡ Some (record { distance = fin false 9765625 (pos 10); front = true })
unfolding plane_hit abs_of add sub mul div neg lt le
steep_enough = refl

-- "Distance zero hits."
from_the_ground : plane_hit (ray (vec o o o) (vec o o (neg one))) ground ≡ Some (record { distance = neg o; front = true })
unfolding plane_hit abs_of add sub mul div neg lt le
from_the_ground = refl

-- ---- weights and triangles

-- "a weight strictly between −1e-10 and 0 first becomes 0"
nearly_zero : settled (neg (rounded 9 (10 ^ 11))) ≡ o
unfolding settled neg lt round units odd size span climb count_trailing_zeros
nearly_zero = refl

not_nearly : settled (neg min_length) ≡ neg min_length
unfolding settled neg lt round units odd size span climb count_trailing_zeros
not_nearly = refl

abbrev corner : Vec3d
corner = vec o o o

-- 0.1 and 0.2
abbrev tenth : Float
tenth = fin false 3602879701896397 (negsuc 54)

abbrev fifth : Float
fifth = fin false 3602879701896397 (negsuc 53)

-- "Keeping gamma unrounded changes a hit's weights": it is 11744051 / 2 ^ 24, and not 0.7
rounded_gamma : triangle_hit (down tenth fifth one) corner (vec one o o) (vec o one o) ≡ Ok (record { distance = fin false 1 (pos 0); gamma = fin false 11744051 (negsuc 23); alpha = tenth; beta = fifth; front = true })
unfolding triangle_hit hit_of meeting_of plane_hit faced weighed beta_of alpha_of gamma_of settled narrow_of normalized length_of sqrt_of abs_of max_of is_nan add sub mul div neg lt le
rounded_gamma = refl

-- past an edge by 1e-9, and a triangle without area
outside : triangle_hit_numbers (triangle_hit (down (neg (rounded 1 (10 ^ 9))) half one) corner (vec one o o) (vec o one o)) ≡ refused 5
unfolding triangle_hit hit_of meeting_of plane_hit faced weighed beta_of alpha_of gamma_of settled narrow_of normalized length_of sqrt_of abs_of max_of is_nan add sub mul div neg lt le
outside = refl

no_area : triangle_hit_numbers (triangle_hit (down half o one) corner (vec one o o) (vec (rounded 2 1) o o)) ≡ refused 5
unfolding triangle_hit hit_of meeting_of plane_hit faced weighed beta_of alpha_of gamma_of settled narrow_of normalized length_of sqrt_of abs_of max_of is_nan add sub mul div neg lt le
no_area = refl
