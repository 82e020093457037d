-- The volume of a view and a projection matrix. Their product m brings points into clip space: a point p, as a row vector, becomes p · m, and is seen where x, y
-- and z lie from −w to w there. That makes six planes, and rays along the four edges from the near plane on. Definitions only.
use Rattle.std.specs.Prelude.{ℕ, ◌/◌, ◌%◌, Bool, ◌&&◌, eqb, length, Float, None, Option, Some}
use mathlib.Core.List.{List, [], ◌∷◌, ◌++◌, flat_map}
use Rattle.std.specs.Float.Ieee.{neg}
use Rattle.number.specs.Tabulate.{tabulate}
use Rattle.number.specs.Limits.{matrix_length, fewest_planes}
use Rattle.number.specs.Answer.{Reply, Outcome, refused, outcome, unless, has, attempting}
use Rattle.number.specs.Slice.{at, all_finite}
use Rattle.matrix.specs.Constants.{rounded, positive_zero, one}
use Rattle.matrix.specs.Vec.{axis4, vec3, vec4, difference, normalized}
use Rattle.matrix.specs.Matrix.{matrix_of, entry, product}
use Rattle.matrix.specs.Transform.{transformed}
use Rattle.matrix.specs.Inverse.{signed_sum, inverse}
use Rattle.matrix.specs.declared.vec.Vec3d.{Vec3d}
use Rattle.matrix.specs.declared.vec.Vec4d.{Vec4d}
use Rattle.matrix.specs.declared.matrix.Mat4d.{Mat4d}
use Rattle.verdict.specs.declared.plane.Plane.{Plane}
use Rattle.verdict.specs.declared.ray.Ray.{Ray}
use Rattle.verdict.specs.Plane.{plane, numbers as plane_numbers}
use Rattle.verdict.specs.Ray.{ray, numbers as ray_numbers}
use Rattle.verdict.specs.View.{ray_count, volume_length}

-- ---- the planes

-- column k: what a point's coordinate k in clip space is made by, w by column 3
abbrev pub clip_column : Mat4d → ℕ → Vec4d
clip_column m k = vec4 (λ i. entry m i k)

-- By the columns of w and of a coordinate, −w ≤ x where their sum comes to 0 at least, and, where s is true, x ≤ w where their difference does. The first three
-- numbers of these are the normal, and the last, with its sign turned, is the distance: one rounded operation a number, so that the normal has any length.
abbrev pub side : Bool → Vec4d → Vec4d → Plane
side s w x = plane (vec3 (λ i. signed_sum s (axis4 w i) (axis4 x i))) (neg (signed_sum s w.w x.w))

-- left and right, bottom and top, near and far: of x, y and z the two sides in turn. A projection without a far end has a far plane whose normal is zeros.
abbrev pub clip_plane : Mat4d → ℕ → Plane
clip_plane m i = side (eqb (i % 2) 1) (clip_column m 3) (clip_column m (i / 2))

-- ---- the rays

-- the point of clip space at x, y and z, brought back by the inverse of m
abbrev pub brought_back : Mat4d → Float → Float → Float → Vec3d
brought_back inverse x y z = transformed inverse (record { x = x; y = y; z = z })

-- along an edge of the volume: from the near plane, where z is −w, toward where z is 0, by a direction of unit length
abbrev pub edge : Mat4d → Float → Float → Ray
edge inverse x y =
    let start = brought_back inverse x y (neg one) in
    ray start (normalized (difference (brought_back inverse x y positive_zero) start))

-- the edges at (−1,−1), (−1,1), (1,1) and (1,−1)
abbrev pub corner_ray : Mat4d → ℕ → Ray
corner_ray inverse i = edge inverse (at (neg one ∷ neg one ∷ one ∷ one ∷ []) i) (at (neg one ∷ one ∷ one ∷ neg one ∷ []) i)

-- ---- the record

-- "a whole count first, the planes with the original six in front, then the four rays"
abbrev pub record_of : List Plane → List Ray → List Float
record_of ps rs = rounded (length ps) 1 ∷ flat_map plane_numbers ps ++ flat_map ray_numbers rs

unfoldable pub numbers : Mat4d → Mat4d → List Float
unfolding tabulate flat_map
numbers m inverse = record_of (tabulate (clip_plane m) fewest_planes) (tabulate (corner_ray inverse) ray_count)

-- ---- what the operation answers and leaves: 1 and 2 for lengths, then 4 where the product has no inverse, then 8 where a number of the record is not finite

unfoldable pub finite_only : List Float → Outcome (List Float)
finite_only s = unless (all_finite s) (refused 8) (outcome s)

abbrev pub clip_volume_by : Mat4d → Option Mat4d → Outcome (List Float)
clip_volume_by m None = refused 4
clip_volume_by m (Some inverse) = finite_only (numbers m inverse)

unfoldable pub clip_volume : Mat4d → Outcome (List Float)
unfolding finite_only numbers
clip_volume m = clip_volume_by m (inverse m)

unfoldable pub from_matrices_call : List Float → List Float → List Float → Reply Float
unfolding clip_volume
from_matrices_call view projection out =
    attempting (has matrix_length view && has matrix_length projection) (volume_length fewest_planes) (clip_volume (product (matrix_of view) (matrix_of projection))) out
