-- What one pass over the planes of a view, or over the corners of a box, has found so far. They serve the contracts of private
-- functions; no verdict's definition speaks of them. Definitions only.
use Rattle.std.specs.Prelude.{◌≡◌, ℕ, ◌+◌, ◌-◌, ◌*◌, ◌/◌, ◌%◌, ◌^◌, ◌≤◌, Bool, true, false, ◌&&◌, ◌||◌, List, [], ◌∷◌, length, ◌==◌, Float}
use Rattle.std.specs.Float.Ieee.{lt, neg}
use Rattle.number.specs.Limits.{fewest_planes, most_planes}
use Rattle.number.specs.Every.{every, some_below}
use Rattle.matrix.specs.Constants.{positive_zero, one}
use Rattle.matrix.specs.Transform.{homogeneous}
use Rattle.matrix.specs.Range.{corner}
use Rattle.matrix.specs.declared.vec.Vec3d.{Vec3d}
use Rattle.matrix.specs.declared.vec.Vec4d.{Vec4d}
use Rattle.matrix.specs.declared.range.Range3d.{Range3d}
use Rattle.matrix.specs.declared.matrix.Mat4d.{Mat4d}
use Rattle.verdict.specs.declared.plane.Plane.{Plane}
use Rattle.verdict.specs.declared.clip.Sides.{Sides}
use Rattle.verdict.specs.Plane.{on_positive_side}
use Rattle.verdict.specs.View.{near_plane, volume_length}
use Rattle.verdict.specs.Frustum.{has_end, span_left}

-- ---- what a verdict is given: the numbers of a view and a count

-- they are a record of n planes, the original ones at least, and of the rays
pub record IsView (s : List Float) (n : ℕ) : Type 0 where
  pub fewest : fewest_planes ≤ n
  pub most : n ≤ most_planes
  pub numbers : length s ≡ volume_length n

-- ---- the planes that pass a test, as the bits of a number

abbrev pub bit : Bool → ℕ
bit true = 1
bit false = 0

-- the lowest bit is of the first plane
unfoldable pub mask_of : (Plane → Bool) → List Plane → ℕ
mask_of test [] = 0
mask_of test (p ∷ ps) = mask_of test ps * 2 + bit (test p)

-- those that have a point on their positive side
abbrev pub sides_of : List Plane → Vec3d → ℕ
sides_of ps x = mask_of (λ p. on_positive_side p x) ps

-- all of n planes
abbrev pub all_planes : ℕ → ℕ
all_planes n = 2 ^ n - 1

-- the near and the far plane are among them
abbrev pub near_and_far_in : ℕ → Bool
near_and_far_in m = m / 2 ^ near_plane % 4 == 3

-- some of a triangle's side is left, of which both ends are outside
abbrev pub side_left : List Plane → Vec3d → Vec3d → Bool
side_left ps a b = every (has_end a b) ps && span_left ps a b positive_zero one

-- ---- the sides of clip space that some corner of a box is within

-- corner k of a range, under a matrix
abbrev pub corner_under : Range3d → Mat4d → ℕ → Vec4d
corner_under r m k =
    let c = corner r k in
    homogeneous m (record { x = c.x; y = c.y; z = c.z; w = one })

-- with a further corner passed
abbrev pub passed_by : Sides → Vec4d → Sides
passed_by s v = record {
  right = s.right || lt v.x v.w;
  left = s.left || lt (neg v.w) v.x;
  top = s.top || lt v.y v.w;
  bottom = s.bottom || lt (neg v.w) v.y;
  far = s.far || lt v.z v.w;
  near = s.near || lt (neg v.w) v.z;
}

-- with the first n corners of a range passed
unfoldable pub passed_of : Range3d → Mat4d → ℕ → Sides
passed_of r m n = record {
  right = some_below n (λ k. lt (corner_under r m k).x (corner_under r m k).w);
  left = some_below n (λ k. lt (neg (corner_under r m k).w) (corner_under r m k).x);
  top = some_below n (λ k. lt (corner_under r m k).y (corner_under r m k).w);
  bottom = some_below n (λ k. lt (neg (corner_under r m k).w) (corner_under r m k).y);
  far = some_below n (λ k. lt (corner_under r m k).z (corner_under r m k).w);
  near = some_below n (λ k. lt (neg (corner_under r m k).w) (corner_under r m k).z);
}

abbrev pub all_sides : Sides → Bool
all_sides s = s.right && s.left && (s.top && s.bottom) && (s.far && s.near)
