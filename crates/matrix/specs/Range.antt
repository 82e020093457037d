-- Boxes along the axes, from a least to a greatest corner, as Gf's documentation has them. Definitions only.
use Rattle.std.specs.Prelude.{ℕ, zero, suc, ◌+◌, ◌/◌, ◌%◌, ◌^◌, Bool, cond, ◌||◌, List, [], ◌++◌, eqb, Float}
use Rattle.std.specs.Float.Ieee.{lt, neg}
use Rattle.number.specs.Arithmetic.{◌⊕◌, ◌⊖◌, ◌⊗◌, min_of, max_of}
use Rattle.number.specs.Slice.{at}
use Rattle.matrix.specs.declared.vec.Vec3d.{Vec3d}
use Rattle.matrix.specs.declared.matrix.Mat4d.{Mat4d}
use Rattle.matrix.specs.declared.range.Range3d.{Range3d}
use Rattle.matrix.specs.Constants.{positive_zero, half, largest32}
use Rattle.matrix.specs.Vec.{coordinates, axis, vec3, sum, difference, multiple, least, greatest}
use Rattle.matrix.specs.Matrix.{entry}
use Rattle.matrix.specs.Transform.{column}

-- ---- its numbers, "range 6 (min, max)"

abbrev pub bounds : Range3d → List Float
bounds r = coordinates r.min ++ coordinates r.max

abbrev pub range : Vec3d → Vec3d → Range3d
range min max = record { min = min; max = max }

abbrev pub range_of : List Float → Range3d
range_of s = range (vec3 (at s)) (vec3 (λ i. at s (3 + i)))

-- the default range: along each axis from the largest number of binary32 down to its opposite
abbrev pub empty : Range3d
empty = range (vec3 (λ i. largest32)) (vec3 (λ i. neg largest32))

-- ---- emptiness, union, intersection

abbrev pub empty_along : Range3d → ℕ → Bool
empty_along r i = lt (axis r.max i) (axis r.min i)

-- "Empty means min > max on some axis. NaN alone is not empty."
unfoldable pub is_empty : Range3d → Bool
is_empty r = empty_along r 0 || empty_along r 1 || empty_along r 2

-- of two that are not empty
abbrev pub joined : Range3d → Range3d → Range3d
joined a b = range (least a.min b.min) (greatest a.max b.max)

-- "The union of two empty ranges is the second."
unfoldable pub union : Range3d → Range3d → Range3d
unfolding is_empty
union a b = cond (is_empty a) b (cond (is_empty b) a (joined a b))

abbrev pub intersection : Range3d → Range3d → Range3d
intersection a b = range (greatest a.min b.min) (least a.max b.max)

-- ---- size, midpoint, distance

abbrev pub size : Range3d → Vec3d
size r = difference r.max r.min

abbrev pub midpoint : Range3d → Vec3d
midpoint r = sum (multiple r.min half) (multiple r.max half)

abbrev pub squared : Float → Float
squared x = x ⊗ x

-- from p to the span between two numbers, below it first; 0 where p is on neither side of it, and so for NaN
unfoldable pub span_distance_squared : Float → Float → Float → Float
span_distance_squared p low high = cond (lt p low) (squared (low ⊖ p)) (cond (lt high p) (squared (p ⊖ high)) positive_zero)

unfoldable pub distance_squared : Range3d → Vec3d → Float
unfolding span_distance_squared
distance_squared r p =
    span_distance_squared p.x r.min.x r.max.x ⊕ span_distance_squared p.y r.min.y r.max.y ⊕ span_distance_squared p.z r.min.z r.max.z

-- ---- a range through a matrix, whose last column has no part in it

-- s + f 0 + f 1 + .. of n terms, from left to right
unfoldable pub sum_from : Float → ℕ → (ℕ → Float) → Float
sum_from s zero f = s
sum_from s (suc n) f = sum_from s n f ⊕ f n

-- Along one axis, of which the column of the matrix and the translation are given: each axis i of the range adds the least, or the greatest, of what
-- the matrix makes of its two bounds.
unfoldable pub reach : (Float → Float → Float) → Range3d → Vec3d → Float → Float
unfolding sum_from
reach pick r column from = sum_from from 3 (λ i. pick (axis r.min i ⊗ axis column i) (axis r.max i ⊗ axis column i))

abbrev pub reached : (Float → Float → Float) → Range3d → Mat4d → Vec3d
reached pick r m = vec3 (λ j. reach pick r (column m j) (entry m 3 j))

-- an empty range stays as it is
unfoldable pub transformed : Range3d → Mat4d → Range3d
unfolding is_empty reach
transformed r m = cond (is_empty r) r (range (reached min_of r m) (reached max_of r m))

-- ---- corners

-- Of eight corners, counted from 0 in binary with a digit for each axis, that of x the last: 0 stands for the least along the axis, and 1 for the greatest.
abbrev pub corner : Range3d → ℕ → Vec3d
corner r i = vec3 (λ a. cond (eqb (i / 2 ^ a % 2) 1) (axis r.max a) (axis r.min a))

-- the numbers of the first n corners
unfoldable pub corners : Range3d → ℕ → List Float
corners r zero = []
corners r (suc n) = corners r n ++ coordinates (corner r n)
