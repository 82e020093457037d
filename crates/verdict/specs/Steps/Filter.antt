-- A floating-point filter for the test of a plane by a range: an estimate whose sign tells the side, and a bound on its error, as computational geometry has them (S. Fortune and C. J. Van Wyk 1993; J. R. Shewchuk 1997).
-- The equation n, w is that of a plane carried into a box's space and c the corner of the box's range that is furthest along n: the range reaches the plane's positive side where n · c + w is at least 0,
-- which needs no length of n. Both are floats of any kind; `trusted` refuses those for which the bound would not hold. Definitions and a statement only.
use Rattle.std.specs.Prelude.{◌≡◌, ◌^◌, Bool, false, cond, not, ◌&&◌, T, Float, Option, None, Some}
use Rattle.std.specs.Float.{binary64}
use Rattle.std.specs.Float.Ieee.{fits, lt, le, neg}
use Rattle.number.specs.Arithmetic.{◌⊕◌, ◌⊗◌, abs_of}
use Rattle.matrix.specs.Constants.{rounded}
use Rattle.matrix.specs.Vec.{axis4, vec3, dot}
use Rattle.matrix.specs.Range.{is_empty}
use Rattle.matrix.specs.declared.vec.Vec3d.{Vec3d}
use Rattle.matrix.specs.declared.vec.Vec4d.{Vec4d}
use Rattle.matrix.specs.declared.range.Range3d.{Range3d}
use Rattle.verdict.specs.Plane.{furthest, from_equation, reaches_positive_side}

-- ---- bounds beyond any farm, within which nothing overflows and what is lost near the least number of the format is less than the error

-- of the length of a normal, and the second of a range's numbers
abbrev pub short : Float
short = rounded 1 (10 ^ 9)

abbrev pub long : Float
long = rounded (10 ^ 18) 1

-- of the size of what is added up
abbrev pub least_size : Float
least_size = rounded 1 (10 ^ 90)

abbrev pub most_size : Float
most_size = rounded (10 ^ 90) 1

-- the part of that size that is taken for the error, some thousands of times what the roundings can make of it
abbrev pub part : Float
part = rounded 1 (10 ^ 11)

-- ---- the filter

abbrev pub normal_of : Vec4d → Vec3d
normal_of e = vec3 (axis4 e)

-- n · c + w
abbrev pub estimate_of : Vec4d → Range3d → Float
estimate_of e r = let n = normal_of e in let c = furthest n r in n.x ⊗ c.x ⊕ n.y ⊗ c.y ⊕ n.z ⊗ c.z ⊕ e.w

-- a range's numbers in size, added up: no corner is further along an axis
abbrev pub extent_of : Range3d → Float
extent_of r = abs_of r.min.x ⊕ abs_of r.min.y ⊕ abs_of r.min.z ⊕ abs_of r.max.x ⊕ abs_of r.max.y ⊕ abs_of r.max.z

-- the square of the normal's length
abbrev pub square_of : Vec4d → Float
square_of e = dot (normal_of e) (normal_of e)

-- No less than the sizes of what is added up: a number of the normal is at most 1 and its square together, so that the three are at most 3 and the square of the length.
abbrev pub size_of : Vec4d → Range3d → Float
size_of e r = extent_of r ⊗ (rounded 3 1 ⊕ square_of e) ⊕ abs_of e.w

-- the bound on the error of the estimate and of the test itself
abbrev pub error_of : Float → Float
error_of size = size ⊗ part

abbrev pub trusted : Vec4d → Range3d → Bool
trusted e r = lt (extent_of r) long && lt (short ⊗ short) (square_of e) && lt (square_of e) (long ⊗ long) && lt least_size (size_of e r) && lt (size_of e r) most_size

-- by an estimate and its error the range reaches the positive side, or misses it
abbrev pub is_reached : Float → Float → Bool
is_reached error estimate = le error estimate

abbrev pub is_missed : Float → Float → Bool
is_missed error estimate = lt estimate (neg error)

-- Whether any of the range is on the positive side of the plane that the equation makes, where the filter tells.
unfoldable pub settled_of : Vec4d → Range3d → Option Bool
settled_of e r =
    let error = error_of (size_of e r) in
    let estimate = estimate_of e r in
    cond (trusted e r && is_reached error estimate) (Some (not (is_empty r))) (cond (trusted e r && is_missed error estimate) (Some false) None)

-- the numbers are values of the format, as every number of the code is
abbrev pub Fits : Vec4d → Type 0
Fits e = T (fits binary64 e.x) × T (fits binary64 e.y) × T (fits binary64 e.z) × T (fits binary64 e.w)

abbrev pub RangeFits : Range3d → Type 0
RangeFits r =
    T (fits binary64 r.min.x) × T (fits binary64 r.min.y) × T (fits binary64 r.min.z) × T (fits binary64 r.max.x) × T (fits binary64 r.max.y) × T (fits binary64 r.max.z)

-- Where the filter is trusted it settles the test as the plane does, whose normal is made unit length: a range that is not empty reaches the positive side if the estimate is at least the error, and none does
-- if it is below the error's opposite.
abbrev pub FilterSettles : Type 0
FilterSettles =
    (e : Vec4d) (r : Range3d) → Fits e → RangeFits r → T (trusted e r)
    → (T (le (error_of (size_of e r)) (estimate_of e r)) → reaches_positive_side (from_equation e) r ≡ not (is_empty r))
    × (T (lt (estimate_of e r) (neg (error_of (size_of e r)))) → reaches_positive_side (from_equation e) r ≡ false)
