-- The segment engine over whole numbers on the farm grid: it is exact, and it and the engine over floats give one answer. Definitions and statements only.
-- `number_at s i` is the number at place i of a whole-number slice, and `at s i` of a slice of floats.
use Rattle.std.specs.Prelude.{◌≡◌, List, ℕ, ◌+◌, ◌*◌, ◌≤◌, ◌<◌, T, length, drop, ℤ, pos, Float}
use Rattle.number.specs.Limits.{point_length, ray_length, fewest_planes, most_planes}
use Rattle.number.specs.Answer.{refused}
use Rattle.number.specs.Slice.{at, all_finite}
use Rattle.whole.specs.SegmentCall.{number_at, point_of, planes_of, view_length, whole_segment_call}
use Rattle.verdict.specs.View.{ray_count}
use Rattle.verdict.specs.FrustumCalls.{intersects_segment_call}
use Rattle.farmgrid.specs.Whole.{Whole}
use Rattle.farmgrid.specs.Placement.{GridPoint}
use Rattle.exact.specs.ExactPoint.{Every}
use Rattle.farmgrid.specs.FarmGrid.{SegmentPlane, SegmentInView}
use Rattle.farmgrid.specs.Records.{PointRecord, ViewRecord, Settled}

-- ---- records of whole numbers

-- a grid point, as either end of a segment is
pub record WholePoint (p : List ℤ) : Type 0 where
  pub numbers : length p ≡ point_length
  pub grid : GridPoint (point_of p)

-- A view of n segment planes, any number of planes that is permitted: "a count of planes, then four numbers for each plane, without rays"
pub record WholeView (view : List ℤ) (n : ℕ) : Type 0 where
  pub counted : number_at view 0 ≡ pos n
  pub fewest : fewest_planes ≤ n
  pub most : n ≤ most_planes
  pub numbers : length view ≡ view_length n
  pub kind : Every SegmentPlane (planes_of view n)

-- ---- the engine is exact

-- On the grid it is never refused, and its verdict is yes exactly where some exact point of the closed segment satisfies all planes.
abbrev pub WholeSegmentExact : Type 0
WholeSegmentExact =
    (view p0 p1 : List ℤ) (n : ℕ)
    → WholeView view n → WholePoint p0 → WholePoint p1 → Settled (whole_segment_call view p0 p1) (SegmentInView (planes_of view n) (point_of p0) (point_of p1))

-- ---- both engines

-- the floats s begin with the whole numbers z, "without loss", and others may stand behind them
pub record FloatsOf (z : List ℤ) (s : List Float) : Type 0 where
  pub same : (i : ℕ) → i < length z → Whole (at s i) (number_at z i)

-- an end, as floats
pub record SameEnd (p : List ℤ) (q : List Float) : Type 0 where
  pub numbers : length q ≡ length p
  pub floats : FloatsOf p q

-- a view, as floats, with "any four finite rays" behind it
pub record SameView (view : List ℤ) (v : List Float) : Type 0 where
  pub numbers : length v ≡ length view + ray_count * ray_length
  pub floats : FloatsOf view v
  pub rays : T (all_finite (drop (length view) v))

-- "Convert the accepted numbers to floats without loss, add any four finite rays, and both engines must give one verdict." Of records of the farm grid:
abbrev pub OneVerdict : Type 0
OneVerdict =
    (view p0 p1 : List ℤ) (n : ℕ) (v q0 q1 : List Float)
    → WholeView view n → WholePoint p0 → WholePoint p1
    → ViewRecord SegmentPlane v (planes_of view n) → PointRecord q0 (point_of p0) → PointRecord q1 (point_of p1)
    → whole_segment_call view p0 p1 ≡ intersects_segment_call v q0 q1

-- And of records of the same numbers, whatever their lengths and numbers are: where this engine does not find a number off the grid, which the other does not
-- ask, both give one answer. That is one verdict, or one refusal.
abbrev pub OneAnswer : Type 0
OneAnswer =
    (view p0 p1 : List ℤ) (v q0 q1 : List Float)
    → SameView view v → SameEnd p0 q0 → SameEnd p1 q1
    → (whole_segment_call view p0 p1 ≡ refused 7 → ⊥) → whole_segment_call view p0 p1 ≡ intersects_segment_call v q0 q1
