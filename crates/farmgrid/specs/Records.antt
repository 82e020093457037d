-- The records of the farm grid, as slices that are lent to the engine, and what a call leaves. Definitions only.
-- `T v` says that the verdict v is yes, and `A ↔ B` that A holds exactly where B does.
use Rattle.std.specs.Prelude.{◌≡◌, ◌↔◌, Bool, List, [], ◌∷◌, ℕ, ◌≤◌, T, length, drop, ℤ, pos, Float}
use Rattle.number.specs.Limits.{box_length, fewest_planes, most_planes}
use Rattle.number.specs.Answer.{Reply, Outcome, outcome}
use Rattle.number.specs.Slice.{at, all_finite}
use Rattle.matrix.specs.Vec.{vec3_of}
use Rattle.matrix.specs.Matrix.{matrix_of}
use Rattle.verdict.specs.BBox.{box_of}
use Rattle.verdict.specs.BBoxCalls.{flagged}
use Rattle.verdict.specs.View.{ray_start, volume_length, plane_count_of, planes_of}
use Rattle.whole.specs.Plane.{WholePlane}
use Rattle.farmgrid.specs.Whole.{Whole}
use Rattle.farmgrid.specs.Placement.{Placed}
use Rattle.placed.specs.Placement.{WholeBox}
use Rattle.farmgrid.specs.FarmGrid.{IsPoint, ArePlanes, IsBox}

-- ---- records, by what they are of

-- a grid point A: "Point 3 numbers"
pub record PointRecord (p : List Float) (A : ℕ → ℤ) : Type 0 where
  pub numbers : length p ≡ 3
  pub point : IsPoint (vec3_of p) A

-- the float x is "a whole count" n, from the fewest planes to the most
pub record PlaneCount (x : Float) (n : ℕ) : Type 0 where
  pub whole : Whole x (pos n)
  pub fewest : fewest_planes ≤ n
  pub most : n ≤ most_planes

-- A number is taken for a count exactly where it is one: "12 for a count not whole or outside" these, and for no other.
abbrev pub CountExact : Type 0
CountExact = (x : Float) (n : ℕ) → (plane_count_of x ≡ outcome n) ↔ PlaneCount x n

-- a volume of n planes. The numbers behind its count may be any, NaN among them.
pub record VolumeRecord (v : List Float) (n : ℕ) : Type 0 where
  pub counted : PlaneCount (at v 0) n
  pub numbers : length v ≡ volume_length n

-- a view by the planes Ps, which are of a kind, `SegmentPlane` or `AxisPlane`. Its four rays, behind the planes, may be any finite numbers.
pub record ViewRecord (Kind : WholePlane → Type 0) (v : List Float) (Ps : List WholePlane) : Type 0 where
  pub count : ℕ
  pub volume : VolumeRecord v count
  pub planes : ArePlanes Kind (planes_of v count) Ps
  pub rays : T (all_finite (drop (ray_start count 0) v))

-- a grid box B: "Grid boxes have a flag of 0 or 1"
pub record BoxRecord (b : List Float) (B : WholeBox) : Type 0 where
  pub numbers : length b ≡ box_length
  pub flag : T (flagged b)
  pub box : IsBox (box_of b) B

-- a turn f: "A turn is any quarter-turn placement"
pub record TurnRecord (m : List Float) (f : ℕ → ℕ → ℤ) : Type 0 where
  pub numbers : length m ≡ 16
  pub turn : Placed (matrix_of m) f

-- the records of a list are those of grid boxes, one by one
pub data BoxRecords : List (List Float) → List WholeBox → Type 0 where
  none : BoxRecords [] []
  more : {s : List Float} {B : WholeBox} {ss : List (List Float)} {Bs : List WholeBox}
      → BoxRecord s B → BoxRecords ss Bs → BoxRecords (s ∷ ss) (B ∷ Bs)

-- ---- what a call on them answers

-- a verdict was not refused, and is yes exactly where A holds
pub record Settled (answer : Outcome Bool) (A : Type 0) : Type 0 where
  pub verdict : Bool
  pub answered : answer ≡ outcome verdict
  pub exact : T verdict ↔ A

-- a call was not refused, and what its slice holds is of a kind
pub record Accepted (r : Reply Float) (Kind : List Float → Type 0) : Type 0 where
  pub status : r.status ≡ 0
  pub left : Kind r.out
