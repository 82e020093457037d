-- The farm grid in whole numbers, and which floats stand for it. Definitions only.
-- ℤ are the whole numbers, ℕ those from 0 on; `pos n` is n as a member of ℤ, and `nat_abs z` the size of z. Three whole numbers are given by
-- axis, 0, 1 and 2, as ℕ → ℤ. `Whole x z` says that the float x is the whole number z, "zeros of either sign alike", and `WholeVec` says it of
-- three.
use Rattle.std.specs.Prelude.{◌≡◌, List, [], ◌∷◌, ℕ, ◌-◌, ◌≤◌, ◌<◌, ℤ, pos, nat_abs, ◌+ℤ◌, ◌*ℤ◌}
use Rattle.std.proofs.Common.{lit≤}
use Rattle.number.specs.Limits.{normal_limit, distance_limit}
use Rattle.whole.specs.Plane.{WholePlane, dotℤ}
use Rattle.exact.specs.ExactPoint.{ExactPoint, InView}
use Rattle.farmgrid.specs.Whole.{Whole}
use Rattle.matrix.specs.declared.vec.Vec3d.{Vec3d}
use Rattle.placed.specs.Placement.{WholeBox, sizes, turnedℤ}
use Rattle.farmgrid.specs.Placement.{WholeVec, WholeRange, WholeMatrix, Within, NonEmpty, GridPoint, Placement, productℤ, placed_corner, placed_low, placed_high}
use Rattle.verdict.specs.declared.plane.Plane.{Plane}
use Rattle.verdict.specs.declared.bbox.BBox3d.{BBox3d}

-- ---- planes in whole numbers

-- "Segment planes [..] have whole normal entries of size at most 128 and whole distances of size at most 16,777,216."
pub record SegmentPlane (P : WholePlane) : Type 0 where
  pub entries : Within normal_limit P.normal
  pub far : nat_abs P.distance ≤ distance_limit

-- "Axis planes are segment planes with a single 1 or −1 and two zeros in the normal": the sizes of the entries add up to 1.
pub record AxisPlane (P : WholePlane) : Type 0 where
  pub segment : SegmentPlane P
  pub single : sizes P.normal ≡ 1

-- ---- boxes in whole numbers: a range from low to high, and the matrix that places it

-- "A box's placed corners": corner k of eight, by axis
abbrev pub placed_corner_of : WholeBox → ℕ → ℕ → ℤ
placed_corner_of B k j = placed_corner B.matrix B.low B.high j k

-- "the least" and "the greatest of that coordinate among them", by axis
abbrev pub low_of : WholeBox → ℕ → ℤ
low_of B = placed_low B.matrix B.low B.high

abbrev pub high_of : WholeBox → ℕ → ℤ
high_of B = placed_high B.matrix B.low B.high

-- "Grid boxes have [..] non-empty ranges with grid corners, such a placement, and placed corners on the grid."
pub record GridBox (B : WholeBox) : Type 0 where
  pub low : GridPoint B.low
  pub high : GridPoint B.high
  pub some : NonEmpty B.low B.high
  pub placement : Placement B.matrix
  pub placed : (k : ℕ) → k < 8 → GridPoint (placed_corner_of B k)

-- ---- which floats stand for them

-- the point a is the grid point A
pub record IsPoint (a : Vec3d) (A : ℕ → ℤ) : Type 0 where
  pub numbers : WholeVec a A
  pub grid : GridPoint A

-- the plane p is P, which is of a kind: `SegmentPlane` or `AxisPlane`
pub record IsPlane (Kind : WholePlane → Type 0) (p : Plane) (P : WholePlane) : Type 0 where
  pub normal : WholeVec p.normal P.normal
  pub distance : Whole p.distance P.distance
  pub kind : Kind P

-- the planes of a list are those of another, one by one
pub data ArePlanes (Kind : WholePlane → Type 0) : List Plane → List WholePlane → Type 0 where
  none : ArePlanes Kind [] []
  more : {p : Plane} {P : WholePlane} {ps : List Plane} {Ps : List WholePlane}
      → IsPlane Kind p P → ArePlanes Kind ps Ps → ArePlanes Kind (p ∷ ps) (P ∷ Ps)

-- the box b is the grid box B
pub record IsBox (b : BBox3d) (B : WholeBox) : Type 0 where
  pub range : WholeRange b.range B.low B.high
  pub matrix : WholeMatrix b.matrix B.matrix
  pub grid : GridBox B

-- ---- exact points

-- a grid point is an exact point, over 1
abbrev pub exactly : (ℕ → ℤ) → ExactPoint
exactly A = record { numbers = A; k = 1; some = lit≤ tt }

-- "The exact points of a segment are (k − m) times its first end plus m times its second, over k, for whole m from 0 to k."
abbrev pub between : (ℕ → ℤ) → (ℕ → ℤ) → (k m : ℕ) → 1 ≤ k → ExactPoint
between A B k m h = record { numbers = λ i. pos (k - m) *ℤ A i +ℤ pos m *ℤ B i; k = k; some = h }

-- Planes "share one themselves if some exact point satisfies them all".
pub record Share (Ps : List WholePlane) : Type 0 where
  pub point : ExactPoint
  pub satisfied : InView Ps point

-- some exact point of the closed segment from A to B is in the view
pub record SegmentInView (Ps : List WholePlane) (A B : ℕ → ℤ) : Type 0 where
  pub k : ℕ
  pub m : ℕ
  pub some : 1 ≤ k
  pub part : m ≤ k
  pub seen : InView Ps (between A B k m some)

-- ---- turns

-- A turn moves "a plane by turning its normal and adding the dot product of turned normal and translation to its distance". The
-- translation is the last row of f; `movedℤ f` moves a point.
abbrev pub moved_plane : (ℕ → ℕ → ℤ) → WholePlane → WholePlane
moved_plane f P = record { normal = turnedℤ f P.normal; distance = P.distance +ℤ dotℤ (turnedℤ f P.normal) (f 3) }

-- "a box takes the product of its placement and the turn"
abbrev pub moved_box : (ℕ → ℕ → ℤ) → WholeBox → WholeBox
moved_box f B = record { low = B.low; high = B.high; matrix = productℤ B.matrix f }
