-- On the farm grid the verdicts are exact: what is claimed of the point, the segment and the box operation, of all records. Statements only.
use Rattle.std.specs.Prelude.{List, ℕ, ℤ, Float}
use Rattle.verdict.specs.FrustumCalls.{intersects_point_call, intersects_segment_call, intersects_box_call}
use Rattle.whole.specs.Plane.{WholePlane}
use Rattle.exact.specs.ExactPoint.{InView, BoxInView}
use Rattle.placed.specs.Placement.{WholeBox}
use Rattle.farmgrid.specs.FarmGrid.{SegmentPlane, AxisPlane, low_of, high_of, exactly, Share, SegmentInView}
use Rattle.farmgrid.specs.Records.{PointRecord, ViewRecord, BoxRecord, Settled}

-- For segment planes and a grid point the verdict is yes exactly where the point satisfies all planes.
abbrev pub PointExact : Type 0
PointExact =
    (v p : List Float) (Ps : List WholePlane) (A : ℕ → ℤ)
    → ViewRecord SegmentPlane v Ps → PointRecord p A → Settled (intersects_point_call v p) (InView Ps (exactly A))

-- For segment planes and two grid points it is yes exactly where some exact point of the closed segment satisfies all planes.
abbrev pub SegmentExact : Type 0
SegmentExact =
    (v p0 p1 : List Float) (Ps : List WholePlane) (A B : ℕ → ℤ)
    → ViewRecord SegmentPlane v Ps → PointRecord p0 A → PointRecord p1 B → Settled (intersects_segment_call v p0 p1) (SegmentInView Ps A B)

-- For axis planes that share a point and a grid box it is "yes just where placed box and view share an exact point".
abbrev pub BoxExact : Type 0
BoxExact =
    (v b : List Float) (Ps : List WholePlane) (B : WholeBox)
    → ViewRecord AxisPlane v Ps → Share Ps → BoxRecord b B → Settled (intersects_box_call v b) (BoxInView Ps (low_of B) (high_of B))
