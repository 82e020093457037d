-- A turn changes no verdict on the farm grid. Definitions and statements only.
-- "A turn is any quarter-turn placement, used alike on planes, points, segment ends and boxes. It moves a point by the point operation [..]; a box
-- takes the product of its placement and the turn. After moving, all must meet these limits again."
use Rattle.std.specs.Prelude.{◌≡◌, List, [], ◌∷◌, ◌++◌, map, ℕ, T, length, take, drop, ℤ, Float}
use Rattle.number.specs.Limits.{point_length, range_length, matrix_length, box_length}
use Rattle.matrix.specs.MatrixCalls.{product_call, transform_call as point_moved}
use Rattle.verdict.specs.BBox.{is_flag}
use Rattle.verdict.specs.BBoxCalls.{transform_box_call as box_moved}
use Rattle.verdict.specs.FrustumCalls.{intersects_point_call, intersects_segment_call, intersects_box_call}
use Rattle.whole.specs.Plane.{WholePlane}
use Rattle.placed.specs.Placement.{movedℤ, WholeBox}
use Rattle.farmgrid.specs.Placement.{GridPoint}
use Rattle.farmgrid.specs.FarmGrid.{SegmentPlane, AxisPlane, GridBox, moved_plane, moved_box}
use Rattle.farmgrid.specs.Records.{PointRecord, ViewRecord, BoxRecord, TurnRecord, Accepted}

-- ---- what is turned

-- Each is a record of something on the grid and a record of what that is moved to, which is on the grid again: any such record, whatever the signs of
-- its zeros and, of a box, its flag.

-- A view of planes of a kind, and a view of the moved planes, which are of that kind again. "A turn leaves the rays as they are": the second view has those of
-- the first, or any other finite ones.
pub record TurnedView (Kind : WholePlane → Type 0) (f : ℕ → ℕ → ℤ) (v v' : List Float) (Ps : List WholePlane) : Type 0 where
  pub before : ViewRecord Kind v Ps
  pub after : ViewRecord Kind v' (map (moved_plane f) Ps)

pub record TurnedPoint (f : ℕ → ℕ → ℤ) (p p' : List Float) (A : ℕ → ℤ) : Type 0 where
  pub before : PointRecord p A
  pub after : PointRecord p' (movedℤ f A)

pub record TurnedBox (f : ℕ → ℕ → ℤ) (b b' : List Float) (B : WholeBox) : Type 0 where
  pub before : BoxRecord b B
  pub after : BoxRecord b' (moved_box f B)

-- ---- the parts of a box's record: "range, matrix, zero-area flag"

abbrev pub range_in : List Float → List Float
range_in b = take range_length b

abbrev pub placement_in : List Float → List Float
placement_in b = take matrix_length (drop range_length b)

abbrev pub box_from : List Float → List Float → Float → List Float
box_from range placement flag = range ++ placement ++ flag ∷ []

-- ---- the claim

-- The turn f, whose record is m: the operations move what stays on the grid to a record of what is moved, and every verdict on such a record is as it was.
-- A slice that is lent for a result has its length.
pub record KeepsVerdicts (m : List Float) (f : ℕ → ℕ → ℤ) : Type 0 where
  -- "It moves a point by the point operation". None of these three calls is refused.
  pub moves : {p : List Float} {A : ℕ → ℤ} → PointRecord p A → GridPoint (movedℤ f A)
      → (out : List Float) → length out ≡ point_length → Accepted (point_moved m p out) (λ p'. TurnedPoint f p p' A)
  -- "a box takes the product of its placement and the turn": what `product` leaves of them, between the box's range and any flag that is allowed, is a
  -- record of the moved box.
  pub takes : {b : List Float} {B : WholeBox} → BoxRecord b B → GridBox (moved_box f B)
      → (out : List Float) → length out ≡ matrix_length → (flag : Float) → T (is_flag flag)
      → Accepted (product_call (placement_in b) m out) (λ product. TurnedBox f b (box_from (range_in b) product flag) B)
  -- And so is what the operation that moves a box's record leaves.
  pub places : {b : List Float} {B : WholeBox} → BoxRecord b B → GridBox (moved_box f B)
      → (out : List Float) → length out ≡ box_length → Accepted (box_moved b m out) (λ b'. TurnedBox f b b' B)
  -- "its point and segment verdicts cover all segment planes"
  pub point : {v v' p p' : List Float} {Ps : List WholePlane} {A : ℕ → ℤ}
      → TurnedView SegmentPlane f v v' Ps → TurnedPoint f p p' A → intersects_point_call v' p' ≡ intersects_point_call v p
  pub segment : {v v' p0 p0' p1 p1' : List Float} {Ps : List WholePlane} {A B : ℕ → ℤ}
      → TurnedView SegmentPlane f v v' Ps → TurnedPoint f p0 p0' A → TurnedPoint f p1 p1' B
      → intersects_segment_call v' p0' p1' ≡ intersects_segment_call v p0 p1
  -- "The turn's box verdicts are those on axis planes"
  pub box : {v v' b b' : List Float} {Ps : List WholePlane} {B : WholeBox}
      → TurnedView AxisPlane f v v' Ps → TurnedBox f b b' B → intersects_box_call v' b' ≡ intersects_box_call v b

abbrev pub TurnKeepsVerdicts : Type 0
TurnKeepsVerdicts = (m : List Float) (f : ℕ → ℕ → ℤ) → TurnRecord m f → KeepsVerdicts m f
