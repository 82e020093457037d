-- The exact verdict on the records of a volume and a box. On the grid it is never refused, and yes exactly where placed box and view share an exact point, whatever the
-- planes are; elsewhere it is refused with 7, once the checks of the filed verdict are passed, which is that of `intersects_bbox` and which the rate goes by. Definitions and
-- statements only.
-- `ExactBoxCall v b answer` says that a call on the records v of a volume and b of a box may answer so.
use Rattle.std.specs.Prelude.{◌≡◌, ◌↔◌, Bool, List, ℕ, ◌<◌, ℤ, Float}
use Rattle.number.specs.Answer.{Outcome, refused, outcome}
use Rattle.whole.specs.Plane.{WholePlane}
use Rattle.exact.specs.ExactPoint.{BoxInView}
use Rattle.verdict.specs.FrustumCalls.{intersects_box_call}
use Rattle.placed.specs.Placement.{WholeBox}
use Rattle.placed.specs.BBoxCall.{ExactBoxCall}
use Rattle.farmgrid.specs.Placement.{Placement}
use Rattle.farmgrid.specs.FarmGrid.{SegmentPlane, AxisPlane, low_of, high_of, Share}
use Rattle.farmgrid.specs.Records.{ViewRecord, BoxRecord, Settled}
use Rattle.farmgrid.specs.Turns.{TurnedView, TurnedBox}

-- ---- on the grid

abbrev pub ByRecords : Type 0
ByRecords =
    (v b : List Float) (Ps : List WholePlane) (B : WholeBox) (answer : Outcome Bool)
    → ViewRecord SegmentPlane v Ps → BoxRecord b B → ExactBoxCall v b answer → Settled answer (BoxInView Ps (low_of B) (high_of B))

-- two grid boxes that are placed alike, by whatever ranges and placements
pub record OnePlace (B B' : WholeBox) : Type 0 where
  pub least : (j : ℕ) → j < 3 → low_of B j ≡ low_of B' j
  pub greatest : (j : ℕ) → j < 3 → high_of B j ≡ high_of B' j

-- Two records of one placed block get one answer.
abbrev pub OneBlock : Type 0
OneBlock =
    (v b b' : List Float) (Ps : List WholePlane) (B B' : WholeBox) (answer answer' : Outcome Bool)
    → ViewRecord SegmentPlane v Ps → BoxRecord b B → BoxRecord b' B' → OnePlace B B' → ExactBoxCall v b answer → ExactBoxCall v b' answer' → answer ≡ answer'

-- A turn of planes and box alike changes no answer, whatever records of them are asked.
abbrev pub TurnedByRecords : Type 0
TurnedByRecords =
    (f : ℕ → ℕ → ℤ) (v v' b b' : List Float) (Ps : List WholePlane) (B : WholeBox) (answer answer' : Outcome Bool)
    → Placement f → TurnedView SegmentPlane f v v' Ps → TurnedBox f b b' B → ExactBoxCall v b answer → ExactBoxCall v' b' answer' → answer' ≡ answer

-- For axis planes that share a point the filed verdict and this one agree.
abbrev pub FiledAgreesByRecords : Type 0
FiledAgreesByRecords =
    (v b : List Float) (Ps : List WholePlane) (B : WholeBox) (answer : Outcome Bool)
    → ViewRecord AxisPlane v Ps → Share Ps → BoxRecord b B → ExactBoxCall v b answer → answer ≡ intersects_box_call v b

-- ---- off the grid

-- the records are of a view by segment planes and of a grid box
pub record GridRecords (v b : List Float) : Type 0 where
  pub planes : List WholePlane
  pub box : WholeBox
  pub view_record : ViewRecord SegmentPlane v planes
  pub box_record : BoxRecord b box

-- a call was answered with a yes or a no
pub record Answered (o : Outcome Bool) : Type 0 where
  pub verdict : Bool
  pub is : o ≡ outcome verdict

-- 7 is answered where the box verdict is not refused and the records are not those of the farm grid, and only there
abbrev pub SevenOffGrid : Type 0
SevenOffGrid =
    (v b : List Float) (answer : Outcome Bool) → ExactBoxCall v b answer → (answer ≡ refused 7) ↔ (Answered (intersects_box_call v b) × ¬ GridRecords v b)
