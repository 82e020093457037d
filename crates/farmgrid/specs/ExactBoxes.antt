-- The exact verdict on boxes on the farm grid: it is never refused, its witness lies in box and view, and it is yes exactly where they share an exact point, whatever the
-- planes are. Definitions and statements only.
-- Which witness a call leaves is left open, so that each claim speaks of every answer, and of all numbers left, that the contract allows: `WholeBoxCall view box w
-- answer left` says that a call on a view, a box and a slice of the numbers w may answer so and leave those.
use Rattle.std.specs.Prelude.{◌≡◌, Bool, true, false, List, [], ◌∷◌, ◌++◌, map, ℕ, ◌<◌, length, ℤ, Float}
use Rattle.number.specs.Limits.{range_length}
use Rattle.number.specs.Answer.{Outcome, outcome}
use Rattle.whole.specs.Plane.{WholePlane}
use Rattle.whole.specs.SegmentCall.{planes_of}
use Rattle.exact.specs.ExactPoint.{BoxInView}
use Rattle.exact.specs.BBoxCall.{low_corner, high_corner, witness_length, Witness, WholeBoxCall}
use Rattle.verdict.specs.BBoxCalls.{aligned_range_call}
use Rattle.verdict.specs.FrustumCalls.{intersects_box_call}
use Rattle.farmgrid.specs.Placement.{NonEmpty, GridPoint, Placement}
use Rattle.placed.specs.Placement.{WholeBox}
use Rattle.farmgrid.specs.FarmGrid.{SegmentPlane, AxisPlane, GridBox, low_of, high_of, Share, moved_plane, moved_box}
use Rattle.farmgrid.specs.Records.{ViewRecord, BoxRecord, Settled}
use Rattle.farmgrid.specs.Screens.{NeverToYes}
use Rattle.farmgrid.specs.WholeNumbers.{WholeView, FloatsOf, SameView}

-- ---- records of whole numbers

-- the plane O has the numbers of P
pub record SamePlane (O P : WholePlane) : Type 0 where
  pub normal : (j : ℕ) → j < 3 → O.normal j ≡ P.normal j
  pub distance : O.distance ≡ P.distance

pub data SamePlanes : List WholePlane → List WholePlane → Type 0 where
  none : SamePlanes [] []
  more : {O P : WholePlane} {Os Ps : List WholePlane} → SamePlane O P → SamePlanes Os Ps → SamePlanes (O ∷ Os) (P ∷ Ps)

-- a view by the segment planes Ps, any number of planes that is permitted
pub record ViewOf (view : List ℤ) (Ps : List WholePlane) : Type 0 where
  pub count : ℕ
  pub lent : WholeView view count
  pub planes : SamePlanes (planes_of view count) Ps

-- six numbers of a box from low to high, both on the grid
pub record BoundsOf (box : List ℤ) (low high : ℕ → ℤ) : Type 0 where
  pub numbers : length box ≡ range_length
  pub least : (j : ℕ) → j < 3 → low_corner box j ≡ low j
  pub greatest : (j : ℕ) → j < 3 → high_corner box j ≡ high j
  pub low_grid : GridPoint low
  pub high_grid : GridPoint high
  pub some : NonEmpty low high

-- ---- the verdict is exact

-- what a call answers and leaves: a verdict that is yes exactly where box and view share an exact point, then with such a point, and otherwise the numbers before
pub record Exact (Ps : List WholePlane) (low high : ℕ → ℤ) (before : List ℤ) (answer : Outcome Bool) (left : List ℤ) : Type 0 where
  pub settled : Settled answer (BoxInView Ps low high)
  pub yes : answer ≡ outcome true → Witness Ps low high left
  pub kept : answer ≡ outcome false → left ≡ before

abbrev pub BoxVerdictExact : Type 0
BoxVerdictExact =
    (view box w : List ℤ) (Ps : List WholePlane) (low high : ℕ → ℤ) (answer : Outcome Bool) (left : List ℤ)
    → ViewOf view Ps → BoundsOf box low high → length w ≡ witness_length → WholeBoxCall view box w answer left → Exact Ps low high w answer left

-- ---- beside the filed verdict: that of `intersects_bbox`, which the rate goes by

-- For axis planes that share a point, and the placed box of a grid box, both give one answer.
abbrev pub FiledAgrees : Type 0
FiledAgrees =
    (v b : List Float) (view box w : List ℤ) (Ps : List WholePlane) (B : WholeBox) (answer : Outcome Bool) (left : List ℤ)
    → ViewRecord AxisPlane v Ps → Share Ps → BoxRecord b B
    → ViewOf view Ps → BoundsOf box (low_of B) (high_of B) → length w ≡ witness_length → WholeBoxCall view box w answer left
    → answer ≡ intersects_box_call v b

-- ---- from a farm file's numbers

-- The placed box of a grid box is what `aligned_range` leaves of its record. So the verdict on it and on a view, both as whole numbers, is the exact one of their records.
abbrev pub RecordsExact : Type 0
RecordsExact =
    (v b out : List Float) (view box w : List ℤ) (Ps : List WholePlane) (B : WholeBox) (answer : Outcome Bool) (left : List ℤ)
    → ViewRecord SegmentPlane v Ps → BoxRecord b B → length out ≡ range_length
    → SameView view v → length box ≡ range_length → FloatsOf box (aligned_range_call b out).out → length w ≡ witness_length
    → WholeBoxCall view box w answer left → Exact Ps (low_of B) (high_of B) w answer left

-- ---- a plane more, and a turn

-- A plane more, at any place of the list, never turns a no into a yes.
abbrev pub ExactScreened : Type 0
ExactScreened =
    (view view' box w w' : List ℤ) (Ps : List WholePlane) (P : WholePlane) (Qs : List WholePlane) (low high : ℕ → ℤ)
    (answer answer' : Outcome Bool) (left left' : List ℤ)
    → ViewOf view (Ps ++ Qs) → ViewOf view' (Ps ++ P ∷ Qs) → BoundsOf box low high → length w ≡ witness_length → length w' ≡ witness_length
    → WholeBoxCall view box w answer left → WholeBoxCall view' box w' answer' left' → NeverToYes answer answer'

-- A turn of planes and box alike changes no answer, whatever the planes are.
abbrev pub ExactTurned : Type 0
ExactTurned =
    (f : ℕ → ℕ → ℤ) (view view' box box' w w' : List ℤ) (Ps : List WholePlane) (B : WholeBox) (answer answer' : Outcome Bool) (left left' : List ℤ)
    → Placement f → GridBox B
    → ViewOf view Ps → ViewOf view' (map (moved_plane f) Ps) → BoundsOf box (low_of B) (high_of B) → BoundsOf box' (low_of (moved_box f B)) (high_of (moved_box f B))
    → length w ≡ witness_length → length w' ≡ witness_length → WholeBoxCall view box w answer left → WholeBoxCall view' box' w' answer' left'
    → answer' ≡ answer
