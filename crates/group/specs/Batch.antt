-- A batch: many boxes, each asked of one view, as `intersects_bbox` does. Definitions and statements only.
use Rattle.std.specs.Prelude.{ℕ, ◌≡◌, Bool, cond, ◌&&◌, List, map, Float}
use Rattle.number.specs.Limits.{box_length}
use Rattle.number.specs.Answer.{Reply, Outcome, refused, outcome, unless, has, replied}
use Rattle.number.specs.Slice.{all_finite}
use Rattle.number.specs.Records.{record_count, records_of, are_records}
use Rattle.verdict.specs.BBox.{box_of}
use Rattle.verdict.specs.View.{planes_held, planes_of}
use Rattle.verdict.specs.Frustum.{box_in_view}
use Rattle.verdict.specs.FrustumCalls.{checked, intersects_box_call}
use Rattle.verdict.specs.declared.plane.Plane.{Plane}
use Rattle.group.specs.Group.{all_flagged}

-- a verdict as the number in its slot
abbrev pub slot_of : Bool → ℕ
slot_of v = cond v 1 0

-- the slots of boxes, by the planes of a view
abbrev pub slots_by : List Plane → List (List Float) → List ℕ
slots_by ps ss = map (λ s. slot_of (box_in_view ps (box_of s))) ss

-- What comes of a volume and boxes, by the checks in their order: 1 for the boxes' length, the volume's own (1, 12 and 1), 2 for the slots, then 3 where a flag
-- of any box is none, and 13 where any number is not finite. There is room where there are just as many slots as boxes.
unfoldable pub boxes_in_view : List Float → List Float → Bool → Outcome (List ℕ)
boxes_in_view v s room =
    unless (are_records box_length s) (refused 1)
    (checked (planes_held v) room (all_flagged (records_of box_length s)) (all_finite v && all_finite s) (λ n. outcome (slots_by (planes_of v n) (records_of box_length s))))

-- a refusal preserves the slots
unfoldable pub intersects_boxes_call : List Float → List Float → List ℕ → Reply ℕ
unfolding boxes_in_view
intersects_boxes_call v s out = replied (boxes_in_view v s (has (record_count box_length s) out)) out

-- ---- it is the call for each box

-- no call for a box is refused, and the slots have the verdicts
pub record EachCall (v s : List Float) (answered : List ℕ) : Type 0 where
  pub verdicts : List Bool
  pub calls : map (intersects_box_call v) (records_of box_length s) ≡ map outcome verdicts
  pub slots : answered ≡ map slot_of verdicts

-- what a batch is answered with
abbrev pub BatchIsEachCall : Type 0
BatchIsEachCall = (v s : List Float) (room : Bool) (slots : List ℕ) → boxes_in_view v s room ≡ outcome slots → EachCall v s slots
