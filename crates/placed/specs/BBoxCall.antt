-- What the exact verdict on the records of a volume and a box answers. It writes nothing. Definitions and statements only.
use Rattle.std.specs.Prelude.{◌≡◌, ◌⊎◌, Bool, true, false, ◌&&◌, List, ℕ, take, Float}
use Rattle.number.specs.Limits.{flag_place}
use Rattle.number.specs.Answer.{Outcome, refused, outcome, Lone, put_verdict}
use Rattle.number.specs.Every.{every}
use Rattle.number.specs.Slice.{at}
use Rattle.whole.specs.Plane.{WholePlane}
use Rattle.whole.specs.SegmentCall.{planes_of, view_length, plane_within}
use Rattle.exact.specs.ExactPoint.{BoxInView}
use Rattle.verdict.specs.View.{whole_part}
use Rattle.verdict.specs.FrustumCalls.{intersects_box_call}
use Rattle.placed.specs.Numbers.{are_whole_numbers, whole_numbers}
use Rattle.placed.specs.Placement.{WholeBox, box_of, placed_least, placed_greatest, is_grid_box}

-- ---- the records in whole numbers

-- how many planes a volume says it has
abbrev pub count_in : List Float → ℕ
count_in v = whole_part (at v 0)

-- its count and its planes, in front of its rays
abbrev pub view_numbers : List Float → List Float
view_numbers v = take (view_length (count_in v)) v

abbrev pub planes_in : List Float → List WholePlane
planes_in v = planes_of (whole_numbers (view_numbers v)) (count_in v)

-- a box's range and its matrix, in front of its flag
abbrev pub box_numbers : List Float → List Float
box_numbers b = take flag_place b

abbrev pub box_in : List Float → WholeBox
box_in b = box_of (whole_numbers (box_numbers b))

-- every plane is a segment plane, and the box a grid box
unfoldable pub on_grid : List Float → List Float → Bool
unfolding every
on_grid v b = are_whole_numbers (view_numbers v) && every plane_within (planes_in v) && are_whole_numbers (box_numbers b) && is_grid_box (box_in b)

-- ---- the call

-- a verdict that is yes exactly where A holds
abbrev pub Decides : Outcome Bool → Type 0 → Type 0
Decides answer A = ((answer ≡ outcome true) × A) ⊎ ((answer ≡ outcome false) × ¬ A)

-- 7 off the farm grid, and on it whether placed box and view share an exact point
abbrev pub ByGrid : List Float → List Float → Outcome Bool → Bool → Type 0
ByGrid v b answer false = answer ≡ refused 7
ByGrid v b answer true = Decides answer (BoxInView (planes_in v) (placed_least (box_in b)) (placed_greatest (box_in b)))

-- the refusals of the box verdict come first, whatever its answer is
abbrev pub After : List Float → List Float → Outcome Bool → Outcome Bool → Type 0
After v b answer (refused k) = answer ≡ refused k
After v b answer (outcome filed) = ByGrid v b answer (on_grid v b)

-- a call on the records v of a volume and b of a box may answer so
abbrev pub ExactBoxCall : List Float → List Float → Outcome Bool → Type 0
ExactBoxCall v b answer = After v b answer (intersects_box_call v b)

-- No two answers are allowed.
abbrev pub OneAnswerAllowed : Type 0
OneAnswerAllowed = (v b : List Float) (answer answer' : Outcome Bool) → ExactBoxCall v b answer → ExactBoxCall v b answer' → answer ≡ answer'

-- The same where the verdict goes through a reference to a number: 0 or the number of the refusal, and what stands there afterwards.
pub record ExactBoxPut (v b : List Float) (there : ℕ) (r : Lone ℕ) : Type 0 where
  pub answer : Outcome Bool
  pub called : ExactBoxCall v b answer
  pub put : r ≡ put_verdict answer there
