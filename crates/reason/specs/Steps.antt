-- What the private functions of this crate promise one another. Definitions only; no contract of a public function speaks of them.
use Rattle.std.specs.Prelude.{ℕ, ◌+◌, ◌*◌, ◌<◌, ◌≡◌, Bool, List, [], length, take, drop, get_or, Float}
use Rattle.number.specs.Limits.{box_length, most_planes}
use Rattle.number.specs.Answer.{Outcome, outcome}
use Rattle.matrix.specs.Range.{is_empty}
use Rattle.verdict.specs.declared.plane.Plane.{Plane}
use Rattle.verdict.specs.BBox.{box_of}
use Rattle.verdict.specs.View.{planes_held, planes_of}
use Rattle.verdict.specs.FrustumCalls.{intersects_box_call}
use Rattle.number.specs.Records.{records}
use Rattle.verdict.specs.PlanesBehind.{places_behind}
use Rattle.placed.specs.BBoxCall.{ExactBoxCall}
use Rattle.farm.specs.Text.{lines_from, Added}
use Rattle.farm.specs.Steps.{is_yes}
use Rattle.reason.specs.Lines.{Reason, behind_words, reason_line}
use Rattle.reason.specs.Explained.{reason_of, Reasons}

-- the most bytes of the places, and of a line: two digits, " yes", the places, " exact-yes" and the end
abbrev pub places_room : ℕ
places_room = 3 * most_planes

abbrev pub reason_room : ℕ
reason_room = 2 + 4 + places_room + 10 + 1

-- of whatever planes a volume holds
abbrev pub ForPlanes : List Float → (List Plane → Type 0) → Type 0
ForPlanes v K = (n : ℕ) → outcome n ≡ planes_held v → K (planes_of v n)

-- what stands behind the verdict of a box was added
abbrev pub BehindAdded : List Float → List Float → Bool → List ℕ → List ℕ → Type 0
BehindAdded v x y text left = ForPlanes v (λ ps. Added text (behind_words y (is_empty (box_of x).range) (places_behind ps (box_of x))) left)

-- the line of section k, with an exact answer that is allowed
pub record LineAdded (v : List Float) (ps : List Plane) (x : List Float) (k : ℕ) (text left : List ℕ) : Type 0 where
  pub answer : Outcome Bool
  pub called : ExactBoxCall v x answer
  pub added : Added text (reason_line k (reason_of ps x answer)) left

abbrev pub LineOf : List Float → List Float → ℕ → List ℕ → List ℕ → Type 0
LineOf v x k text left = ForPlanes v (λ ps. LineAdded v ps x k text left)

-- each of several boxes has its verdict in a slot
abbrev pub AllSeen : List Float → List Float → List ℕ → Type 0
AllSeen v boxes slots = (i : ℕ) → i < length slots → outcome (is_yes (get_or slots i 0)) ≡ intersects_box_call v (take box_length (drop (i * box_length) boxes))

-- a text has the lines of boxes
pub record LinesAdded (v : List Float) (ps : List Plane) (xs : List (List Float)) (text : List ℕ) : Type 0 where
  pub reasons : List Reason
  pub allowed : Reasons v ps xs reasons
  pub added : Added [] (lines_from reason_line 1 reasons) text

-- those of the first n, as far as there is room
abbrev pub FirstLines : List Float → List Float → ℕ → List ℕ → Type 0
FirstLines v boxes n text = ForPlanes v (λ ps. LinesAdded v ps (records box_length n boxes) text)

-- all of them
pub record LinesWhole (v : List Float) (ps : List Plane) (xs : List (List Float)) (text : List ℕ) : Type 0 where
  pub reasons : List Reason
  pub allowed : Reasons v ps xs reasons
  pub lines : text ≡ lines_from reason_line 1 reasons

abbrev pub LinesOf : List Float → List Float → ℕ → List ℕ → Type 0
LinesOf v boxes n text = ForPlanes v (λ ps. LinesWhole v ps (records box_length n boxes) text)
