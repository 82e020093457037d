-- What the lines of a farm file tell of each box, and which text they are. Definitions only.
-- Whether a block and a view share an exact point is no formula of their numbers: which answers a call may give is a relation, `ExactBoxCall volume box answer`, that allows
-- one alone. So a text explains a file where there are answers, one for each box and allowed for it, with which it is the text defined.
use Rattle.std.specs.Prelude.{ℕ, ◌≡◌, Bool, List, [], ◌∷◌, map, Float}
use Rattle.number.specs.Answer.{Outcome, refused, outcome}
use Rattle.matrix.specs.Range.{is_empty}
use Rattle.verdict.specs.declared.plane.Plane.{Plane}
use Rattle.verdict.specs.BBox.{box_of}
use Rattle.verdict.specs.View.{planes_of}
use Rattle.verdict.specs.Frustum.{box_in_view}
use Rattle.verdict.specs.PlanesBehind.{places_behind}
use Rattle.placed.specs.BBoxCall.{ExactBoxCall}
use Rattle.farm.specs.Directory.{volume_section, box_sections, numbers_of}
use Rattle.farm.specs.FarmFile.{plane_count, farm_file}
use Rattle.farm.specs.Text.{lines_from, refused_line}
use Rattle.reason.specs.Lines.{Reason, reason_line}

-- the volume's numbers, and its planes
abbrev pub file_volume : List ℕ → List Float
file_volume b = numbers_of b (volume_section b)

abbrev pub file_planes : List ℕ → List Plane
file_planes b = planes_of (file_volume b) (plane_count b)

-- what is told of a box by the planes of a view, with an answer of the exact verdict
abbrev pub reason_of : List Plane → List Float → Outcome Bool → Reason
reason_of ps x answer = record {
  verdict = box_in_view ps (box_of x);
  empty = is_empty (box_of x).range;
  behind = places_behind ps (box_of x);
  exact = answer;
}

-- what is told of several boxes, one by one
pub data Reasons (volume : List Float) (ps : List Plane) : List (List Float) → List Reason → Type 0 where
  none : Reasons volume ps [] []
  more : {x : List Float} {xs : List (List Float)} {rs : List Reason} (answer : Outcome Bool)
      → ExactBoxCall volume x answer → Reasons volume ps xs rs → Reasons volume ps (x ∷ xs) (reason_of ps x answer ∷ rs)

-- a line for each box
pub record Told (b text : List ℕ) : Type 0 where
  pub reasons : List Reason
  pub allowed : Reasons (file_volume b) (file_planes b) (map (numbers_of b) (box_sections b)) reasons
  pub lines : text ≡ lines_from reason_line 1 reasons

-- of a refused file the line that `farm_file` prints of it
abbrev pub ToldBy : List ℕ → Outcome (List Bool) → List ℕ → Type 0
ToldBy b (refused k) text = text ≡ refused_line k
ToldBy b (outcome vs) text = Told b text

-- the text explains the file
abbrev pub Explained : List ℕ → List ℕ → Type 0
Explained b text = ToldBy b (farm_file b) text
