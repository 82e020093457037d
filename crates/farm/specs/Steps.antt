-- What the private functions of this crate ask of a file and of a text, and what they promise one another. Definitions only; no contract of a public function speaks of them.
use Rattle.std.specs.Prelude.{ℕ, ◌+◌, ◌-◌, ◌≤◌, ◌≡◌, Bool, true, List, map, eqb, length, take, Float}
use Rattle.number.specs.Answer.{Outcome, refused, outcome, unless}
use Rattle.verdict.specs.View.{is_count}
use Rattle.farm.specs.Directory.{section_count, box_sections, file_numbers, InFront, well_formed}
use Rattle.farm.specs.FarmFile.{count_number, sized, boxes_flagged, numbers_finite, in_view, farm_file, slot_count, listing, farm_file_call}
use Rattle.farm.specs.Text.{inserted}

-- ---- a file

-- it has passed the checks of its directory, of its count of planes and of its sizes
pub record Measured (b : List ℕ) : Type 0 where
  pub formed : well_formed b ≡ true
  pub count : is_count (count_number b) ≡ true
  pub sizes : sized b ≡ true

-- it has passed every check
pub record Ready (b : List ℕ) : Type 0 where
  pub measured : Measured b
  pub flags : boxes_flagged b ≡ true
  pub finite : numbers_finite b ≡ true

-- what comes of a file that is measured, by the checks that are left
abbrev pub boxes_seen : List ℕ → Outcome (List Bool)
boxes_seen b = unless (boxes_flagged b) (refused 3) (unless (numbers_finite b) (refused 13) (outcome (map (in_view b) (box_sections b))))

-- the verdict of a slot
abbrev pub is_yes : ℕ → Bool
is_yes slot = eqb slot 1

-- It has an answer, with n boxes, and slots have their verdicts in front.
pub record FileAnswered (b : List ℕ) (n : ℕ) (slots : List ℕ) : Type 0 where
  pub verdicts : List Bool
  pub answer : farm_file b ≡ outcome verdicts
  pub many : n ≡ section_count b - 1
  pub few : n ≤ slot_count
  pub all : n ≤ length slots
  pub seen : map is_yes (take n slots) ≡ verdicts

-- What a call with a room leaves, and the numbers of a file that is answered in front of the room.
pub record JudgedBy (b out : List ℕ) (answer : Outcome ℕ) (numbers : List Float) (left : List ℕ) : Type 0 where
  pub call : listing answer left ≡ farm_file_call b out
  pub kept : (n : ℕ) → answer ≡ outcome n → InFront (file_numbers b) numbers

-- ---- a text

-- what putting bytes from a place of a text on answers and leaves, where there is room for them
abbrev pub Put : List ℕ → ℕ → List ℕ → ℕ → List ℕ → Type 0
Put text at s place left = (place ≡ at + length s) × (left ≡ inserted text at s)

-- the most bytes of a line: two digits, " yes" and its end
abbrev pub line_room : ℕ
line_room = 2 + 4 + 1
