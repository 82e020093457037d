-- What a farm file comes to: a verdict for each of its boxes, or the number of its refusal; and what a call leaves. Definitions only.
use Rattle.std.specs.Prelude.{ℕ, ◌+◌, ◌-◌, ◌*◌, ◌≡◌, Bool, ◌&&◌, List, map, eqb, leb, length, Float, Result, Ok, Err, IfOk}
use Rattle.number.specs.Limits.{box_length, fewest_planes, most_planes, largest_file, most_sections}
use Rattle.number.specs.Every.{every}
use Rattle.number.specs.Bytes.{f64_at}
use Rattle.number.specs.Slots.{slots_of}
use Rattle.number.specs.Slice.{all_finite}
use Rattle.number.specs.declared.answer.Refusal.{Refusal}
use Rattle.number.specs.Answer.{Outcome, refused, outcome, unless, number_of}
use Rattle.verdict.specs.BBox.{box_of}
use Rattle.verdict.specs.BBoxCalls.{flagged}
use Rattle.verdict.specs.View.{volume_length, whole_part, is_count, planes_of}
use Rattle.verdict.specs.Frustum.{box_in_view}
use Rattle.group.specs.Batch.{slot_of}
use Rattle.farm.specs.declared.directory.Section.{Section}
use Rattle.farm.specs.declared.farm_file.Judgement.{Judgement}
use Rattle.farm.specs.Directory.{well_formed, volume_section, box_sections, sections, numbers_of, file_numbers, InFront}

-- ---- the volume: "a volume section below 49 numbers is 10, then 12 is tested, then 10 for every other length"

-- it has the numbers of the fewest planes at least
abbrev pub volume_there : List ℕ → Bool
volume_there b = leb (8 * volume_length fewest_planes) (volume_section b).size

-- the number in front of it, and how many planes that says there are
abbrev pub count_number : List ℕ → Float
count_number b = f64_at b (volume_section b).offset

abbrev pub plane_count : List ℕ → ℕ
plane_count b = whole_part (count_number b)

-- no "section length differs from its record"
unfoldable pub boxes_sized : List ℕ → Bool
unfolding every
boxes_sized b = every (λ s. eqb s.size (8 * box_length)) (box_sections b)

unfoldable pub sized : List ℕ → Bool
unfolding boxes_sized
sized b = eqb (volume_section b).size (8 * volume_length (plane_count b)) && boxes_sized b

-- how many planes a well-formed file has, by the checks of its count and of its sizes
abbrev pub sized_planes : List ℕ → Outcome ℕ
sized_planes b = unless (volume_there b) (refused 10) (unless (is_count (count_number b)) (refused 12) (unless (sized b) (refused 10) (outcome (plane_count b))))

-- ---- the boxes

-- the flag of every box is 0 or 1
unfoldable pub boxes_flagged : List ℕ → Bool
unfolding every
boxes_flagged b = every (λ s. flagged (numbers_of b s)) (box_sections b)

-- no number of the volume or of a box is a NaN or an infinity
unfoldable pub numbers_finite : List ℕ → Bool
unfolding every
numbers_finite b = every (λ s. all_finite (numbers_of b s)) (sections b)

-- whether the box of a section is in view: the verdict of `intersects_bbox`
abbrev pub in_view : List ℕ → Section → Bool
in_view b s = box_in_view (planes_of (numbers_of b (volume_section b)) (plane_count b)) (box_of (numbers_of b s))

-- ---- the checks

-- a file that is not too large, by its checks in their order: each is made of the whole file before the next. 13: "In a farm file it comes last."
unfoldable pub checked_file : List ℕ → Outcome (List Bool)
unfolding sized boxes_flagged numbers_finite
checked_file b =
    unless (well_formed b) (refused 9)
    (unless (volume_there b) (refused 10)
    (unless (is_count (count_number b)) (refused 12)
    (unless (sized b) (refused 10)
    (unless (boxes_flagged b) (refused 3) (unless (numbers_finite b) (refused 13) (outcome (map (in_view b) (box_sections b))))))))

-- any file: "1 if the file exceeds 65,536 bytes"
unfoldable pub farm_file : List ℕ → Outcome (List Bool)
unfolding checked_file
farm_file b = unless (leb (length b) largest_file) (refused 1) (checked_file b)

-- ---- a call

-- A slot for each box that a file can have: 1 for a box in view, 0 for one that is not, and 4,294,967,295 where there is none.
abbrev pub slot_count : ℕ
slot_count = most_sections - 1

abbrev pub slots : List Bool → List ℕ
slots vs = slots_of slot_count (map slot_of vs)

-- What a call leaves: how many boxes there are or the number of its refusal, and what the slots hold.
pub record Listing : Type 0 where
  pub count : Outcome ℕ
  pub out : List ℕ

abbrev pub listing : Outcome ℕ → List ℕ → Listing
listing n out = record { count = n; out = out }

-- a refusal preserves the slots
abbrev pub listed : Outcome (List Bool) → List ℕ → Listing
listed (refused k) out = listing (refused k) out
listed (outcome vs) out = listing (outcome (length vs)) (slots vs)

-- 1, then 2 where there are not `slot_count` slots, then 9, 10, 12, 10, 3 and 13
unfoldable pub farm_file_call : List ℕ → List ℕ → Listing
unfolding checked_file
farm_file_call b out =
    unless (leb (length b) largest_file) (listing (refused 1) out) (unless (eqb (length out) slot_count) (listing (refused 2) out) (listed (checked_file b) out))

-- the numbers that a file has room for: those of the most planes, and of the most boxes
abbrev pub numbers_room : ℕ
numbers_room = volume_length most_planes + slot_count * box_length

-- how many boxes a file was judged to have, or the number of its refusal
abbrev pub counted : Result Judgement Refusal → Outcome ℕ
counted (Ok j) = outcome j.boxes
counted (Err r) = refused (number_of r)

-- What a file comes to, with what the slots hold, and its numbers in front where it is answered.
pub record Judged (b out : List ℕ) (j : Result Judgement Refusal) (left : List ℕ) : Type 0 where
  pub call : listing (counted j) left ≡ farm_file_call b out
  pub kept : IfOk j (λ a. InFront (file_numbers b) a.numbers)
