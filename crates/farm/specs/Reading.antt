-- What is claimed of the bytes of a farm file: where its sections lie, that their numbers are finite, and which bytes its answer depends on. Statements only.
-- `T b` says that the test b holds.
use Rattle.std.specs.Prelude.{ℕ, ◌<◌, ◌≤◌, ◌≡◌, Bool, List, T, length, get_or}
use Rattle.number.specs.Answer.{outcome}
use Rattle.number.specs.Slice.{all_finite}
use Rattle.farm.specs.Directory.{section_count, section_at, directory_end, end_of, numbers_of}
use Rattle.farm.specs.FarmFile.{farm_file}

-- Every section lies behind the directory and in the file, and no two overlap.
pub record SectionsApart (b : List ℕ) : Type 0 where
  pub inside : (i : ℕ) → i < section_count b → (directory_end (section_count b) ≤ (section_at b i).offset) × (end_of (section_at b i) ≤ length b)
  pub apart : (i j : ℕ) → i < j → j < section_count b → end_of (section_at b i) ≤ (section_at b j).offset

-- of every file that has an answer
abbrev pub AnsweredApart : Type 0
AnsweredApart = (b : List ℕ) (vs : List Bool) → farm_file b ≡ outcome vs → SectionsApart b

-- "The farm file does the same before printing": what has an answer has finite numbers alone, in the volume and in every box
abbrev pub AnsweredFileFinite : Type 0
AnsweredFileFinite = (b : List ℕ) (vs : List Bool) → farm_file b ≡ outcome vs → (i : ℕ) → i < section_count b → T (all_finite (numbers_of b (section_at b i)))

-- "Gaps are permitted and unread." A gap is what is neither of the directory nor of a section; these files agree elsewhere.
pub record AgreeOutsideGaps (b c : List ℕ) : Type 0 where
  pub size : length b ≡ length c
  pub directory : (i : ℕ) → i < directory_end (section_count b) → get_or b i 0 ≡ get_or c i 0
  pub sections : (k i : ℕ) → k < section_count b → (section_at b k).offset ≤ i → i < end_of (section_at b k) → get_or b i 0 ≡ get_or c i 0

abbrev pub GapsUnread : Type 0
GapsUnread = (b c : List ℕ) → AgreeOutsideGaps b c → farm_file b ≡ farm_file c
