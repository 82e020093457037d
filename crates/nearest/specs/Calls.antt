-- What each operation over lent slices answers and leaves, by the numbers of the refusals: "1 for a count outside 1 to 1,024 or any other wrong input length, then
-- 2 for the listing". Definitions only.
use Rattle.std.specs.Prelude.{ℕ, ◌&&◌, List, length, Float, Option}
use Rattle.number.specs.Answer.{Outcome, refused, outcome, unless, has, answering}
use Rattle.number.specs.Limits.{point_length}
use Rattle.number.specs.Slots.{slots_of}
use Rattle.matrix.specs.Vec.{vec3_of}
use Rattle.nearest.specs.Nearest.{range_count, are_ranges, nearest_of, places_within}

-- It lends no slice for a result, so that 2 is skipped.
unfoldable pub nearest_call : List Float → List Float → Outcome (Option ℕ)
nearest_call s p = answering (are_ranges s && has point_length p) (nearest_of s (vec3_of p))

-- What a listing leaves: how many places were found or the number of its refusal, and what the slots hold.
pub record Listing : Type 0 where
  pub count : Outcome ℕ
  pub out : List ℕ

abbrev pub listing : Outcome ℕ → List ℕ → Listing
listing n out = record { count = n; out = out }

-- "The listing has one u32 slot for each input range, fills unused slots with 4,294,967,295 and returns the number found"; a refusal preserves the slots
unfoldable pub within_call : List Float → List Float → Float → List ℕ → Listing
within_call s p limit out =
    let places = places_within s (vec3_of p) limit in
    unless (are_ranges s && has point_length p) (listing (refused 1) out)
    (unless (has (range_count s) out) (listing (refused 2) out) (listing (outcome (length places)) (slots_of (range_count s) places)))
