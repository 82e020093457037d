-- The nearest block on the farm grid: of ranges with grid corners and a grid point the answers are the exact ones. Definitions and statements only.
-- Squared distances are whole numbers, so that no root is taken and nothing is rounded.
use Rattle.std.specs.Prelude.{◌≡◌, cond, ◌↔◌, ℕ, ◌*◌, ◌≤◌, ◌<◌, length, ℤ, pos, ◌-ℤ◌, ◌≤ℤ◌, ◌<ℤ◌, Float, None, Option, Some}
use mathlib.Core.List.{List, Memᴰ}
use Rattle.std.specs.Int.Signed.{lt_z}
use Rattle.number.specs.Limits.{range_length}
use Rattle.number.specs.Slots.{slots_of}
use Rattle.number.specs.Answer.{Outcome, outcome}
use Rattle.nearest.specs.Nearest.{most_ranges, range_at}
use Rattle.nearest.specs.Calls.{nearest_call, Listing, listing, within_call}
use Rattle.nearest.specs.Meaning.{Rising}
use Rattle.whole.specs.Plane.{dotℤ}
use Rattle.farmgrid.specs.Whole.{Whole}
use Rattle.farmgrid.specs.Placement.{WholeRange, NonEmpty, GridPoint}
use Rattle.farmgrid.specs.Records.{PointRecord}

-- ---- the exact distance

-- how far a lies outside the span from low to high
abbrev pub outsideℤ : ℤ → ℤ → ℤ → ℤ
outsideℤ a low high = cond (lt_z a low) (low -ℤ a) (cond (lt_z high a) (a -ℤ high) (pos 0))

-- the square of the distance from the point A to the range from low to high
abbrev pub square_to : (ℕ → ℤ) → (ℕ → ℤ) → (ℕ → ℤ) → ℤ
square_to low high A =
    let d : ℕ → ℤ = λ i. outsideℤ (A i) (low i) (high i) in
    dotℤ d d

-- ---- records

-- n ranges with grid corners, one behind another: the range at i is from low i to high i, and is empty where some least number is above its greatest
pub record RangeRecords (s : List Float) (n : ℕ) (low high : ℕ → ℕ → ℤ) : Type 0 where
  pub some : 1 ≤ n
  pub most : n ≤ most_ranges
  pub numbers : length s ≡ n * range_length
  pub range : (i : ℕ) → i < n → WholeRange (range_at s i) (low i) (high i)
  pub low_grid : (i : ℕ) → i < n → GridPoint (low i)
  pub high_grid : (i : ℕ) → i < n → GridPoint (high i)

-- ---- the claims

-- of the ranges that are not empty the one at i is exactly nearest to A, and the first of those as near
pub record ExactlyNearest (n : ℕ) (low high : ℕ → ℕ → ℤ) (A : ℕ → ℤ) (i : ℕ) : Type 0 where
  pub place : i < n
  pub filled : NonEmpty (low i) (high i)
  pub nothing_nearer : (j : ℕ) → j < n → NonEmpty (low j) (high j) → square_to (low i) (high i) A ≤ℤ square_to (low j) (high j) A
  pub earlier_further : (j : ℕ) → j < i → NonEmpty (low j) (high j) → square_to (low i) (high i) A <ℤ square_to (low j) (high j) A

-- an answer is not refused, and is a place exactly where that is nearest, and nowhere exactly where every range is empty
pub record NearestAnswer (answer : Outcome (Option ℕ)) (n : ℕ) (low high : ℕ → ℕ → ℤ) (A : ℕ → ℤ) : Type 0 where
  pub place : Option ℕ
  pub answered : answer ≡ outcome place
  pub nearest : (i : ℕ) → (place ≡ Some i) ↔ ExactlyNearest n low high A i
  pub all_empty : (place ≡ None) ↔ ((i : ℕ) → i < n → NonEmpty (low i) (high i) → ⊥)

abbrev pub NearestExact : Type 0
NearestExact =
    (s p : List Float) (n : ℕ) (low high : ℕ → ℕ → ℤ) (A : ℕ → ℤ)
    → RangeRecords s n low high → PointRecord p A → NearestAnswer (nearest_call s p) n low high A

-- the places are those of the ranges that are not empty and no further than L, a square, "in rising place order"
pub record ExactlyWithin (n : ℕ) (low high : ℕ → ℕ → ℤ) (A : ℕ → ℤ) (L : ℤ) (places : List ℕ) : Type 0 where
  pub listed : (i : ℕ) → Memᴰ i places ↔ ((i < n) × NonEmpty (low i) (high i) × (square_to (low i) (high i) A ≤ℤ L))
  pub rising : Rising places

-- a listing is not refused: it answers how many places there are, and they stand in front of the slots, of which the others are filled
pub record WithinAnswer (left : Listing) (n : ℕ) (low high : ℕ → ℕ → ℤ) (A : ℕ → ℤ) (L : ℤ) : Type 0 where
  pub places : List ℕ
  pub answered : left ≡ listing (outcome (length places)) (slots_of n places)
  pub within : ExactlyWithin n low high A L places

abbrev pub WithinExact : Type 0
WithinExact =
    (s p : List Float) (limit : Float) (out : List ℕ) (n : ℕ) (low high : ℕ → ℕ → ℤ) (A : ℕ → ℤ) (L : ℤ)
    → RangeRecords s n low high → PointRecord p A → Whole limit L → length out ≡ n → WithinAnswer (within_call s p limit out) n low high A L
