-- Combining on the farm grid: lists of box records, the calls of `combine` that leave one record of them, and what is claimed of it.
-- Definitions and statements only. A record is the list of its numbers, so that the claim is of lent slices as they are.
use Rattle.std.specs.Prelude.{◌≡◌, List, [], ◌∷◌, ℕ, ◌<◌, length, ℤ, ◌≤ℤ◌, Float}
use Rattle.number.specs.Limits.{box_length}
use Rattle.matrix.specs.Range.{range_of}
use Rattle.farmgrid.specs.Placement.{WholeRange}
use Rattle.verdict.specs.BBoxCalls.{combine_call, aligned_range_call}
use Rattle.placed.specs.Placement.{WholeBox}
use Rattle.farmgrid.specs.FarmGrid.{placed_corner_of}
use Rattle.farmgrid.specs.Records.{BoxRecords, Accepted}

-- ---- the calls

-- s, taken out of a list at any place of it, leaves the rest
pub data Picked (s : List Float) : List (List Float) → List (List Float) → Type 0 where
  first : {rest : List (List Float)} → Picked s (s ∷ rest) rest
  later : {t : List Float} {ss rest : List (List Float)} → Picked s ss rest → Picked s (t ∷ ss) (t ∷ rest)

-- "any two, in either order": a and b stand at two places of a list, and the rest of it stands at the others
pub record Two (a b : List Float) (ss rest : List (List Float)) : Type 0 where
  pub without : List (List Float)
  pub picked_a : Picked a ss without
  pub picked_b : Picked b without rest

-- What any number of calls, none among them, leaves of a list: two "go through `combine`, and its result, numbers unchanged, takes
-- their place; nothing else touches them". The slice that is lent for the result has its record's length.
pub data Leaves : List (List Float) → List (List Float) → Type 0 where
  none : {ss : List (List Float)} → Leaves ss ss
  call : {a b : List Float} {ss rest left : List (List Float)} → Two a b ss rest → (out : List Float) → length out ≡ box_length
      → Leaves ((combine_call a b out).out ∷ rest) left → Leaves ss left

-- ---- the claim

-- z is the coordinate along the axis j of a placed corner of one of the boxes listed
pub data CornerCoordinate (j : ℕ) (z : ℤ) : List WholeBox → Type 0 where
  own : {B : WholeBox} {Bs : List WholeBox} (k : ℕ) → k < 8 → z ≡ placed_corner_of B k j → CornerCoordinate j z (B ∷ Bs)
  other : {B : WholeBox} {Bs : List WholeBox} → CornerCoordinate j z Bs → CornerCoordinate j z (B ∷ Bs)

-- z is along the axis j "the least [..] among the placed corners of all boxes listed", or "the greatest"
pub record Least (Bs : List WholeBox) (j : ℕ) (z : ℤ) : Type 0 where
  pub among : CornerCoordinate j z Bs
  pub least : {y : ℤ} → CornerCoordinate j y Bs → z ≤ℤ y

pub record Greatest (Bs : List WholeBox) (j : ℕ) (z : ℤ) : Type 0 where
  pub among : CornerCoordinate j z Bs
  pub greatest : {y : ℤ} → CornerCoordinate j y Bs → y ≤ℤ z

-- A range from low to high, "coordinate by coordinate and zeros of either sign alike", of which these are the least and the greatest on each axis.
pub record RangeExact (Bs : List WholeBox) (r : List Float) : Type 0 where
  pub numbers : length r ≡ 6
  pub low : ℕ → ℤ
  pub high : ℕ → ℤ
  pub range : WholeRange (range_of r) low high
  pub least : (j : ℕ) → j < 3 → Least Bs j (low j)
  pub greatest : (j : ℕ) → j < 3 → Greatest Bs j (high j)

-- what is claimed of a list of records of the grid boxes Bs, over every sequence of calls
pub record CombinesExactly (ss : List (List Float)) (Bs : List WholeBox) : Type 0 where
  -- "With every slice of its record's length, none of these calls is refused."
  pub accepted : {a b : List Float} {left rest : List (List Float)} → Leaves ss left → Two a b left rest → (out : List Float) → length out ≡ box_length
      → Accepted (combine_call a b out) (λ s. length s ≡ box_length)
  -- "`aligned_range` of the one box left matches"
  pub exact : {last : List Float} → Leaves ss (last ∷ []) → (out : List Float) → length out ≡ 6 → Accepted (aligned_range_call last out) (RangeExact Bs)

-- "Combining starts from a list of one or more grid boxes." specs/Grouping claims the same of calls of `combine` and on groups, mixed.
abbrev pub CombiningExact : Type 0
CombiningExact = (ss : List (List Float)) (B : WholeBox) (Bs : List WholeBox) → BoxRecords ss (B ∷ Bs) → CombinesExactly ss (B ∷ Bs)
