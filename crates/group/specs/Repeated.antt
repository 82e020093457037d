-- The repeated pairwise operation, and that a group is equal to it. Definitions and statements only.
use Rattle.std.specs.Prelude.{◌≡◌, List, [], ◌∷◌, length, Float}
use Rattle.number.specs.Limits.{box_length}
use Rattle.number.specs.Records.{records_of}
use Rattle.verdict.specs.BBoxCalls.{combine_call}
use Rattle.group.specs.Group.{group_call}

-- What any number of calls of `combine`, none among them, leaves of a list of records, left to right: the first two go through it, and its result, numbers
-- unchanged, takes their place. The slice that is lent for a result has its record's length.
pub data LeftToRight : List (List Float) → List (List Float) → Type 0 where
  none : {ss : List (List Float)} → LeftToRight ss ss
  call : {a b : List Float} {ss left : List (List Float)} (out : List Float) → length out ≡ box_length
      → LeftToRight ((combine_call a b out).out ∷ ss) left → LeftToRight (a ∷ b ∷ ss) left

-- r is what the calls leave of the records ss: of n records, what n − 1 calls leave
pub record Repeated (ss : List (List Float)) (r : List Float) : Type 0 where
  -- there are such calls
  pub left : LeftToRight ss (r ∷ [])
  -- none of these calls is refused
  pub accepted : {a b : List Float} {left : List (List Float)} → LeftToRight ss (a ∷ b ∷ left) → (out : List Float) → length out ≡ box_length
      → (combine_call a b out).status ≡ 0
  -- and whatever they are lent, they leave no other record
  pub equal : {last : List Float} → LeftToRight ss (last ∷ []) → last ≡ r

-- "Its result is one box, equal to the repeated pairwise operation": whatever was lent, where the group is not refused.
abbrev pub GroupIsRepeated : Type 0
GroupIsRepeated = (s out : List Float) → (group_call s out).status ≡ 0 → Repeated (records_of box_length s) (group_call s out).out
