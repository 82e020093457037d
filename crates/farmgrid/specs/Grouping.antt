-- Grouping on the farm grid: lists of box records, the calls of `combine` and on groups, mixed as an office likes, that leave one record, and what is claimed of it.
-- Definitions and statements only. A record is the list of its numbers, so that the claims are of lent slices as they are.
use Rattle.std.specs.Prelude.{◌≡◌, Bool, false, List, [], ◌∷◌, ◌++◌, ◌≤◌, length, Float}
use Rattle.number.specs.Limits.{box_length, most_boxes}
use Rattle.number.specs.Answer.{outcome}
use Rattle.verdict.specs.BBoxCalls.{combine_call, aligned_range_call}
use Rattle.verdict.specs.FrustumCalls.{intersects_box_call}
use Rattle.group.specs.Group.{group_call}
use Rattle.whole.specs.Plane.{WholePlane}
use Rattle.placed.specs.Placement.{WholeBox}
use Rattle.farmgrid.specs.FarmGrid.{AxisPlane}
use Rattle.farmgrid.specs.Records.{ViewRecord, BoxRecords, Accepted}
use Rattle.farmgrid.specs.Combining.{Picked, Two, RangeExact}

-- ---- the calls

-- records one behind another, as one slice
abbrev pub concatenated : List (List Float) → List Float
concatenated [] = []
concatenated (s ∷ ss) = s ++ concatenated ss

-- records, each taken out of a list at any place of it, leave the rest
pub data Taken : List (List Float) → List (List Float) → List (List Float) → Type 0 where
  nothing : {ss : List (List Float)} → Taken [] ss ss
  also : {s : List Float} {group ss without rest : List (List Float)} → Picked s ss without → Taken group without rest → Taken (s ∷ group) ss rest

-- "A group is a slice of 1 to 256 box records": any of a list, in any order
pub record Group (group ss rest : List (List Float)) : Type 0 where
  pub some : 1 ≤ length group
  pub most : length group ≤ most_boxes
  pub taken : Taken group ss rest

-- What any number of calls, none among them, leaves of a list: the two records of a call of `combine`, or those of a group, go through it, and its result, numbers
-- unchanged, takes their place. "An orchard's parts may be grouped first, and their results then": so the list is taken in every order, and cut into parts in
-- every way and to any depth. The slice that is lent for the result has its record's length.
pub data Mixed : List (List Float) → List (List Float) → Type 0 where
  none : {ss : List (List Float)} → Mixed ss ss
  combine : {a b : List Float} {ss rest left : List (List Float)} → Two a b ss rest → (out : List Float) → length out ≡ box_length
      → Mixed ((combine_call a b out).out ∷ rest) left → Mixed ss left
  group : {members ss rest left : List (List Float)} → Group members ss rest → (out : List Float) → length out ≡ box_length
      → Mixed ((group_call (concatenated members) out).out ∷ rest) left → Mixed ss left

-- ---- the claims

-- what is claimed of a list of records of the grid boxes Bs, over every sequence of calls
pub record GroupsExactly (ss : List (List Float)) (Bs : List WholeBox) : Type 0 where
  -- none of these calls is refused
  pub combines : {a b : List Float} {left rest : List (List Float)} → Mixed ss left → Two a b left rest → (out : List Float) → length out ≡ box_length
      → Accepted (combine_call a b out) (λ s. length s ≡ box_length)
  pub groups : {members left rest : List (List Float)} → Mixed ss left → Group members left rest → (out : List Float) → length out ≡ box_length
      → Accepted (group_call (concatenated members) out) (λ s. length s ≡ box_length)
  -- "every order of the list and every split into parts gives the same aligned range, zeros of either sign alike": the exact least and greatest
  pub exact : {last : List Float} → Mixed ss (last ∷ []) → (out : List Float) → length out ≡ 6 → Accepted (aligned_range_call last out) (RangeExact Bs)

abbrev pub GroupingExact : Type 0
GroupingExact = (ss : List (List Float)) (B : WholeBox) (Bs : List WholeBox) → BoxRecords ss (B ∷ Bs) → GroupsExactly ss (B ∷ Bs)

-- what holds of every record of a list
abbrev pub EachRecord : (List Float → Type 0) → List (List Float) → Type 0
EachRecord K [] = Unit {0}
EachRecord K (s ∷ ss) = K s × EachRecord K ss

-- the verdict on the record r is given, and where it is no, it is no for each of the records ss
pub record OutTogether (v r : List Float) (ss : List (List Float)) : Type 0 where
  pub verdict : Bool
  pub answered : intersects_box_call v r ≡ outcome verdict
  pub members : verdict ≡ false → EachRecord (λ s. intersects_box_call v s ≡ outcome false) ss

-- "If a group of grid boxes is out of an axis view whose planes share a point, every member is out of it too": of every view of axis planes, whether they
-- share a point or not, and of groups of groups as well.
abbrev pub GroupOut : Type 0
GroupOut =
    (ss : List (List Float)) (B : WholeBox) (Bs : List WholeBox) (last v : List Float) (Ps : List WholePlane)
    → BoxRecords ss (B ∷ Bs) → Mixed ss (last ∷ []) → ViewRecord AxisPlane v Ps → OutTogether v last ss
