-- Combining and grouping a list of grid boxes is exact, in every order, however it is split, and however the calls are mixed: no call is refused, and the aligned range
-- of the box that is left runs from the least to the greatest among the placed corners of all boxes listed. The idea: an induction over the calls, each of which
-- leaves a list that stands for what the list before it stood for. Combining alone is one such mixture. Assumes nothing.
use mathlib.Core.Path.{◌≡◌}
use mathlib.Core.Bool.{true, false}
use mathlib.Core.List.{List, [], ◌∷◌}
use lib.ListN.{length}
use lib.Ieee.{Float}
use Rattle.verdict.specs.BBoxCalls.{aligned_range_call}
use Rattle.placed.specs.Placement.{WholeBox}
use Rattle.farmgrid.specs.Records.{BoxRecords, Accepted}
use Rattle.farmgrid.specs.Combining.{Leaves, none as no_call, call, RangeExact, CombiningExact}
use Rattle.farmgrid.specs.Grouping.{Mixed, none, combine, group, GroupingExact}
use Rattle.farmgrid.proofs.Combine.Extents.{Extent}
use Rattle.farmgrid.proofs.Combine.PlacedCorners.{listed, listed_least, listed_greatest}
use Rattle.farmgrid.proofs.Combine.CombinedRecords.{Stands, range_status, range_numbers, range_exact}
use Rattle.farmgrid.proofs.Combine.Totals.{Total, start, last_stands}
use Rattle.farmgrid.proofs.Combine.Combining.{combine_call_lem, combine_total}
use Rattle.farmgrid.proofs.Group.Grouping.{group_call_lem, group_total}

left_total : {ss left : List (List Float)} {f : Extent → Extent} → Mixed ss left → Total ss f → Total left f
left_total none T = T
left_total (combine two out room rest) T = left_total rest (combine_total two T out room)
left_total (group G out room rest) T = left_total rest (group_total G T out room)

-- ---- the record left

module _ {ss : List (List Float)} {B : WholeBox} {Bs : List WholeBox} (h : BoxRecords ss (B ∷ Bs)) {last : List Float} (l : Mixed ss (last ∷ [])) where
  -- it stands for the union of all extents
  pub last_placed : Stands last (listed B Bs)
  last_placed = let T = left_total l (start h) in last_stands (listed B Bs) T.stand T.total

  exact : (out : List Float) → length out ≡ 6 → Accepted (aligned_range_call last out) (RangeExact (B ∷ Bs))
  exact out room = record {
    status = range_status last_placed out room;
    left = record {
      numbers = range_numbers last_placed out room;
      low = listed B Bs false;
      high = listed B Bs true;
      range = range_exact last_placed out room;
      least = λ j h. listed_least B Bs j;
      greatest = λ j h. listed_greatest B Bs j;
    };
  }

-- ---- the claims

pub grouping_exact : GroupingExact
grouping_exact ss B Bs h = record {
  combines = λ l two out room. combine_call_lem two (left_total l (start h)) out room;
  groups = λ l G out room. group_call_lem G (left_total l (start h)) out room;
  exact = λ l out room. exact h l out room;
}

combines_alone : {ss left : List (List Float)} → Leaves ss left → Mixed ss left
combines_alone no_call = none
combines_alone (call two out room rest) = combine two out room (combines_alone rest)

pub combining_exact : CombiningExact
combining_exact ss B Bs h =
    let G = grouping_exact ss B Bs h in
    record {
      accepted = λ l two out room. G.combines (combines_alone l) two out room;
      exact = λ l out room. G.exact (combines_alone l) out room;
    }
