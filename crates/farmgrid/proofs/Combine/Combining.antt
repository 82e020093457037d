-- One call of `combine` on two records of a list: it is not refused, and puts the union of two extents in their place, so that the list stands for what it stood for.
-- Assumes nothing.
use mathlib.Core.Path.{◌≡◌, sym, ap, ◌∙◌}
use mathlib.Core.List.{List, ◌∷◌}
use lib.ListN.{length}
use lib.Ieee.{Float}
use Rattle.number.specs.Limits.{box_length}
use Rattle.verdict.specs.BBoxCalls.{combine_call}
use Rattle.farmgrid.specs.Records.{Accepted}
use Rattle.farmgrid.specs.Combining.{Two}
use Rattle.farmgrid.proofs.Combine.Extents.{Extent, join, join_assoc, over}
use Rattle.farmgrid.proofs.Combine.CombinedRecords.{combine_accepted, combine_stands}
use Rattle.farmgrid.proofs.Combine.Totals.{also, Total, OneTaken, taken}

module _ {a b : List Float} {ss rest : List (List Float)} {f : Extent → Extent} (two : Two a b ss rest) (T : Total ss f) (out : List Float)
    (room : length out ≡ box_length) where
  one : OneTaken a two.without T.extents
  one = taken two.picked_a T.stand

  other : OneTaken b rest one.others
  other = taken two.picked_b one.stand

  pub combine_call_lem : Accepted (combine_call a b out) (λ s. length s ≡ box_length)
  combine_call_lem = combine_accepted one.stands other.stands out room

  pub combine_total : Total ((combine_call a b out).out ∷ rest) f
  combine_total = record {
    extents = join one.own other.own ∷ other.others;
    stand = also (combine_stands one.stands other.stands out room) other.stand;
    total = λ x.
        join_assoc one.own other.own (over x other.others)
        ∙ sym (ap (join one.own) (other.total x)) ∙ sym (one.total x) ∙ T.total x;
  }
