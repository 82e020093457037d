-- One call on a group of the records of a list: it is not refused, and puts the union of their extents in their place, so that the list stands for what it stood for.
-- The idea: the fold of a group is the union of its extents, one after another. Assumes nothing.
use mathlib.Core.Path.{◌≡◌, refl, sym, ap, ◌∙◌, subst}
use mathlib.Core.List.{List, [], ◌∷◌}
use Prim.Native.Nat.{◌≤◌}
use native.Mathlib.Omega.{arith}
use lib.ListN.{length}
use lib.Ieee.{Float}
use Rattle.number.specs.Limits.{box_length}
use Rattle.number.specs.Answer.{Reply, write}
use Rattle.verdict.specs.BBox.{box_of, combined}
use Rattle.verdict.specs.declared.bbox.BBox3d.{BBox3d}
use Rattle.group.specs.Group.{combined_with, grouped, group_call}
use Rattle.group.proofs.Repeated.{AllGood}
use Rattle.farmgrid.specs.Records.{Accepted}
use Rattle.farmgrid.specs.Grouping.{concatenated, Taken, nothing as none_taken, also as also_taken, Group}
use Rattle.farmgrid.proofs.Combine.Extents.{Extent, join, join_assoc, over}
use Rattle.farmgrid.proofs.Combine.CombinedBoxes.{Holds, combined_holds}
use Rattle.farmgrid.proofs.Combine.CombinedRecords.{Stands, written}
use Rattle.farmgrid.proofs.Combine.Totals.{Stand, nothing, also, Total, taken}
use Rattle.farmgrid.proofs.Group.Groups.{group_writes}

-- ---- the extent of a group

-- one extent with each of a list after it
abbrev union : Extent → List Extent → Extent
union e [] = e
union e (f ∷ fs) = union (join e f) fs

union_over : (e : Extent) (es : List Extent) (x : Extent) → join (union e es) x ≡ join e (over x es)
union_over e [] x = refl
union_over e (f ∷ fs) x = union_over (join e f) fs x ∙ join_assoc e f (over x fs)

-- ---- the fold of a group

fold_holds : (b : BBox3d) {e : Extent} → Holds b.range b.matrix e → {ss : List (List Float)} {es : List Extent} → Stand ss es
    → Holds (combined_with b ss).range (combined_with b ss).matrix (union e es)
unfolding combined_with
fold_holds b H nothing = H
fold_holds b H (also {s = s} S Ss) = fold_holds (combined b (box_of s)) (combined_holds b (box_of s) H S.holds) Ss

grouped_stands : {s : List Float} {ss : List (List Float)} {e : Extent} {es : List Extent} → Stands s e → Stand ss es → Stands (grouped (s ∷ ss)) (union e es)
unfolding grouped combined_with
grouped_stands S nothing = S
grouped_stands {s} {ss} S (also T Ts) = written (combined_with (box_of s) ss) (fold_holds (box_of s) S.holds (also T Ts))

-- ---- records taken out of a list

record TakenAll (group rest : List (List Float)) (es : List Extent) : Type 0 where
  owns : List Extent
  others : List Extent
  stands : Stand group owns
  stand : Stand rest others
  total : (x : Extent) → over x es ≡ over (over x others) owns

all_taken : {group ss rest : List (List Float)} {es : List Extent} → Taken group ss rest → Stand ss es → TakenAll group rest es
all_taken {es = es} none_taken S = record { owns = []; others = es; stands = nothing; stand = S; total = λ x. refl }
all_taken (also_taken p t) S =
    let T = taken p S in
    let U = all_taken t T.stand in
    record {
      owns = T.own ∷ U.owns;
      others = U.others;
      stands = also T.stands U.stands;
      stand = U.stand;
      total = λ x. T.total x ∙ ap (join T.own) (U.total x);
    }

all_good : {ss : List (List Float)} {es : List Extent} → Stand ss es → AllGood ss
all_good nothing = tt
all_good (also S Ss) = (record { numbers = S.numbers; flag = S.flag }, all_good Ss)

-- ---- one call

-- what a group's call leaves: a record that stands for the union of the group's extents
record Joined (group : List (List Float)) (owns : List Extent) : Type 0 where
  extent : Extent
  stands : Stands (grouped group) extent
  total : (x : Extent) → join extent x ≡ over x owns

joined_of : {group : List (List Float)} {owns : List Extent} → 1 ≤ length group → Stand group owns → Joined group owns
joined_of h nothing = absurd (omega arith)
joined_of h (also {e = e} {es = es} S Ss) = record { extent = union e es; stands = grouped_stands S Ss; total = union_over e es }

module _ {group ss rest : List (List Float)} {f : Extent → Extent} (G : Group group ss rest) (T : Total ss f) (out : List Float) (room : length out ≡ box_length) where
  own : TakenAll group rest T.extents
  own = all_taken G.taken T.stand

  left : Joined group own.owns
  left = joined_of G.some own.stands

  writes : group_call (concatenated group) out ≡ write (grouped group)
  writes = group_writes group (all_good own.stands) G.some G.most out room

  pub group_call_lem : Accepted (group_call (concatenated group) out) (λ s. length s ≡ box_length)
  group_call_lem = subst (λ (r : Reply Float). Accepted r (λ s. length s ≡ box_length)) (sym writes) (record { status = refl; left = left.stands.numbers })

  pub group_total : Total ((group_call (concatenated group) out).out ∷ rest) f
  group_total = record {
    extents = left.extent ∷ own.others;
    stand = also (subst (λ (r : Reply Float). Stands r.out left.extent) (sym writes) left.stands) own.stand;
    total = λ x. left.total (over x own.others) ∙ sym (own.total x) ∙ T.total x;
  }
