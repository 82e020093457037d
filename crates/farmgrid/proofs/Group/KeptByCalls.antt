-- What `combine` keeps of box records, every mixture of calls of `combine` and on groups keeps. The idea: a call on a group leaves what calls of `combine` leave of
-- its members, left to right. Assumes nothing.
use mathlib.Core.Path.{◌≡◌, ap, subst}
use mathlib.Core.List.{List, [], ◌∷◌}
use Prim.Native.Nat.{◌≤◌}
use lib.ListN.{length}
use lib.Ieee.{Float}
use Rattle.number.specs.Limits.{box_length, most_boxes}
use Rattle.number.specs.Answer.{Reply}
use Rattle.verdict.specs.BBoxCalls.{combine_call}
use Rattle.group.specs.Group.{group_call}
use Rattle.group.specs.Repeated.{LeftToRight, none as no_call, call}
use Rattle.group.proofs.Repeated.{Good, AllGood, group_is_repeated}
use Rattle.farmgrid.specs.Combining.{Picked, first, later}
use Rattle.farmgrid.specs.Grouping.{concatenated, Taken, nothing, also, Mixed, none, combine, group, EachRecord}
use Rattle.farmgrid.proofs.Group.Groups.{records_are, group_writes}

module _ (K : List Float → Type 0) where
  -- ---- records taken out of a list

  each_picked : {s : List Float} {ss rest : List (List Float)} → Picked s ss rest → EachRecord K ss → K s × EachRecord K rest
  each_picked first g = g
  each_picked (later p) g = let (k, r) = each_picked p g.1 in (k, (g.0, r))

  each_taken : {members ss rest : List (List Float)} → Taken members ss rest → EachRecord K ss → EachRecord K members × EachRecord K rest
  each_taken nothing g = (tt, g)
  each_taken (also p t) g =
      let (k, r) = each_picked p g in
      let (ks, rs) = each_taken t r in
      ((k, ks), rs)

  -- ---- what has its length and its flag, and `combine` keeps it

  module _ (good : (s : List Float) → K s → Good s)
      (keeps : (a b : List Float) → K a → K b → (out : List Float) → length out ≡ box_length → K (combine_call a b out).out) where
    all_good : (ss : List (List Float)) → EachRecord K ss → AllGood ss
    all_good [] g = tt
    all_good (s ∷ ss) g = (good s g.0, all_good ss g.1)

    repeated_keeps : {ss left : List (List Float)} → LeftToRight ss left → EachRecord K ss → EachRecord K left
    repeated_keeps no_call g = g
    repeated_keeps (call {a = a} {b = b} out room r) g = repeated_keeps r (keeps a b g.0 g.1.0 out room, g.1.1)

    group_keeps : (members : List (List Float)) → EachRecord K members → 1 ≤ length members → length members ≤ most_boxes → (out : List Float) → length out ≡ box_length
        → K (group_call (concatenated members) out).out
    group_keeps members k some most out room =
        let g = all_good members k in
        let r = group_is_repeated (concatenated members) out (ap (λ (x : Reply Float). x.status) (group_writes members g some most out room)) in
        let l : LeftToRight members ((group_call (concatenated members) out).out ∷ []) =
        subst (λ (ss : List (List Float)). LeftToRight ss ((group_call (concatenated members) out).out ∷ [])) (records_are members g some most) r.left in
        (repeated_keeps l k).0

    pub mixed_keeps : {ss left : List (List Float)} → Mixed ss left → EachRecord K ss → EachRecord K left
    mixed_keeps none g = g
    mixed_keeps (combine {a = a} {b = b} two out room rest) g =
        let (k, without) = each_picked two.picked_a g in
        let (l, others) = each_picked two.picked_b without in
        mixed_keeps rest (keeps a b k l out room, others)
    mixed_keeps (group {members = members} G out room rest) g =
        let (k, others) = each_taken G.taken g in
        mixed_keeps rest (group_keeps members k G.some G.most out room, others)
