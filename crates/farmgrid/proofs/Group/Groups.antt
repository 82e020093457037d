-- The operation on groups, of records one behind another that have their lengths and flags: it is not refused, and writes the group's box. Assumes nothing.
use mathlib.Core.Path.{◌≡◌, refl, ap, ◌∙◌}
use mathlib.Core.Bool.{true, ◌&&◌}
use mathlib.Core.List.{List, [], ◌∷◌}
use Prim.Native.Nat.{ℕ, ◌*◌, ◌%◌, ◌≤◌}
use native.Mathlib.Omega.{arith}
use borrow.Author.Tests.{eq-eqb, lt-ltb, le-leb}
use lib.ListN.{length, length-append}
use lib.Ieee.{Float}
use Rattle.number.specs.Limits.{box_length, most_boxes}
use Rattle.number.specs.Every.{every}
use Rattle.number.specs.Answer.{write}
use Rattle.number.specs.Tabulate.{tabulate}
use Rattle.number.specs.Records.{records, record_count, records_of, is_whole}
use Rattle.number.proofs.Records.{in_front}
use Rattle.group.specs.Group.{grouped, is_group, all_flagged, group_call}
use Rattle.group.proofs.Repeated.{AllGood}
use Rattle.farmgrid.specs.Grouping.{concatenated}

concatenated_length : (ss : List (List Float)) → AllGood ss → length (concatenated ss) ≡ length ss * box_length
concatenated_length [] g = refl
concatenated_length (s ∷ ss) g =
    let e = length-append s (concatenated ss) in
    let f = concatenated_length ss g.1 in
    let l = g.0.numbers in
    omega arith

-- they are its records
records_joined : (ss : List (List Float)) → AllGood ss → records box_length (length ss) (concatenated ss) ≡ ss
unfolding tabulate
records_joined [] g = refl
records_joined (s ∷ ss) g = in_front box_length (length ss) s (concatenated ss) g.0.numbers ∙ ap (λ (ts : List (List Float)). s ∷ ts) (records_joined ss g.1)

all_flagged_lem : (ss : List (List Float)) → AllGood ss → all_flagged ss ≡ true
unfolding every
all_flagged_lem [] g = refl
all_flagged_lem (s ∷ ss) g = λ i. g.0.flag i && all_flagged_lem ss g.1 i

module _ (ss : List (List Float)) (g : AllGood ss) (some : 1 ≤ length ss) (most : length ss ≤ most_boxes) where
  size : length (concatenated ss) ≡ length ss * box_length
  size = concatenated_length ss g

  pub records_are : records_of box_length (concatenated ss) ≡ ss
  records_are =
      let e : record_count box_length (concatenated ss) ≡ length ss = omega (arith, size) in
      ap (λ (n : ℕ). records box_length n (concatenated ss)) e ∙ records_joined ss g

  group : is_group (concatenated ss) ≡ true
  group i = lt-ltb 0 (length (concatenated ss)) (omega (arith, size)) i && le-leb (length (concatenated ss)) (most_boxes * box_length) (omega (arith, size)) i

  whole : is_whole box_length (concatenated ss) ≡ true
  whole = eq-eqb (length (concatenated ss) % box_length) 0 (omega (arith, size))

  pub group_writes : (out : List Float) → length out ≡ box_length → group_call (concatenated ss) out ≡ write (grouped ss)
  unfolding group_call
  group_writes out room = rw (group, whole, eq-eqb _ _ room, records_are, all_flagged_lem ss g)
