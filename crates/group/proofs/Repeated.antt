-- A group is what the calls of `combine` leave of its records, left to right, and there are such calls. The idea: a box written into its record is read back as it
-- was, so that each call takes one step of the fold; and a group that is not refused has passed its tests. Assumes nothing.
use mathlib.Core.Path.{◌≡◌, refl, sym, ap, ◌∙◌, subst}
use mathlib.Core.Bool.{Bool, true, false}
use mathlib.Core.List.{List, [], ◌∷◌}
use Prim.Native.Nat.{ℕ, zero, suc, ◌*◌, ◌<◌}
use native.Mathlib.Omega.{arith}
use borrow.Author.Tests.{ltb-true}
use lib.Dec.{ltb, leb}
use lib.ListN.{length}
use lib.Ieee.{Float}
use Rattle.number.specs.Limits.{box_length, most_boxes}
use Rattle.number.specs.Answer.{Reply, refuse, write, unless, has}
use Rattle.number.specs.Tabulate.{tabulate}
use Rattle.number.specs.Records.{record_at, records, record_count, records_of, is_whole}
use Rattle.number.proofs.Tests.{both_hold}
use Rattle.number.proofs.Tabulate.{passes_at}
use Rattle.number.proofs.Records.{record_length, whole_length, some_record}
use Rattle.verdict.specs.BBox.{numbers, box_of, combined}
use Rattle.verdict.specs.BBoxCalls.{flagged, combine_call}
use Rattle.verdict.specs.declared.bbox.BBox3d.{BBox3d}
use Rattle.group.specs.Group.{combined_with, grouped, is_group, all_flagged, group_call}
use Rattle.group.specs.Repeated.{LeftToRight, none, call, GroupIsRepeated}
use Rattle.group.proofs.Written.{flag_read, read_back, combine_writes}

-- ---- records that have their length and a flag

pub record Good (s : List Float) : Type 0 where
  pub numbers : length s ≡ box_length
  pub flag : flagged s ≡ true

abbrev pub AllGood : List (List Float) → Type 0
AllGood [] = Unit {0}
AllGood (s ∷ ss) = Good s × AllGood ss

all_good : (f : ℕ → List Float) (n : ℕ) → ((i : ℕ) → i < n → Good (f i)) → AllGood (tabulate f n)
unfolding tabulate
all_good f zero h = tt
all_good f (suc n) h = (h 0 (omega arith), all_good (λ i. f (suc i)) n (λ i l. h (suc i) (omega arith)))

records_good : (n : ℕ) (s : List Float) → length s ≡ n * box_length → all_flagged (records box_length n s) ≡ true → AllGood (records box_length n s)
records_good n s h f =
    all_good (record_at box_length s) n (λ i l. record { numbers = record_length box_length n s h i l; flag = passes_at flagged (record_at box_length s) n f i l })

-- ---- the calls

pub writes : {a b : List Float} → Good a → Good b → (out : List Float) → length out ≡ box_length → combine_call a b out ≡ write (numbers (combined (box_of a) (box_of b)))
writes {a} {b} A B out room = combine_writes a b out A.numbers B.numbers room A.flag B.flag

numbers_good : (b : BBox3d) → Good (numbers b)
numbers_good b = record { numbers = refl; flag = flag_read b.flag }

called_good : {a b : List Float} → Good a → Good b → (out : List Float) → length out ≡ box_length → Good (combine_call a b out).out
called_good {a} {b} A B out room = rw (writes A B out room) (numbers_good (combined (box_of a) (box_of b)))

reached : {ss left : List (List Float)} → AllGood ss → LeftToRight ss left → AllGood left
reached g none = g
reached g (call out room r) = reached (called_good g.0 g.1.0 out room, g.1.1) r

-- from a record of the box b
after : {a : List Float} (b : BBox3d) → a ≡ numbers b → {ss : List (List Float)} → AllGood ss → {last : List Float}
    → LeftToRight (a ∷ ss) (last ∷ []) → last ≡ numbers (combined_with b ss)
unfolding combined_with
after b e {ss = []} g none = e
after {a} b e {ss = t ∷ ts} g (call out room r) =
    let A : Good a = rw e (numbers_good b) in
    let step : (combine_call a t out).out ≡ numbers (combined b (box_of t)) =
    ap (λ (x : Reply Float). x.out) (writes A g.0 out room) ∙ ap (λ (x : BBox3d). numbers (combined x (box_of t))) (ap box_of e ∙ read_back b) in
    after (combined b (box_of t)) step g.1 r

pub left_is : {ss : List (List Float)} → AllGood ss → {last : List Float} → LeftToRight ss (last ∷ []) → last ≡ grouped ss
unfolding grouped combined_with
left_is {ss = []} g x = elim x [ ]
left_is {ss = s ∷ []} g none = refl
left_is {ss = s ∷ t ∷ ts} g (call out room r) =
    after (combined (box_of s) (box_of t)) (ap (λ (x : Reply Float). x.out) (writes g.0 g.1.0 out room)) g.1.1 r

-- ---- there are such calls

-- a record, and calls that leave it alone of a list
record Left (ss : List (List Float)) : Type 0 where
  last : List Float
  calls : LeftToRight ss (last ∷ [])

-- from a record on: a copy of it serves as the slice that is lent
from : {a : List Float} → Good a → (ss : List (List Float)) → AllGood ss → Left (a ∷ ss)
from {a = a} A [] g = record { last = a; calls = none }
from {a = a} A (t ∷ ts) g =
    let r = from {a = (combine_call a t a).out} (called_good A g.0 a A.numbers) ts g.1 in
    record { last = r.last; calls = call a A.numbers r.calls }

from_first : (f : ℕ → List Float) (n : ℕ) → 0 < n → AllGood (tabulate f n) → Left (tabulate f n)
unfolding tabulate
from_first f zero h g = absurd (omega arith)
from_first f (suc n) h g = from g.0 (tabulate (λ i. f (suc i)) n) g.1

-- ---- a group that is not refused

abbrev tests : Bool → Bool → Bool → Bool → List Float → List Float → Reply Float
tests group whole room flags v out = unless group (refuse 11 out) (unless whole (refuse 1 out) (unless room (refuse 2 out) (unless flags (refuse 3 out) (write v))))

passed : (group whole room flags : Bool) (v out : List Float) → (tests group whole room flags v out).status ≡ 0
    → (group ≡ true) × (whole ≡ true) × (flags ≡ true) × ((tests group whole room flags v out).out ≡ v)
passed true true true true v out e = (refl, refl, refl, refl)
passed true true true false v out e = absurd (omega (arith, e))
passed true true false flags v out e = absurd (omega (arith, e))
passed true false room flags v out e = absurd (omega (arith, e))
passed false whole room flags v out e = absurd (omega (arith, e))

pub group_is_repeated : GroupIsRepeated
unfolding group_call
group_is_repeated s out e =
    let p = passed (is_group s) (is_whole box_length s) (has box_length out) (all_flagged (records_of box_length s)) (grouped (records_of box_length s)) out e in
    let n = record_count box_length s in
    let g = records_good n s (whole_length box_length s p.1) p.2 in
    let some = ltb-true 0 (length s) (both_hold (ltb 0 (length s)) (leb (length s) (most_boxes * box_length)) p.0).0 in
    let l = from_first (record_at box_length s) n (some_record box_length s some p.1) g in
    record {
      left = subst (λ (r : List Float). LeftToRight (records_of box_length s) (r ∷ [])) (left_is g l.calls ∙ sym p.3) l.calls;
      accepted = λ l room_out room. let h = reached g l in ap (λ (x : Reply Float). x.status) (writes h.0 h.1.0 room_out room);
      equal = λ l. left_is g l ∙ sym p.3;
    }
