-- `group_calls::combine_group` meets its contract: the size, the lengths and the flags by its tests, the result by what it calls. Assumes nothing.
use mathlib.Core.Path.{◌≡◌, refl, ap, ◌∙◌, sym}
use mathlib.Core.Bool.{Bool, not}
use mathlib.Core.List.{List}
use Prim.Native.Nat.{ℕ, ◌/◌, ◌≤◌}
use lib.Ieee.{Float}
use Rattle.number.specs.Records.{record_at, records, records_of}
use Rattle.group.specs.Group.{all_flagged, combined_with, grouped}
use Rattle.verdict.specs.declared.bbox.BBox3d.{BBox3d}
use Rattle.verdict.specs.BBox.{box_of, numbers}
use native.Mathlib.Omega.{arith}
use lib.ListN.{length, drop}
use Rattle.number.specs.Limits.{box_length}
use Rattle.number.proofs.Stores.{same_room}
use Rattle.group.proofs.Ways.{single, several, empty, long, uneven, no_room, no_flag, written}
use Rattle.group.proofs.group_calls.combine_group.Goals as goal

-- what the records of a slice come to
flags : {s : List Float} {l : List Float} {n : ℕ} (z : Bool) → (l ≡ s) × (n ≡ length s / box_length) → z ≡ all_flagged (records box_length n l) → z ≡ all_flagged (records_of box_length s)
flags z o e = e ∙ (λ t. all_flagged (records box_length (o.1 t) (o.0 t)))

joined : {s l : List Float} {n : ℕ} (b : BBox3d) → (l ≡ s) × (n ≡ length s / box_length) → b ≡ combined_with (box_of (record_at box_length l 0)) (drop 1 (records box_length n l)) → 2 ≤ n
    → numbers b ≡ grouped (records_of box_length s)
joined {s} {l} {n} b o e h =
    ap numbers e ∙ several n l h ∙ (λ t. grouped (records box_length (o.1 t) (o.0 t)))

pub returns-then-boxes-eq0 : goal.returns-then-boxes-eq0
returns-then-boxes-eq0 c = empty _ _ c.if-boxes-eq0.true

pub returns-then-boxes-gt-MOST_NUMBERS : goal.returns-then-boxes-gt-MOST_NUMBERS
returns-then-boxes-gt-MOST_NUMBERS c = long _ _ c.if-boxes-eq0.false c.if-boxes-gt-MOST_NUMBERS.true

pub returns-then-boxes-ne0 : goal.returns-then-boxes-ne0
returns-then-boxes-ne0 c =
    uneven _ _ c.if-boxes-eq0.false c.if-boxes-gt-MOST_NUMBERS.false c.if-boxes-ne0.true

pub returns-then-out-ne-BOX_LENGTH : goal.returns-then-out-ne-BOX_LENGTH
returns-then-out-ne-BOX_LENGTH c =
    no_room _ _ c.if-boxes-eq0.false c.if-boxes-gt-MOST_NUMBERS.false c.if-boxes-ne0.false c.if-out-ne-BOX_LENGTH.true

pub returns-then-not-all_flagged : goal.returns-then-not-all_flagged
returns-then-not-all_flagged c =
    no_flag _ _ c.if-boxes-eq0.false c.if-boxes-gt-MOST_NUMBERS.false c.if-boxes-ne0.false c.if-out-ne-BOX_LENGTH.false _ (flags _ c.of-group.ensures c.all_flagged.ensures) (ap not c.if-not-all_flagged.true)

pub returns-then-group-eq-SINGLE : goal.returns-then-group-eq-SINGLE
returns-then-group-eq-SINGLE c =
    let s = c.args.boxes.now in
    let one : length s ≡ box_length = omega (arith, c.of-group.result.whole, ap length c.of-group.ensures.0, c.if-group-eq-SINGLE.true) in
    written _ _ c.if-boxes-eq0.false c.if-boxes-gt-MOST_NUMBERS.false c.if-boxes-ne0.false c.if-out-ne-BOX_LENGTH.false _ (flags _ c.of-group.ensures c.all_flagged.ensures) (ap not c.if-not-all_flagged.false) _ _
    one (c.copy_record.ensures ∙ sym (same_room s c.args.out.now (one ∙ sym c.if-out-ne-BOX_LENGTH.false))) (single s (sym c.of-group.ensures.1 ∙ c.if-group-eq-SINGLE.true) c.if-boxes-ne0.false)

pub copy_record-requires : goal.copy_record-requires
copy_record-requires c = (omega (arith, c.of-group.result.whole, ap length c.of-group.ensures.0, c.if-group-eq-SINGLE.true), c.if-out-ne-BOX_LENGTH.false)

pub combine-requires : goal.combine-requires
combine-requires c = omega (arith, c.of-group.result.whole, ap length c.of-group.ensures.0, c.if-boxes-eq0.false, c.if-group-eq-SINGLE.false)

pub returns : goal.returns
returns c =
    written _ _ c.if-boxes-eq0.false c.if-boxes-gt-MOST_NUMBERS.false c.if-boxes-ne0.false c.if-out-ne-BOX_LENGTH.false _ (flags _ c.of-group.ensures c.all_flagged.ensures) (ap not c.if-not-all_flagged.false) _ _
    refl c.store.ensures (joined _ c.of-group.ensures c.combine.ensures (omega (arith, c.of-group.result.whole, ap length c.of-group.ensures.0, c.if-boxes-eq0.false, c.if-group-eq-SINGLE.false)))
