-- A batch is the call for each box: what it answers has passed the tests of every call. Assumes nothing.
use mathlib.Core.Path.{◌≡◌, refl, sym, ◌∙◌}
use mathlib.Core.Bool.{Bool, true, false, ◌&&◌}
use mathlib.Core.List.{List, map, map-map}
use Prim.Native.Nat.{ℕ, ◌*◌}
use native.Mathlib.Omega.{arith}
use lib.ListN.{length}
use lib.Ieee.{Float}
use lib.Ieee.Scale.{finite}
use Rattle.number.specs.Limits.{box_length}
use Rattle.number.specs.Answer.{refused, outcome, unless}
use Rattle.number.specs.Slice.{all_finite}
use Rattle.number.specs.Records.{record_at, records, record_count, records_of, are_records}
use Rattle.number.proofs.Tests.{both_hold}
use Rattle.number.proofs.Tabulate.{passes_at, same_of_each}
use Rattle.number.proofs.Records.{record_length, every_in_record, records_length}
use Rattle.verdict.specs.BBox.{box_of}
use Rattle.verdict.specs.BBoxCalls.{flagged}
use Rattle.verdict.specs.View.{planes_held, planes_of}
use Rattle.verdict.specs.Frustum.{box_in_view}
use Rattle.verdict.specs.FrustumCalls.{checked, intersects_box_call}
use Rattle.verdict.specs.declared.plane.Plane.{Plane}
use Rattle.verdict.proofs.VerdictChecks.{passed}
use Rattle.verdict.proofs.VerdictCalls.{box_answered}
use Rattle.group.specs.Group.{all_flagged}
use Rattle.group.specs.Batch.{slot_of, slots_by, boxes_in_view, EachCall, BatchIsEachCall}

-- ---- the calls, and the slots

module _ (ps : List Plane) where
  abbrev seen : List Float → Bool
  seen b = box_in_view ps (box_of b)

module _ (v : List Float) (n : ℕ) (e : outcome n ≡ planes_held v) (w : all_finite v ≡ true) where
  each : (k : ℕ) (s : List Float) → length s ≡ k * box_length → all_flagged (records box_length k s) ≡ true → all_finite s ≡ true
      → map (intersects_box_call v) (records box_length k s) ≡ map outcome (map (seen (planes_of v n)) (records box_length k s))
  each k s h f g =
      same_of_each (intersects_box_call v) (λ b. outcome (seen (planes_of v n) b)) (record_at box_length s) k
      (λ i l. box_answered v n e w (record_at box_length s i) (record_length box_length k s h i l) (passes_at flagged (record_at box_length s) k f i l) (every_in_record finite box_length s i g))
      ∙ sym (map-map outcome (seen (planes_of v n)) (records box_length k s))

pub batch_is_each_call : BatchIsEachCall
unfolding boxes_in_view
batch_is_each_call v s room l e = go (are_records box_length s) refl e
  where
    go : (boxes : Bool) → are_records box_length s ≡ boxes
        → unless boxes (refused 1) (checked (planes_held v) room (all_flagged (records_of box_length s)) (all_finite v && all_finite s) (λ n. outcome (slots_by (planes_of v n) (records_of box_length s)))) ≡ outcome l
        → EachCall v s l
    go true p q =
        let k = passed (planes_held v) room (all_flagged (records_of box_length s)) (all_finite v && all_finite s) (λ n. outcome (slots_by (planes_of v n) (records_of box_length s))) l q in
        let n = k.by in
        let i = k.is in
        let m : slots_by (planes_of v n) (records_of box_length s) ≡ l = cc in
        let w = both_hold (all_finite v) (all_finite s) k.finite_passed in
        record {
          verdicts = map (seen (planes_of v n)) (records_of box_length s);
          calls = each v n k.holds w.0 (record_count box_length s) s (records_length box_length s p) k.flags_passed w.1;
          slots = sym m ∙ sym (map-map slot_of (seen (planes_of v n)) (records_of box_length s));
        }
    go false p q = let z : ◌≡◌ {A = ℕ} 0 1 = cc in absurd (omega (arith, z))
