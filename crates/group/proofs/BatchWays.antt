-- The ways out of a batch: by the length of its boxes, and by what its checks come to. Assumes nothing.
use mathlib.Core.Path.{◌≡◌, refl, sym, ap, ◌∙◌}
use mathlib.Core.Bool.{Bool, true, false, ◌&&◌}
use mathlib.Core.List.{List}
use Prim.Native.Nat.{ℕ, ◌%◌}
use lib.ListN.{length}
use lib.Ieee.{Float}
use Rattle.number.specs.Limits.{box_length}
use Rattle.number.specs.Answer.{refuse, Outcome, refused, outcome, and_then, unless, has, replied}
use Rattle.number.specs.Slice.{all_finite}
use Rattle.number.specs.Records.{record_count, records_of, are_records}
use Rattle.number.proofs.Records.{no_record, uneven as uneven_records, are_records_lem}
use Rattle.verdict.specs.View.{planes_held, planes_of}
use Rattle.verdict.specs.FrustumCalls.{checked, planes_checked}
use Rattle.verdict.proofs.VerdictChecks.{then, passed}
use Rattle.group.specs.Group.{all_flagged}
use Rattle.group.specs.Batch.{slots_by, boxes_in_view, intersects_boxes_call}

-- where a volume and what is lent beside it pass, there is room
pub was_room : (v : List Float) (room flags finite : Bool) (n : ℕ) → outcome n ≡ planes_checked v room flags finite → room ≡ true
unfolding planes_checked
was_room v room flags finite n e = (passed (planes_held v) room flags (all_finite v && finite) outcome n (sym e)).room_passed

module _ (v s : List Float) (out : List ℕ) where
  abbrev slots : ℕ → Outcome (List ℕ)
  slots n = outcome (slots_by (planes_of v n) (records_of box_length s))

  pub by : (boxes : Bool) (held : Outcome ℕ) (room flags finite : Bool) → are_records box_length s ≡ boxes → planes_held v ≡ held → has (record_count box_length s) out ≡ room
      → all_flagged (records_of box_length s) ≡ flags → (all_finite v && all_finite s) ≡ finite
      → replied (unless boxes (refused 1) (checked held room flags finite slots)) out ≡ intersects_boxes_call v s out
  unfolding intersects_boxes_call boxes_in_view
  by boxes held room flags finite p h r f g = sym (λ t. replied (unless (p t) (refused 1) (checked (h t) (r t) (f t) (g t) slots)) out)

  pub no_box : length s ≡ 0 → refuse 1 out ≡ intersects_boxes_call v s out
  no_box e = by false _ _ _ _ (no_record box_length s e) refl refl refl refl

  module _ (n : length s ≡ 0 → ⊥) where
    pub uneven : (length s % box_length ≡ 0 → ⊥) → refuse 1 out ≡ intersects_boxes_call v s out
    uneven m = by false _ _ _ _ (uneven_records box_length s n m) refl refl refl refl

    -- by what the checks of the volume and of what is lent beside it come to
    pub by_checks : length s % box_length ≡ 0 → (o : Outcome ℕ) (room flags finite : Bool) → o ≡ planes_checked v room flags finite
        → room ≡ has (record_count box_length s) out → flags ≡ all_flagged (records_of box_length s) → finite ≡ all_finite s
        → replied (and_then o slots) out ≡ intersects_boxes_call v s out
    unfolding planes_checked
    by_checks m o room flags finite e r f g =
        ap (λ (x : Outcome (List ℕ)). replied x out) (ap (λ (x : Outcome ℕ). and_then x slots) e ∙ then (planes_held v) room flags (all_finite v && finite) slots)
        ∙ by true (planes_held v) room flags (all_finite v && finite) (are_records_lem box_length s n m) refl (sym r) (sym f) (ap (λ (z : Bool). all_finite v && z) (sym g))
