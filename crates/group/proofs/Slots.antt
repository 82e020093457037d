-- The slots of a batch, filled box by box: those passed and those left make all. Assumes nothing.
use mathlib.Core.Path.{◌≡◌, refl, ap, ◌∙◌}
use mathlib.Core.Bool.{Bool, true, false, ◌&&◌}
use mathlib.Core.List.{List}
use Prim.Native.Nat.{ℕ, ◌+◌, ◌*◌, ◌<◌, ◌≤◌}
use native.Mathlib.Omega.{arith}
use borrow.Author.Tests.{eq-eqb}
use mir.Val.{bool_byte}
use lib.ListN.{length, set}
use lib.Ieee.{Float}
use Rattle.number.specs.Limits.{box_length}
use Rattle.number.specs.Answer.{has}
use Rattle.number.specs.Records.{record_at, records}
use Rattle.number.proofs.Tabulate.{next, none}
use Rattle.number.proofs.Records.{record_length}
use Rattle.number.proofs.ListLoops.{filled, one_filled, all_filled}
use Rattle.verdict.specs.BBox.{box_of}
use Rattle.verdict.specs.Frustum.{box_in_view}
use Rattle.verdict.specs.declared.plane.Plane.{Plane}
use Rattle.group.specs.Batch.{slot_of}

same_slot : (v : Bool) → bool_byte v ≡ slot_of v
same_slot true = refl
same_slot false = refl

module _ (ps : List Plane) (n : ℕ) (s : List Float) where
  abbrev seen : List Float → ℕ
  seen b = slot_of (box_in_view ps (box_of b))

  -- with the slots of the boxes from i on behind those in front
  abbrev pub all_slots : List ℕ → ℕ → List ℕ
  all_slots out i = filled seen (records box_length n s) out i

  pub one_passed : (out : List ℕ) (i : ℕ) (b : List Float) (v : Bool) → length out ≡ n → length s ≡ n * box_length → i < n → b ≡ record_at box_length s i
      → v ≡ (has box_length b && box_in_view ps (box_of b)) → all_slots (set out i (bool_byte v)) (i + 1) ≡ all_slots out i
  one_passed out i b v room many h p q =
      let whole = ap length p ∙ record_length box_length n s many i h in
      let box = q ∙ ap (λ (z : Bool). z && box_in_view ps (box_of b)) (eq-eqb _ _ whole) in
      one_filled seen (records box_length n s) out i b (bool_byte v) (omega (arith, room)) (next (record_at box_length s) n i b h p) (same_slot v ∙ ap slot_of box)

  pub all_passed : (out : List ℕ) (i : ℕ) → length out ≡ n → n ≤ i → out ≡ all_slots out i
  all_passed out i room h = all_filled seen (records box_length n s) out i (omega (arith, room)) (none (record_at box_length s) n i h)
