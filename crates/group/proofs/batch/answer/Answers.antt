-- `batch::answer` meets its contract: the slots in front and the boxes left decide. Assumes nothing.
use mathlib.Core.Path.{◌≡◌, refl, ap, ◌∙◌}
use Prim.Native.Nat.{ℕ, ◌+◌}
use native.Mathlib.Omega.{arith}
use lib.ListN.{length, set, length-set}
use Rattle.verdict.specs.Rows.{planes_in_rows}
use Rattle.group.proofs.Slots.{all_slots, one_passed, all_passed}
use Rattle.group.proofs.batch.answer.Goals as goal

pub loop-i-init : goal.loop-i-init
loop-i-init c = (refl, refl)

pub loop-i-preserved : goal.loop-i-preserved
loop-i-preserved c =
    let l = c.loop-i in
    let b = c.args.boxes in
    let rows = c.args.rows.now in
    let many = length-set l.out l.i c.from.result in
    let room : length l.out ≡ b.count = omega (arith, l.invariant.0, c.requires) in (
      many ∙ l.invariant.0,
      ap (λ (k : ℕ). all_slots (planes_in_rows rows.numbers rows.count) b.count b.numbers.now (set l.out l.i k) (l.i + 1)) c.from.ensures
          ∙ one_passed (planes_in_rows rows.numbers rows.count) b.count b.numbers.now l.out l.i _ _ room b.whole (omega (arith, room)) c.«record».ensures c.box_in_view.ensures
          ∙ l.invariant.1,
    )

pub returns : goal.returns
returns c =
    let l = c.loop-i in
    let b = c.args.boxes in
    let rows = c.args.rows.now in
    all_passed (planes_in_rows rows.numbers rows.count) b.count b.numbers.now l.out l.i (omega (arith, l.invariant.0, c.requires)) (omega (arith, l.invariant.0, c.requires)) ∙ l.invariant.1
