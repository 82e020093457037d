-- `batch::intersects_bboxes` meets its contract: the length of the boxes by its tests, and the rest by what its checks come to. Assumes nothing.
use mathlib.Core.Path.{◌≡◌, ap, ◌∙◌}
use mathlib.Core.List.{List}
use Prim.Native.Nat.{ℕ, ◌/◌}
use borrow.Author.Tests.{eqb-true}
use mathlib.Core.Bool.{Bool}
use lib.Ieee.{Float}
use lib.ListN.{length}
use Rattle.number.specs.Limits.{box_length}
use Rattle.number.specs.Answer.{write, has}
use Rattle.number.specs.Records.{records, records_of}
use Rattle.verdict.specs.View.{planes_of}
use Rattle.verdict.proofs.PassedOn.{passed_on_reply}
use Rattle.verdict.proofs.SideBySide.{gathered}
use Rattle.group.specs.Group.{all_flagged}
use Rattle.group.specs.Batch.{slots_by}
use Rattle.group.proofs.BatchWays.{was_room, no_box, uneven, by_checks}
use Rattle.group.proofs.batch.intersects_bboxes.Goals as goal

pub returns-then-boxes-eq0 : goal.returns-then-boxes-eq0
returns-then-boxes-eq0 c = no_box _ _ _ c.if-boxes-eq0.true

pub returns-then-boxes-ne0 : goal.returns-then-boxes-ne0
returns-then-boxes-ne0 c = uneven _ _ _ c.if-boxes-eq0.false c.if-boxes-ne0.true

-- what the records of a slice come to, and how many there are
flags : {s l : List Float} {n : ℕ} (z : Bool) → (l ≡ s) × (n ≡ length s / box_length) → z ≡ all_flagged (records box_length n l) → z ≡ all_flagged (records_of box_length s)
flags z o e = e ∙ (λ t. all_flagged (records box_length (o.1 t) (o.0 t)))

pub answer-requires : goal.answer-requires
answer-requires c = eqb-true _ _ (was_room _ _ _ _ _ c.in_ok-view.ensures.held.1)

pub returns : goal.returns
returns c =
    let a = c.args in
    let v = c.in_ok-view.view in
    let h = c.in_ok-view.ensures.held in
    let g = c.of-group.ensures in
    let planes = gathered v.planes.numbers.now _ _ _ v.planes.most c.gather.ensures.numbers c.gather.ensures.count ∙ ap (λ (l : List Float). planes_of l v.planes.count) h.0 in
    ap write (c.answer.ensures ∙ (λ t. slots_by (planes t) (records box_length (g.1 t) (g.0 t))))
    ∙ by_checks _ _ _ c.if-boxes-eq0.false c.if-boxes-ne0.false _ _ _ _ h.1 (ap (λ (k : ℕ). has k a.out.now) g.1) (flags _ g c.all_flagged.ensures) c.all_finite.ensures

pub returns-in_err-view : goal.returns-in_err-view
returns-in_err-view c =
    passed_on_reply _ _ _ c.from_residual.ensures.1
    (by_checks _ _ _ c.if-boxes-eq0.false c.if-boxes-ne0.false _ _ _ _ c.in_err-view.ensures.refused (ap (λ (k : ℕ). has k c.args.out.now) c.of-group.ensures.1)
    (flags _ c.of-group.ensures c.all_flagged.ensures) c.all_finite.ensures)
