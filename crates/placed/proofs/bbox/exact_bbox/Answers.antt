-- `exact_bbox` meets its contract: the refusals of the filed verdict by its checks, and then the verdict on the grid. Assumes nothing.
use mathlib.Core.Path.{sym, ap, ◌∙◌}
use native.Mathlib.Omega.{arith}
use borrow.Author.Tests.{eq-eqb, ne_eqb}
use Rattle.std.proofs.lemmas.Result.{err_from_is_err_and}
use Rattle.number.specs.Limits.{box_length}
use Rattle.verdict.specs.BBox.{is_flag}
use Rattle.verdict.proofs.PlanesHeld.{held}
use Rattle.verdict.proofs.VerdictChecks.{one_input, last_record, was_held, wrong_length, by_volume}
use Rattle.verdict.proofs.VerdictCalls.{box_call}
use Rattle.placed.proofs.Counted.{counted, counted_in}
use Rattle.placed.proofs.Calls.{refused_first, then_by_grid, room_for}
use Rattle.placed.proofs.bbox.exact_bbox.Goals as goal

pub returns-then-bbox-ne-BOX_LENGTH : goal.returns-then-bbox-ne-BOX_LENGTH
returns-then-bbox-ne-BOX_LENGTH c =
    let a = c.args in
    let v = a.volume.now in
    let b = a.bbox.now in
    refused_first v b 1 (wrong_length _ _ _ _ _ (one_input box_length b ∙ ne_eqb _ _ c.if-bbox-ne-BOX_LENGTH.true) ∙ box_call v b)

pub slice_bounds-room-end : goal.slice_bounds-room-end
slice_bounds-room-end c =
    let h = held _ _ (was_held _ _ _ _ _ c.in_ok-count.ensures) in omega (arith, c.view_length.ensures, h.most)

pub by_grid-requires : goal.by_grid-requires
by_grid-requires c =
    let v = c.args.volume.now in
    let n = c.in_ok-count.count in
    let C = counted v n (was_held _ _ _ _ _ c.in_ok-count.ensures) in
    (counted_in v n C, c.if-bbox-ne-BOX_LENGTH.false, room_for _ n _ c.view_length.ensures C.says C.most)

pub returns : goal.returns
returns c =
    let a = c.args in
    let v = a.volume.now in
    let b = a.bbox.now in
    then_by_grid v b _ _
    (sym (by_volume _ _ _ _ _ (one_input box_length b ∙ eq-eqb _ _ c.if-bbox-ne-BOX_LENGTH.false) _ _ _ c.in_ok-count.ensures
    (c.is_flag.ensures ∙ ap is_flag c.at.ensures) (last_record _ c.all_finite.ensures) ∙ box_call v b))
    c.by_grid.ensures

pub returns-in_err-count : goal.returns-in_err-count
returns-in_err-count c =
    let a = c.args in
    let v = a.volume.now in
    let b = a.bbox.now in
    let p = err_from_is_err_and c.from_residual.result c.from_residual.ensures.1 in
    rw (p.1, p.2) (refused_first v b _
    (by_volume _ _ _ _ _ (one_input box_length b ∙ eq-eqb _ _ c.if-bbox-ne-BOX_LENGTH.false) _ _ _ c.in_err-count.ensures
    (c.is_flag.ensures ∙ ap is_flag c.at.ensures) (last_record _ c.all_finite.ensures) ∙ box_call v b))
