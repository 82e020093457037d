-- `frustum::box_in_view` meets its contract: by the length, and then by what it calls. Assumes nothing.
use Rattle.std.proofs.Common.{Bool, ◌&&◌, sym, ap, ◌∙◌, eq-eqb, ne_eqb}
use Rattle.verdict.specs.BBox.{box_of}
use Rattle.verdict.specs.Rows.{planes_in_rows}
use Rattle.verdict.specs.Frustum.{box_in_view}
use Rattle.verdict.proofs.frustum.box_in_view.Goals as goal

pub returns-then-bbox-ne-BOX_LENGTH : goal.returns-then-bbox-ne-BOX_LENGTH
returns-then-bbox-ne-BOX_LENGTH c =
    let rows = c.args.rows.now in
    sym (ap (λ (z : Bool). z && box_in_view (planes_in_rows rows.numbers rows.count) (box_of c.args.bbox.now)) (ne_eqb _ _ c.if-bbox-ne-BOX_LENGTH.true))

pub returns : goal.returns
returns c =
    let rows = c.args.rows.now in
    c.holds_some.ensures
    ∙ sym (ap (λ (z : Bool). z && box_in_view (planes_in_rows rows.numbers rows.count) (box_of c.args.bbox.now)) (eq-eqb _ _ c.if-bbox-ne-BOX_LENGTH.false))
