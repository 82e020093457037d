-- `checked` meets its contract: each way out by what refuses. Assumes nothing.
use mathlib.Core.Path.{◌≡◌, sym, ◌∙◌}
use mathlib.Core.Bool.{◌&&◌}
use Rattle.std.proofs.lemmas.Result.{err_from_is_err_and}
use Rattle.number.specs.Every.{every}
use Rattle.whole.specs.SegmentCall.{planes_of, plane_within}
use Rattle.exact.specs.BBoxCall.{box_within}
use Rattle.exact.proofs.Calls.{box_of_another, no_view, no_room, not_on_grid, all_on_grid, scene}
use Rattle.exact.proofs.bbox.checked.Goals as goal

pub returns-in_err-bounds : goal.returns-in_err-bounds
returns-in_err-bounds c =
    let a = c.args in
    let p = err_from_is_err_and c.from_residual.result c.from_residual.ensures.1 in
    rw (p.1, p.2, c.in_err-bounds.ensures.1) (box_of_another a.view.now a.bounds.now a.room c.in_err-bounds.ensures.0)

pub returns-in_err-view : goal.returns-in_err-view
returns-in_err-view c =
    let a = c.args in
    let p = err_from_is_err_and c.from_residual-in_err-view.result c.from_residual-in_err-view.ensures.1 in
    rw (p.1, p.2) (no_view a.view.now a.bounds.now a.room c.in_ok-bounds.ensures.0 _ c.in_err-view.ensures)

pub returns-then-room-ne-WITNESS_LENGTH : goal.returns-then-room-ne-WITNESS_LENGTH
returns-then-room-ne-WITNESS_LENGTH c =
    let a = c.args in
    no_room a.view.now a.bounds.now a.room c.in_ok-bounds.ensures.0 _ c.in_ok-view.ensures.1 c.if-room-ne-WITNESS_LENGTH.true

pub returns-then-not-planes_within-box_within : goal.returns-then-not-planes_within-box_within
returns-then-not-planes_within-box_within c =
    let a = c.args in
    let w = c.in_ok-view in
    let b = c.in_ok-bounds in
    let g : c.planes_within.result && c.box_within.result ≡ every plane_within (planes_of w.view.numbers.now w.view.count) && box_within b.bounds.now =
    λ t. c.planes_within.ensures t && c.box_within.ensures t in
    not_on_grid a.view.now a.bounds.now a.room b.ensures.0 _ w.ensures.1 c.if-room-ne-WITNESS_LENGTH.false _ _ w.ensures.0 b.ensures.1
    (sym g ∙ c.if-not-planes_within-box_within.true)

pub invariant_of-result : goal.invariant_of-result
invariant_of-result c =
    let a = c.args in
    let w = c.in_ok-view in
    let b = c.in_ok-bounds in
    let g : c.planes_within.result && c.box_within.result ≡ every plane_within (planes_of w.view.numbers.now w.view.count) && box_within b.bounds.now =
    λ t. c.planes_within.ensures t && c.box_within.ensures t in
    let h = scene a.view.now a.bounds.now a.room w.view.count
    (all_on_grid a.view.now a.bounds.now a.room b.ensures.0 _ w.ensures.1 c.if-room-ne-WITNESS_LENGTH.false _ _ w.ensures.0 b.ensures.1
    (sym g ∙ c.if-not-planes_within-box_within.false))
    _ _ w.ensures.0 b.ensures.1 in
    record { constraints = h.0; box_on_grid = h.1 }

pub returns : goal.returns
returns c =
    let a = c.args in
    let w = c.in_ok-view in
    let b = c.in_ok-bounds in
    let g : c.planes_within.result && c.box_within.result ≡ every plane_within (planes_of w.view.numbers.now w.view.count) && box_within b.bounds.now =
    λ t. c.planes_within.ensures t && c.box_within.ensures t in (
      w.ensures.0,
      b.ensures.1,
      all_on_grid a.view.now a.bounds.now a.room b.ensures.0 _ w.ensures.1 c.if-room-ne-WITNESS_LENGTH.false _ _ w.ensures.0 b.ensures.1
          (sym g ∙ c.if-not-planes_within-box_within.false),
    )
