-- `intersects_segment` meets its contract: each way out by what refuses, and the result by what it calls. Assumes nothing.
use mathlib.Core.Path.{◌≡◌, sym, ◌∙◌}
use mathlib.Core.Bool.{◌&&◌}
use Rattle.std.proofs.lemmas.Result.{err_from_is_err_and}
use Rattle.whole.specs.SegmentCall.{point_of, planes_of, segment_on_grid}
use Rattle.whole.proofs.Held.{first_of_another, second_of_another, no_view, off_grid, judged}
use Rattle.whole.proofs.segment.intersects_segment.Goals as goal

pub returns-in_err-p0 : goal.returns-in_err-p0
returns-in_err-p0 c =
    let a = c.args in
    let p = err_from_is_err_and c.from_residual.result c.from_residual.ensures.1 in
    rw (p.1, p.2, c.in_err-p0.ensures.1) (first_of_another a.view.now a.p0.now a.p1.now c.in_err-p0.ensures.0)

pub returns-in_err-p1 : goal.returns-in_err-p1
returns-in_err-p1 c =
    let a = c.args in
    let p = err_from_is_err_and c.from_residual-in_err-p1.result c.from_residual-in_err-p1.ensures.1 in
    rw (p.1, p.2, c.in_err-p1.ensures.1) (second_of_another a.view.now a.p0.now a.p1.now c.in_ok-p0.ensures.0 c.in_err-p1.ensures.0)

pub returns-in_err-view : goal.returns-in_err-view
returns-in_err-view c =
    let a = c.args in
    let p = err_from_is_err_and c.from_residual-in_err-view.result c.from_residual-in_err-view.ensures.1 in
    rw (p.1, p.2) (no_view a.view.now a.p0.now a.p1.now c.in_ok-p0.ensures.0 c.in_ok-p1.ensures.0 _ c.in_err-view.ensures)

pub returns-then-not-point_within-planes_within : goal.returns-then-not-point_within-planes_within
returns-then-not-point_within-planes_within c =
    let a = c.args in
    let w = c.in_ok-view in
    let g : c.point_within.result && c.point_within-2.result && c.planes_within.result ≡ segment_on_grid (planes_of w.view.numbers.now w.view.count) (point_of c.in_ok-p0.p0.now) (point_of c.in_ok-p1.p1.now) =
    λ t. c.point_within.ensures t && c.point_within-2.ensures t && c.planes_within.ensures t in
    off_grid a.view.now a.p0.now a.p1.now c.in_ok-p0.ensures.0 c.in_ok-p1.ensures.0 _ _ _ w.ensures.0 c.in_ok-p0.ensures.1 c.in_ok-p1.ensures.1 _ w.ensures.1
    (sym g ∙ c.if-not-point_within-planes_within.true)

pub returns : goal.returns
returns c =
    let a = c.args in
    let w = c.in_ok-view in
    let g : c.point_within.result && c.point_within-2.result && c.planes_within.result ≡ segment_on_grid (planes_of w.view.numbers.now w.view.count) (point_of c.in_ok-p0.p0.now) (point_of c.in_ok-p1.p1.now) =
    λ t. c.point_within.ensures t && c.point_within-2.ensures t && c.planes_within.ensures t in
    judged a.view.now a.p0.now a.p1.now c.in_ok-p0.ensures.0 c.in_ok-p1.ensures.0 _ _ _ w.ensures.0 c.in_ok-p0.ensures.1 c.in_ok-p1.ensures.1 _ w.ensures.1
    (sym g ∙ c.if-not-point_within-planes_within.false) _ c.segment_in_view.ensures
