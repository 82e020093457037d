-- `segment_in_view` meets its contract: the planes left and the span so far decide. Assumes nothing.
use mathlib.Core.Path.{◌≡◌}
use mathlib.Core.Bool.{true}
use lib.ListN.{drop}
use Rattle.number.specs.Every.{every}
use Rattle.whole.specs.Segment.{leaves, segment_in_view}
use Rattle.whole.specs.SegmentCall.{point_of, planes_of, plane_within}
use Rattle.whole.specs.Steps.{SmallSpan}
use Rattle.whole.proofs.segment.segment_in_view.Given as goal

abbrev pub invariant-loop-i : goal.invariant-loop-i
invariant-loop-i l =
    SmallSpan l.span × (every plane_within (drop l.i (planes_of l.view.numbers.now l.view.count)) ≡ true)
    × (leaves (drop l.i (planes_of l.view.numbers.now l.view.count)) (point_of l.p0) (point_of l.p1) l.span.start l.span.end ≡ segment_in_view (planes_of l.view.numbers.now l.view.count) (point_of l.p0) (point_of l.p1))
