-- `Rows::span_left` meets its contract: the planes left and what is left of the segment decide. Assumes nothing.
use Rattle.std.proofs.Common.{◌≡◌, false, drop}
use lib.Ieee.{lt}
use Rattle.matrix.specs.Constants.{positive_zero, one}
use Rattle.verdict.specs.Rows.{planes_in_rows}
use Rattle.verdict.specs.Frustum.{span_left}
use Rattle.verdict.specs.Steps.Passes.{sides_of}
use Rattle.verdict.proofs.rows.Rows.span_left.Given as goal

abbrev pub invariant-loop-i : goal.invariant-loop-i
invariant-loop-i l =
    (lt l.span.end l.span.start ≡ false)
    × (l.a_left ≡ sides_of (drop l.i (planes_in_rows l.self.numbers l.self.count)) l.a.point) × (l.b_left ≡ sides_of (drop l.i (planes_in_rows l.self.numbers l.self.count)) l.b.point)
    × (span_left (drop l.i (planes_in_rows l.self.numbers l.self.count)) l.a.point l.b.point l.span.start l.span.end ≡ span_left (planes_in_rows l.self.numbers l.self.count) l.a.point l.b.point positive_zero one)
