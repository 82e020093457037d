-- A shed and a wall turn a verdict from yes to no, computed from the definitions. Assumes nothing.
use Rattle.std.proofs.Common.{refl}
use lib.Count.{count_trailing_zeros}
use lib.Ieee.{to_unsigned, add, sub, mul, div, neg, lt, le, eq, is_nan, round, sum, units, odd, size, span, climb}
use Rattle.number.specs.Every.{every}
use Rattle.number.specs.Arithmetic.{abs_of, min_of, max_of}
use Rattle.number.specs.Root.{sqrt_of}
use Rattle.number.specs.Tabulate.{tabulate}
use Rattle.matrix.specs.Vec.{length_of, normalized}
use Rattle.matrix.specs.Inverse.{adjugate, determinant, inverse_above}
use Rattle.matrix.specs.Range.{is_empty}
use Rattle.verdict.specs.Plane.{offset, end_toward, reaches_positive_side}
use Rattle.verdict.specs.View.{plane_count_of, planes_held}
use Rattle.verdict.specs.Frustum.{point_in_view, span_left, segment_in_view, box_in_view, triangle_in_view}
use Rattle.verdict.specs.FrustumCalls.{have_lengths, verdict_after, verdict_by, intersects_point_call, intersects_segment_call, intersects_triangle_call, intersects_box_call}
use Rattle.verdict.specs.WorkedScreens.{WorkedScreens}

pub worked_screens : WorkedScreens
unfolding have_lengths verdict_after verdict_by intersects_point_call intersects_segment_call intersects_triangle_call intersects_box_call plane_count_of planes_held every point_in_view span_left segment_in_view box_in_view triangle_in_view tabulate offset end_toward reaches_positive_side is_empty adjugate determinant inverse_above length_of normalized sqrt_of abs_of min_of max_of to_unsigned add sub mul div neg lt le eq is_nan round sum units odd size span climb count_trailing_zeros
worked_screens = record {
  point = refl;
  point_screened = refl;
  segment = refl;
  segment_screened = refl;
  box = refl;
  box_screened = refl;
  triangle = refl;
  triangle_unscreened = refl;
}
