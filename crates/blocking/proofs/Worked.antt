-- Which screen hides a sight line, computed from the definitions. Assumes nothing.
use mathlib.Core.Path.{refl}
use lib.Count.{count_trailing_zeros}
use lib.Ieee.{to_unsigned, add, sub, mul, div, neg, lt, le, eq, is_nan, round, sum, units, odd, size, span, climb}
use Rattle.number.specs.Every.{every}
use Rattle.number.specs.Places.{places_below}
use Rattle.number.specs.Arithmetic.{min_of, max_of}
use Rattle.number.specs.Tabulate.{tabulate}
use Rattle.verdict.specs.View.{plane_count_of, planes_held}
use Rattle.verdict.specs.Frustum.{point_in_view, span_left, segment_in_view}
use Rattle.verdict.specs.FrustumCalls.{have_lengths, verdict_after, verdict_by, intersects_segment_call}
use Rattle.blocking.specs.Blocking.{seen_without, blocking_plane}
use Rattle.blocking.specs.Calls.{blocking_plane_call}
use Rattle.blocking.specs.Worked.{Worked}

pub worked : Worked
unfolding blocking_plane_call blocking_plane seen_without places_below have_lengths verdict_after verdict_by intersects_segment_call plane_count_of planes_held every point_in_view span_left segment_in_view tabulate min_of max_of to_unsigned add sub mul div neg lt le eq is_nan round sum units odd size span climb count_trailing_zeros
worked = record {
  behind_shed_lem = refl;
  over_shed = refl;
  already_seen = refl;
  behind_one = refl;
  two_would_do = refl;
  behind_two = refl;
}
