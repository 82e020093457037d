-- What the operation over lent slices answers, by the numbers of the refusals. It writes nothing. Definitions only.
use Rattle.std.specs.Prelude.{not, List, Float, Option, ℕ}
use Rattle.number.specs.Answer.{Outcome, refused, outcome, unless, and_then}
use Rattle.matrix.specs.Vec.{vec3_of}
use Rattle.verdict.specs.View.{planes_held, planes_of}
use Rattle.verdict.specs.FrustumCalls.{intersects_segment_call}
use Rattle.blocking.specs.Blocking.{blocking_plane}

-- "all segment checks first, then 14 if the segment is already answered yes", and then the place among the planes that the volume holds
unfoldable pub blocking_plane_call : List Float → List Float → List Float → Outcome (Option ℕ)
unfolding intersects_segment_call planes_held blocking_plane
blocking_plane_call v p0 p1 =
    and_then (intersects_segment_call v p0 p1) (λ seen.
    unless (not seen) (refused 14) (and_then (planes_held v) (λ n. outcome (blocking_plane (planes_of v n) (vec3_of p0) (vec3_of p1)))))
