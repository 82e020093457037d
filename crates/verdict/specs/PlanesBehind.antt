-- The planes that a box is wholly behind, with a bit for each place: it is set where the box verdict by that plane alone is no. A box with an empty range is
-- behind every plane. Definitions only.
-- That verdict rounds: in the space of the box it makes a plane's normal unit length. By axis planes on the farm grid nothing is lost
-- (farmgrid/specs/PlanesBehind). By other planes a bit is not the exact answer: the plane -1,-1,-1;-3 has the corner 0,0,3 of the box 0,0,3 to 1,1,4, and the
-- plane 49,0,0;343 a face of the box 6,0,0 to 7,1,1, and both bits are set.
use Rattle.std.specs.Prelude.{ℕ, ◌+◌, ◌^◌, Bool, not, List, [], ◌∷◌, length, take, drop, Float}
use Rattle.number.specs.Answer.{Outcome, outcome, and_then}
use Rattle.number.specs.Places.{places_below}
use Rattle.verdict.specs.declared.plane.Plane.{Plane}
use Rattle.verdict.specs.declared.bbox.BBox3d.{BBox3d}
use Rattle.verdict.specs.BBox.{box_of}
use Rattle.verdict.specs.View.{planes_held, planes_of}
use Rattle.verdict.specs.Frustum.{box_in_view}
use Rattle.verdict.specs.FrustumCalls.{intersects_box_call}

-- by the plane at i alone the box is not in view
abbrev pub is_behind : List Plane → BBox3d → ℕ → Bool
is_behind ps b i = not (box_in_view (take 1 (drop i ps)) b)

-- the places of these planes, rising
unfoldable pub places_behind : List Plane → BBox3d → List ℕ
unfolding places_below
places_behind ps b = places_below (length ps) (is_behind ps b)

-- a number with the bits at some places, the lowest at 0
unfoldable pub bits_at : List ℕ → ℕ
bits_at [] = 0
bits_at (i ∷ is) = 2 ^ i + bits_at is

unfoldable pub blocking_planes : List Plane → BBox3d → ℕ
unfolding bits_at places_behind
blocking_planes ps b = bits_at (places_behind ps b)

-- The operation over lent slices: the checks of the box verdict, and then the bits of the planes that the volume holds.
unfoldable pub blocking_planes_call : List Float → List Float → Outcome ℕ
unfolding intersects_box_call planes_held blocking_planes
blocking_planes_call v b = and_then (intersects_box_call v b) (λ seen. and_then (planes_held v) (λ n. outcome (blocking_planes (planes_of v n) (box_of b))))
