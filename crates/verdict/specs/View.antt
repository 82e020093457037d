-- A view: planes that have it on their positive sides, and rays along its edges. Its record, the volume, holds planes within limits:
-- "a whole count first, the planes with the original six in front, then the four rays". What says where its numbers stand is here. Definitions only.
use Rattle.std.specs.Prelude.{ℕ, ◌+◌, ◌*◌, Bool, ◌&&◌, List, length, take, drop, nat_le, Float}
use Rattle.std.specs.Float.Ieee.{le, eq, to_unsigned}
use Rattle.number.specs.Limits.{fewest_planes, most_planes}
use Rattle.number.specs.Answer.{Outcome, refused, outcome, and_then, unless, has}
use Rattle.number.specs.Tabulate.{tabulate}
use Rattle.number.specs.Slice.{at}
use Rattle.matrix.specs.Constants.{rounded}
use Rattle.matrix.specs.Vec.{vec3}
use Rattle.verdict.specs.declared.plane.Plane.{Plane}
use Rattle.verdict.specs.declared.ray.Ray.{Ray}
use Rattle.verdict.specs.Plane.{plane}
use Rattle.verdict.specs.Ray.{ray}

-- the near plane, which the far one follows
abbrev pub near_plane : ℕ
near_plane = 4

abbrev pub ray_count : ℕ
ray_count = 4

-- ---- the numbers of a record of n planes

-- where plane i begins, behind the count: a plane is four numbers
abbrev pub plane_start : ℕ → ℕ
plane_start i = 1 + i * 4

-- where ray i begins, behind the last plane: a ray is six numbers
abbrev pub ray_start : ℕ → ℕ → ℕ
ray_start n i = plane_start n + i * 6

-- how many there are: 49 for six planes, and 4 more for each plane beyond
abbrev pub volume_length : ℕ → ℕ
volume_length n = ray_start n ray_count

-- ---- its count

-- a number without its fraction: 0 for a NaN and below 1, and at most 2 ^ 64 - 1
abbrev pub whole_part : Float → ℕ
whole_part x = to_unsigned 64 x

-- the number x is whole, and within the limits of planes
abbrev pub is_count : Float → Bool
is_count x = le (rounded fewest_planes 1) x && le x (rounded most_planes 1) && eq x (rounded (whole_part x) 1)

-- how many planes x says there are: "12 for a count not whole or outside" them
unfoldable pub plane_count_of : Float → Outcome ℕ
plane_count_of x = unless (is_count x) (refused 12) (outcome (whole_part x))

-- How many planes a record holds: "1 for a volume below 49 numbers [..], then 12 for a count not whole or outside" its limits, "then 1 for another volume length".
unfoldable pub planes_held : List Float → Outcome ℕ
unfolding plane_count_of
planes_held s =
    unless (nat_le (volume_length fewest_planes) (length s)) (refused 1)
    (and_then (plane_count_of (at s 0)) (λ n. unless (has (volume_length n) s) (refused 1) (outcome n)))

-- ---- its planes and its rays

abbrev pub plane_at : List Float → ℕ → Plane
plane_at s i = let from = plane_start i in plane (vec3 (λ j. at s (from + j))) (at s (from + 3))

-- the first n planes of a record
abbrev pub planes_of : List Float → ℕ → List Plane
planes_of s n = tabulate (plane_at s) n

-- of the planes of a view those in front, and of these the near and the far one
abbrev pub original_planes : List Plane → List Plane
original_planes ps = take fewest_planes ps

abbrev pub near_and_far : List Plane → List Plane
near_and_far ps = take 2 (drop near_plane ps)

-- ray i of a record of n planes
abbrev pub ray_at : List Float → ℕ → ℕ → Ray
ray_at s n i =
    let from = ray_start n i in
    ray (vec3 (λ j. at s (from + j))) (vec3 (λ j. at s (from + 3 + j)))

-- the rays along the view's edges, behind n planes
abbrev pub rays_of : List Float → ℕ → List Ray
rays_of s n = tabulate (ray_at s n) ray_count
