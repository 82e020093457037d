-- The nearest block: "A grower reporting hail gives a point, and the desk wants the nearest block." Several ranges stand in one slice, and a
-- place counts them from 0. Distances are squared, as `distance_squared` gives them: a NaN coordinate of the point is on neither side of a range and adds nothing.
-- Definitions only.
use Rattle.std.specs.Prelude.{ℕ, ◌+◌, ◌*◌, Bool, not, ◌&&◌, List, leb, length, Float, Option}
use Rattle.std.specs.Float.Ieee.{lt, le, is_nan}
use Rattle.number.specs.Every.{every_below}
use Rattle.number.specs.Limits.{range_length}
use Rattle.number.specs.Slice.{at}
use Rattle.number.specs.Records.{record_count, are_records}
use Rattle.matrix.specs.Vec.{vec3}
use Rattle.matrix.specs.Range.{range, is_empty, distance_squared}
use Rattle.matrix.specs.declared.vec.Vec3d.{Vec3d}
use Rattle.matrix.specs.declared.range.Range3d.{Range3d}
use Rattle.number.specs.Places.{places_below, first_of}

-- ---- the ranges of a slice

abbrev pub most_ranges : ℕ
most_ranges = 1024

abbrev pub range_count : List Float → ℕ
range_count s = record_count range_length s

-- "From 1 to 1,024 ranges"
abbrev pub are_ranges : List Float → Bool
are_ranges s = are_records range_length s && leb (length s) (most_ranges * range_length)

abbrev pub range_at : List Float → ℕ → Range3d
range_at s i =
    let from = i * range_length in
    range (vec3 (λ j. at s (from + j))) (vec3 (λ j. at s (from + 3 + j)))

abbrev pub distance_at : List Float → Vec3d → ℕ → Float
distance_at s p i = distance_squared (range_at s i) p

-- ---- the nearest

-- "skip empty ones and NaN distances"
unfoldable pub is_candidate : List Float → Vec3d → ℕ → Bool
is_candidate s p i = not (is_empty (range_at s i)) && not (is_nan (distance_at s p i))

unfoldable pub is_nearer : List Float → Vec3d → ℕ → ℕ → Bool
is_nearer s p i j = lt (distance_at s p i) (distance_at s p j)

-- the range at i is a candidate, and of the first n no candidate is nearer
unfoldable pub is_nearest : List Float → Vec3d → ℕ → ℕ → Bool
unfolding every_below
is_nearest s p n i = is_candidate s p i && every_below n (λ j. not (is_candidate s p j && is_nearer s p j i))

-- "the place with least `distance_squared`, the first on a tie [..]. If none is left return none."
unfoldable pub nearest_of : List Float → Vec3d → Option ℕ
unfolding places_below
nearest_of s p = let n = range_count s in first_of (places_below n (is_nearest s p n))

-- ---- those within a distance

-- a "non-empty range whose squared distance is at most a lent number"; a NaN is at most no number, and no number is at most a NaN
unfoldable pub is_within : List Float → Vec3d → Float → ℕ → Bool
is_within s p limit i = not (is_empty (range_at s i)) && le (distance_at s p i) limit

-- "in rising place order, every" such range
unfoldable pub places_within : List Float → Vec3d → Float → List ℕ
unfolding places_below
places_within s p limit = places_below (range_count s) (is_within s p limit)
