-- What the private functions are given and answer. They serve the contracts of private functions; the verdict's definition does not speak of them. Definitions only.
use Rattle.std.specs.Prelude.{◌≡◌, List, [], ◌∷◌, ℕ, ◌+◌, ◌*◌, ◌≤◌, ◌<◌, length, ℤ, pos, nat_abs, Float}
use Rattle.number.specs.Limits.{flag_place, grid_limit, distance_limit, fewest_planes, most_planes}
use Rattle.number.specs.Slice.{at}
use Rattle.verdict.specs.View.{volume_length}
use Rattle.whole.specs.SegmentCall.{number_at}
use Rattle.exact.specs.Steps.{Vec3i, vec, Sized}
use Rattle.placed.specs.Numbers.{truncated}
use Rattle.placed.specs.Placement.{WholeBox, placed_least, placed_greatest}
use Rattle.placed.specs.BBoxCall.{count_in}

-- ---- values of the code

-- the least corner of the placed box, then the greatest
abbrev pub placed_bounds : WholeBox → List ℤ
placed_bounds B = placed_least B 0 ∷ placed_least B 1 ∷ placed_least B 2 ∷ placed_greatest B 0 ∷ placed_greatest B 1 ∷ placed_greatest B 2 ∷ []

-- ---- records

-- the numbers in front of a box's flag, small enough to add up
pub record BoxNumbers (s : List ℤ) : Type 0 where
  pub numbers : length s ≡ flag_place
  pub small : (i : ℕ) → i < flag_place → nat_abs (number_at s i) ≤ distance_limit

-- a corner of the range, which begins at a place, and a column of the turn
abbrev pub corner_at : List ℤ → ℕ → Vec3i
corner_at s from = vec (λ k. number_at s (from + k * 1))

abbrev pub column_at : List ℤ → ℕ → Vec3i
column_at s j = vec (λ k. number_at s (6 + j + k * 4))

-- those of a box on the grid
pub record Placing (s : List ℤ) : Type 0 where
  pub numbers : BoxNumbers s
  pub low : Sized grid_limit (corner_at s 0)
  pub high : Sized grid_limit (corner_at s 3)
  pub turn : (j : ℕ) → j < 3 → Sized 1 (column_at s j)
  pub translation : (j : ℕ) → j < 3 → nat_abs (number_at s (18 + j)) ≤ grid_limit

-- a volume holds n planes
pub record HoldsPlanes (v : List Float) (n : ℕ) : Type 0 where
  pub says : n ≡ count_in v
  pub whole : truncated (at v 0) ≡ pos n
  pub fewest : fewest_planes ≤ n
  pub most : n ≤ most_planes
  pub numbers : length v ≡ volume_length n
