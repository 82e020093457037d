-- What the answers of this crate mean. Statements; proofs/Meaning proves them. `T b` says that the test b holds, and `A ↔ B` that A holds exactly where B does.
use Rattle.std.specs.Prelude.{◌≡◌, ◌↔◌, ℕ, ◌<◌, T, length, Float, None, Some}
use mathlib.Core.List.{List, [], ◌∷◌, Memᴰ}
use Rattle.std.specs.Float.Ieee.{lt, le}
use Rattle.matrix.specs.declared.vec.Vec3d.{Vec3d}
use Rattle.number.specs.Places.{count_below}
use Rattle.nearest.specs.Nearest.{range_count, distance_at, is_candidate, is_within, nearest_of, places_within}

-- ---- the nearest

-- the range at i is a candidate, "with least `distance_squared`, the first on a tie"
pub record IsNearest (s : List Float) (p : Vec3d) (i : ℕ) : Type 0 where
  pub place : i < range_count s
  pub candidate : T (is_candidate s p i)
  pub nothing_nearer : (j : ℕ) → j < range_count s → T (is_candidate s p j) → T (le (distance_at s p i) (distance_at s p j))
  pub earlier_further : (j : ℕ) → j < i → T (is_candidate s p j) → T (lt (distance_at s p i) (distance_at s p j))

abbrev pub NearestMeans : Type 0
NearestMeans = (s : List Float) (p : Vec3d) (i : ℕ) → (nearest_of s p ≡ Some i) ↔ IsNearest s p i

-- "If none is left return none."
abbrev pub NoneMeans : Type 0
NoneMeans = (s : List Float) (p : Vec3d) → (nearest_of s p ≡ None) ↔ ((i : ℕ) → i < range_count s → T (is_candidate s p i) → ⊥)

-- ---- those within a distance

-- each is below all that follow it, so that none stands twice
abbrev pub Rising : List ℕ → Type 0
Rising [] = Unit {0}
Rising (i ∷ is) = ((j : ℕ) → Memᴰ j is → i < j) × Rising is

pub record AreWithin (s : List Float) (p : Vec3d) (limit : Float) (places : List ℕ) : Type 0 where
  -- listed is "every non-empty range whose squared distance is at most a lent number", and no other
  pub listed : (i : ℕ) → Memᴰ i places ↔ ((i < range_count s) × T (is_within s p limit i))
  pub rising : Rising places
  -- "the number found, which equals the number of qualifying ranges"
  pub number : length places ≡ count_below (range_count s) (is_within s p limit)

abbrev pub WithinMeans : Type 0
WithinMeans = (s : List Float) (p : Vec3d) (limit : Float) → AreWithin s p limit (places_within s p limit)
