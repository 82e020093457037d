-- What the answers of this crate mean, for planes, ends and boxes of any numbers. Statements; proofs/Meaning and proofs/OnlyBit prove them. `T b` says that the test b holds, and `A ↔ B`
-- that A holds exactly where B does.
use Rattle.std.specs.Prelude.{◌≡◌, ◌↔◌, true, false, List, ℕ, ◌^◌, ◌<◌, T, length, None, Some}
use Rattle.matrix.specs.declared.vec.Vec3d.{Vec3d}
use Rattle.verdict.specs.declared.plane.Plane.{Plane}
use Rattle.verdict.specs.declared.bbox.BBox3d.{BBox3d}
use Rattle.verdict.specs.Frustum.{box_in_view}
use Rattle.verdict.specs.PlanesBehind.{blocking_planes}
use Rattle.blocking.specs.Blocking.{without, seen_without, blocking_plane}

-- i is "the lowest plane place whose removal alone would make it yes"
pub record IsBlocking (ps : List Plane) (a b : Vec3d) (i : ℕ) : Type 0 where
  pub place : i < length ps
  pub seen : T (seen_without ps a b i)
  pub lowest : (j : ℕ) → j < i → T (seen_without ps a b j) → ⊥

abbrev pub BlockingMeans : Type 0
BlockingMeans = (ps : List Plane) (a b : Vec3d) (i : ℕ) → (blocking_plane ps a b ≡ Some i) ↔ IsBlocking ps a b i

-- "no single removal suffices"
abbrev pub NoneMeans : Type 0
NoneMeans = (ps : List Plane) (a b : Vec3d) → (blocking_plane ps a b ≡ None) ↔ ((i : ℕ) → i < length ps → T (seen_without ps a b i) → ⊥)

-- The planes that a box is behind, by the same removal: a box that is answered no by two planes or more would be answered yes without plane i exactly where it is behind
-- that plane alone.
abbrev pub OnlyBitMeans : Type 0
OnlyBitMeans =
    (ps : List Plane) (b : BBox3d) (i : ℕ) → 1 < length ps → i < length ps → box_in_view ps b ≡ false
    → (box_in_view (without i ps) b ≡ true) ↔ (blocking_planes ps b ≡ 2 ^ i)
