-- Nearer is an order of ranges: it goes one way, and what is not nearer than a candidate is not nearer than what that is not nearer than. Assumes nothing.
use mathlib.Core.Path.{◌≡◌, refl, sym}
use mathlib.Core.Bool.{Bool, true, false, not}
use mathlib.Core.List.{List}
use Prim.Native.Nat.{ℕ}
use lib.Ieee.{Float, is_nan}
use Rattle.number.proofs.Comparisons.{less_one_way, not_less_through}
use Rattle.number.proofs.Tests.{both_hold}
use Rattle.matrix.specs.Range.{is_empty}
use Rattle.matrix.specs.declared.vec.Vec3d.{Vec3d}
use Rattle.nearest.specs.Nearest.{range_at, distance_at, is_candidate, is_nearer}

module _ (s : List Float) (p : Vec3d) where
  pub a_number : (i : ℕ) → is_candidate s p i ≡ true → is_nan (distance_at s p i) ≡ false
  unfolding is_candidate
  a_number i h = turned (is_nan (distance_at s p i)) (both_hold (not (is_empty (range_at s i))) (not (is_nan (distance_at s p i))) h).1
    where
      turned : (b : Bool) → not b ≡ true → b ≡ false
      turned true e = sym e
      turned false e = refl

  pub one_way : (i j : ℕ) → is_nearer s p i j ≡ true → is_nearer s p j i ≡ false
  unfolding is_nearer
  one_way i j h = less_one_way (distance_at s p i) (distance_at s p j) h

  pub through : (i j k : ℕ) → is_candidate s p j ≡ true → is_nearer s p i j ≡ false → is_nearer s p j k ≡ false → is_nearer s p i k ≡ false
  unfolding is_nearer
  through i j k c h g = not_less_through (distance_at s p i) (distance_at s p j) (distance_at s p k) (a_number j c) h g
