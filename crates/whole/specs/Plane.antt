-- Planes in whole numbers. ℤ are the whole numbers. Definitions only.
use Rattle.std.specs.Prelude.{ℕ, ℤ, ◌+ℤ◌, ◌-ℤ◌, ◌*ℤ◌}

-- a normal by axis, 0, 1 and 2, and a distance
pub record WholePlane : Type 0 where
  pub normal : ℕ → ℤ
  pub distance : ℤ

abbrev pub dotℤ : (ℕ → ℤ) → (ℕ → ℤ) → ℤ
dotℤ p q = p 0 *ℤ q 0 +ℤ p 1 *ℤ q 1 +ℤ p 2 *ℤ q 2

-- How far in front of a plane a point lies: "the dot product of normal and point, less the distance". Behind it that is below 0.
abbrev pub gap : WholePlane → (ℕ → ℤ) → ℤ
gap P A = dotℤ P.normal A -ℤ P.distance
