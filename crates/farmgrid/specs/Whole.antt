-- Floats that are whole numbers. Definitions only.
use Rattle.std.specs.Prelude.{◌≡◌, ◌*◌, ℤ, pos, ◌*ℤ◌, Float}
use Rattle.std.specs.Float.{nan, inf, fin}
use Rattle.std.specs.Float.Ieee.{up, down}
use Rattle.number.specs.Grid.{signed}

-- ±m * 2 ^ e is the whole number z: multiplied through by the power of two in its denominator
abbrev pub Equals : Float → ℤ → Type 0
Equals nan z = ⊥
Equals (inf s) z = ⊥
Equals (fin s m e) z = signed s (m * up e) ≡ z *ℤ pos (down e)

-- x is finite and is the whole number z. A zero of either sign is 0.
pub record Whole (x : Float) (z : ℤ) : Type 0 where
  pub is : Equals x z
