-- The magnitude that a bit pattern stands for (IEEE 754, clause 3.4), taken apart and rounded. Definitions only.
-- A pattern is a whole number, here without its sign, and a magnitude is so many of its format's smallest values. Assumes nothing.
use Rattle.std.specs.Prelude.{◌≡◌, ℕ, zero, suc, ◌+◌, ◌*◌, ◌/◌, ◌%◌, ◌^◌, ◌<◌, ◌≤◌, Bool, false, cond, from_bits, to_bits, is_nan, nat_le, Float}
use Rattle.std.specs.Float.{Format, binary32, binary64}
use Rattle.std.specs.Float.Ieee.{hid, top}
use Rattle.number.specs.Format.{narrow_of}
use Rattle.number.specs.declared.parts.Parts.{Parts}
use Rattle.number.specs.declared.parts.Scaled.{Scaled}

-- in units of the format's smallest value, by the exponent's field and the fraction: a field of 0 has no leading digit
abbrev pub field_units : Format → ℕ → ℕ → ℕ
field_units f zero t = t
field_units f (suc x) t = (hid f + t) * 2 ^ x

-- of a pattern b
abbrev pub units_of : Format → ℕ → ℕ
units_of f b = field_units f (b / hid f) (b % hid f)

-- The parts of a number x: whether its sign is set, and its bits without the sign.
pub record PartsOf (x : Float) (p : Parts) : Type 0 where
  pub number : is_nan x ≡ false
  pub negative : p.negative ≡ nat_le (top binary64) (to_bits binary64 x)
  pub magnitude : p.magnitude.bits ≡ to_bits binary64 x % top binary64

-- A magnitude b above zero as a significand of 53 digits and a scale: significand * 2 ^ (scale - 52) smallest values.
pub record Normalised (b : ℕ) (p : Scaled) : Type 0 where
  pub leading : 2 ^ 52 ≤ p.significand
  pub digits : p.significand < 2 ^ 53
  pub least : b / 2 ^ 52 ≤ p.scale
  pub most : p.scale ≤ b / 2 ^ 52 + 52
  pub value : p.significand * 2 ^ p.scale ≡ units_of binary64 b * 2 ^ 52

-- Of a magnitude with the pattern b, r is the pattern once it is rounded to binary32; either sign is added to both.
pub record Narrowed (b r : ℕ) : Type 0 where
  pub most : r ≤ 0x7f80_0000
  pub rounded : (s : Bool) → from_bits binary32 (cond s (top binary32) 0 + r) ≡ narrow_of (from_bits binary64 (cond s (top binary64) 0 + b))
