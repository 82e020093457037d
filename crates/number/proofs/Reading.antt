-- A number read by its bits: with the sign's bit masked off, the magnitude says whether it is infinite, and otherwise how many smallest values it is.
-- Assumes nothing.
use Rattle.std.proofs.Common.{◌≡◌, ℕ, ◌-◌, ◌*◌, ◌%◌, ◌^◌, ◌<◌, ◌≤◌, Bool, false, T, leb, ◌⊎◌, sym, ap, ◌∙◌, subst, inl, inr, arith}
use lib.Bits.{bit_and, and_mask}
use lib.Ieee.{Float, inf, binary64, is_nan, fits, top, to_bits, of_bits}
use lib.Ieee.Bits.{of_bits-to_bits}
use lib.Ieee.Exact.{HasValue}
use Rattle.number.specs.Steps.Magnitude.{units_of, PartsOf}
use Rattle.number.specs.declared.parts.Parts.{Parts}
use Rattle.number.proofs.Fields.{bits_value, pattern}
use Rattle.number.proofs.Nan.{number}

-- the magnitude's bits, and the sign
abbrev pub mag : Float → ℕ
mag x = bit_and (to_bits binary64 x) (2 ^ 63 - 1)

abbrev pub sign : Float → Bool
sign x = leb (top binary64) (to_bits binary64 x)

module _ (x : Float) (h : T (fits binary64 x)) (n : is_nan x ≡ false) where
  abbrev bits : ℕ
  bits = to_bits binary64 x

  back : of_bits binary64 bits ≡ x
  back = of_bits-to_bits binary64 x h

  kind : ((bits % 2 ^ 63 ≡ 2047 * 2 ^ 52) × (of_bits binary64 bits ≡ inf (sign x))) ⊎ (bits % 2 ^ 63 < 2047 * 2 ^ 52)
  kind = pattern binary64 bits (number (of_bits binary64 bits) (ap is_nan back ∙ n))

  pub mag_most : mag x ≤ 2047 * 2 ^ 52
  mag_most = elim kind [ inl i ↦ at i.0 | inr g ↦ below g ]
    where
      at : bits % 2 ^ 63 ≡ 2047 * 2 ^ 52 → mag x ≤ 2047 * 2 ^ 52
      at e = omega (arith, and_mask bits 63)

      below : bits % 2 ^ 63 < 2047 * 2 ^ 52 → mag x ≤ 2047 * 2 ^ 52
      below g = omega (arith, and_mask bits 63)

-- by its parts
module _ (x : Float) (h : T (fits binary64 x)) (p : Parts) (i : PartsOf x p) where
  pub infinite : 2047 * 2 ^ 52 ≤ p.magnitude.bits → x ≡ inf p.negative
  infinite l = elim (kind x h i.number) [ inl k ↦ sym (back x h i.number) ∙ k.1 ∙ ap inf (sym i.negative) | inr g ↦ absurd (clash g) ]
    where
      clash : to_bits binary64 x % 2 ^ 63 < 2047 * 2 ^ 52 → ⊥
      clash g = omega (arith, i.magnitude)

  pub value : p.magnitude.bits < 2047 * 2 ^ 52 → HasValue x p.negative (units_of binary64 p.magnitude.bits) (2 ^ 1074)
  value l =
      subst (λ (y : Float). HasValue y p.negative (units_of binary64 p.magnitude.bits) (2 ^ 1074)) (back x h i.number)
      (subst (λ (b : Bool). HasValue (of_bits binary64 (to_bits binary64 x)) b (units_of binary64 p.magnitude.bits) (2 ^ 1074)) (sym i.negative)
      (subst (λ (j : ℕ). HasValue (of_bits binary64 (to_bits binary64 x)) (sign x) (units_of binary64 j) (2 ^ 1074)) (sym i.magnitude)
      (bits_value binary64 (to_bits binary64 x) (subst (λ (j : ℕ). j < 2047 * 2 ^ 52) i.magnitude l))))
