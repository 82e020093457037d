-- `number::format::narrow` meets its contract: the sign's bit goes above the bits of the rounded magnitude. Assumes nothing.
use Rattle.std.proofs.Common.{◌≡◌, ℕ, ◌+◌, ◌*◌, ◌%◌, ◌^◌, ◌<◌, ◌≤◌, Bool, true, false, cond, not, T, leb, sym, refl, ap, ap₂, ◌∙◌, arith, leb→le, rules}
use Rattle.std.specs.Int.{from_bool}
use lib.Bits.{and_mask}
use lib.Dec.{nleb→lt}
use lib.Ieee.{Float, binary32, binary64, fits, to_bits, of_bits, nan_bits}
use lib.Ieee.Bits.{of_bits-to_bits, to_bits-lt}
use Rattle.number.specs.Format.{narrow_of}
use Rattle.number.specs.Steps.Magnitude.{Narrowed, PartsOf}
use Rattle.number.specs.declared.parts.Parts.{Parts}
use Rattle.number.proofs.Nan.{nan_is, nan_constant_32}
use Rattle.number.proofs.Narrowing.{narrow_nan}
use Rattle.number.proofs.Patterns.{number_pattern}
use Rattle.number.proofs.format.narrow.Goals as goal

-- a pattern taken apart
apart : (b : ℕ) → b < 2 ^ 64 → b ≡ cond (leb (2 ^ 63) b) (2 ^ 63) 0 + b % 2 ^ 63
apart b h = go (leb (2 ^ 63) b) (leb→le (2 ^ 63) b) (nleb→lt (2 ^ 63) b)
  where
    go : (z : Bool) → (T z → 2 ^ 63 ≤ b) → (T (not z) → b < 2 ^ 63) → b ≡ cond z (2 ^ 63) 0 + b % 2 ^ 63
    go true l g = let m = l tt in omega arith
    go false l g = let m = g tt in omega arith

-- the sign's bit
at_top : (b : Bool) → from_bool b * 2 ^ 31 % 2 ^ 32 ≡ cond b (2 ^ 31) 0
at_top true = refl
at_top false = refl

module _ (x : Float) (h : T (fits binary64 x)) (p : Parts) (i : PartsOf x p) (s r : ℕ) (e : s ≡ from_bool p.negative) (n : Narrowed p.magnitude.bits r) where
  sign_is : s * 2 ^ 31 % 2 ^ 32 ≡ cond p.negative (2 ^ 31) 0
  sign_is = ap (λ (j : ℕ). j * 2 ^ 31 % 2 ^ 32) e ∙ at_top p.negative

  joined : of_bits binary32 (s * 2 ^ 31 % 2 ^ 32 + r) ≡ narrow_of x
  joined =
      ap (λ (j : ℕ). of_bits binary32 (j + r)) sign_is ∙ n.rounded p.negative
      ∙ ap₂ (λ (b : Bool) (m : ℕ). narrow_of (of_bits binary64 (cond b (2 ^ 63) 0 + m))) i.negative i.magnitude
      ∙ ap (λ (j : ℕ). narrow_of (of_bits binary64 j)) (sym (apart (to_bits binary64 x) (to_bits-lt binary64 x h)))
      ∙ ap narrow_of (of_bits-to_bits binary64 x h)

  no_nan : T (not (nan_bits binary32 (s * 2 ^ 31 % 2 ^ 32 + r)))
  no_nan = number_pattern binary32 31 (s * 2 ^ 31 % 2 ^ 32 + r) refl (let m = n.most in let a = and_mask (s * 2 ^ 31 % 2 ^ 32 + r) 31 in omega arith)

pub returns-in_default : goal.returns-in_default
returns-in_default c = let x = c.args.x in nan_constant_32 ∙ sym (narrow_nan x (nan_is x c.in_default.ensures))

pub float_from_bits-result : goal.float_from_bits-result
float_from_bits-result c = no_nan c.args.x (search rules) c.in-Some.parts c.in-Some.ensures c.from.result c.narrowed.result c.from.ensures c.narrowed.ensures

pub returns : goal.returns
returns c = joined c.args.x (search rules) c.in-Some.parts c.in-Some.ensures c.from.result c.narrowed.result c.from.ensures c.narrowed.ensures
