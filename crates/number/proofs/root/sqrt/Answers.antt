-- `number::root::sqrt` meets its contract: each way out is a law of `proofs/SquareRoot.antt`, at what the bits say of x. Assumes nothing.
use Rattle.std.proofs.Common.{◌≡◌, ℕ, ◌*◌, ◌^◌, ◌<◌, ◌≤◌, Bool, true, false, not, T, sym, ap, ◌∙◌, subst, arith, rules}
use native.Mathlib.Decide.{dec_lt}
use lib.Ieee.{Float, nan, inf, binary64, is_nan, fits}
use lib.Ieee.Bits.{nan_bits_is}
use lib.Ieee.Exact.{HasValue}
use Rattle.number.specs.Root.{round_root, sqrt_of}
use Rattle.number.specs.Steps.Magnitude.{units_of, PartsOf}
use Rattle.number.specs.declared.parts.Parts.{Parts}
use Rattle.number.proofs.Fields.{units_pos}
use Rattle.number.proofs.Nan.{nan_is, nan_constant}
use Rattle.number.proofs.Reading.{infinite, value}
use Rattle.number.proofs.SquareRoot.{sqrt_nan, sqrt_zero, sqrt_negative, sqrt_value, sqrt_inf, root_number}
use Rattle.number.proofs.root.sqrt.Goals as goal

module _ (x : Float) (h : T (fits binary64 x)) (p : Parts) (i : PartsOf x p) where
  at_zero : p.magnitude.bits ≡ 0 → x ≡ sqrt_of binary64 x
  at_zero e =
      sym (sqrt_zero binary64 x p.negative
      (subst (λ (j : ℕ). HasValue x p.negative (units_of binary64 j) (2 ^ 1074)) e (value x h p i (omega arith))))

  below_zero : (p.magnitude.bits ≡ 0 → ⊥) → p.negative ≡ true → nan ≡ sqrt_of binary64 x
  below_zero z s = elim (dec_lt p.magnitude.bits (2047 * 2 ^ 52)) [
    | yes l ↦ sym (sqrt_negative binary64 x (units_of binary64 p.magnitude.bits) (units_pos binary64 p.magnitude.bits (omega arith))
        (subst (λ (b : Bool). HasValue x b (units_of binary64 p.magnitude.bits) (2 ^ 1074)) s (value x h p i l)))
    | no g ↦ sym (sqrt_inf binary64 x true (infinite x h p i (omega arith) ∙ ap inf s))
  ]

  at_infinity : p.negative ≡ false → 2047 * 2 ^ 52 ≤ p.magnitude.bits → x ≡ sqrt_of binary64 x
  at_infinity s l = let e = infinite x h p i l ∙ ap inf s in e ∙ sym (sqrt_inf binary64 x false e)

  positive : (p.magnitude.bits ≡ 0 → ⊥) → p.negative ≡ false → p.magnitude.bits < 2047 * 2 ^ 52
      → sqrt_of binary64 x ≡ round_root binary64 (units_of binary64 p.magnitude.bits * 2 ^ 1074)
  positive z s l =
      sqrt_value binary64 x (units_of binary64 p.magnitude.bits) (units_pos binary64 p.magnitude.bits (omega arith))
      (subst (λ (b : Bool). HasValue x b (units_of binary64 p.magnitude.bits) (2 ^ 1074)) s (value x h p i l))

pub returns-in_default : goal.returns-in_default
returns-in_default c = let x = c.args.x in sym (sqrt_nan binary64 x (nan_is x c.in_default.ensures))

pub returns-then-magnitude-eq0 : goal.returns-then-magnitude-eq0
returns-then-magnitude-eq0 c = at_zero c.args.x (search rules) _ c.in-Some.ensures c.if-magnitude-eq0.true

pub returns-then-parts : goal.returns-then-parts
returns-then-parts c = nan_constant ∙ below_zero c.args.x (search rules) _ c.in-Some.ensures c.if-magnitude-eq0.false c.if-parts.true

pub returns-then-magnitude-ge9218868437227405312 : goal.returns-then-magnitude-ge9218868437227405312
returns-then-magnitude-ge9218868437227405312 c = at_infinity c.args.x (search rules) _ c.in-Some.ensures c.if-parts.false c.if-magnitude-ge9218868437227405312.true

pub float_from_bits-result : goal.float_from_bits-result
float_from_bits-result c = subst (λ (b : Bool). T (not b)) (sym (nan_bits_is binary64 c.root.result ∙ ap is_nan c.root.ensures ∙ root_number binary64 _)) tt

pub returns : goal.returns
returns c =
    c.root.ensures ∙ sym (positive c.args.x (search rules) _ c.in-Some.ensures c.if-magnitude-eq0.false c.if-parts.false c.if-magnitude-ge9218868437227405312.false)
