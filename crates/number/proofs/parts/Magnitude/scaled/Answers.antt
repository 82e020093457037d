-- `number::parts::Magnitude::scaled` meets its contract. A subnormal magnitude below 2 ^ (j + 1) and not below 2 ^ j has 63 - j leading zeros, and is moved up by 52 - j.
-- Assumes nothing.
use Rattle.std.proofs.Common.{ap₂, ◌≡◌, ℕ, zero, suc, ◌+◌, ◌-◌, ◌*◌, ◌/◌, ◌%◌, ◌^◌, ◌<◌, ◌≤◌, sym, refl, ap, ◌∙◌, subst, le_trans, le_of_eq, lt_of_lt_of_le, lt_of_le_of_lt, mul-le-mul_right, mod-lt, mod-eq_of_lt, zero-lt-suc, mul_assoc, lt_of_not-le, div-add-mod', not-le_of_lt, arith, pow_pos, pow_mono, pow-add, shl_lt}
use lib.Bits.{bit_and, and_mask}
use lib.Count.{count_leading_zeros, leading_top}
use lib.Ieee.{binary64}
use Rattle.number.specs.declared.parts.Scaled.{Scaled}
use Rattle.number.specs.Steps.Magnitude.{Normalised, field_units}
use Rattle.number.proofs.Fields.{normal}
use Rattle.number.proofs.parts.Magnitude.scaled.Goals as goal

-- the shift that brings a's leading digit to 2 ^ 52
record Shift (a z : ℕ) : Type 0 where
  zeros : 11 + z ≡ count_leading_zeros 64 a
  some : z ≤ 52
  leading : 2 ^ 52 ≤ a * 2 ^ z
  digits : a * 2 ^ z < 2 ^ 53

shift : (a : ℕ) → 0 < a → a < 2 ^ 52 → Shift a (count_leading_zeros 64 a - 11)
shift a p h =
    let t = leading_top 64 a p (lt_of_lt_of_le h (pow_mono {i = 52} {j = 64} (omega arith))) in
    at t.0 (count_leading_zeros 64 a) refl t.1 t.2 t.3
    (lt_of_not-le (λ (g : 52 ≤ t.0). not-le_of_lt (lt_of_le_of_lt t.2 h) (pow_mono g)))
  where
    at : (j l : ℕ) → count_leading_zeros 64 a ≡ l → l + suc j ≡ 64 → 2 ^ j ≤ a → a < 2 ^ suc j → j < 52 → Shift a (count_leading_zeros 64 a - 11)
    at j l f e lo hi s =
        let z = count_leading_zeros 64 a - 11 in
        let up : j + z ≡ 52 = omega arith in
        record {
          zeros = omega arith;
          some = omega arith;
          leading = le_trans (le_of_eq (ap (λ (i : ℕ). 2 ^ i) (sym up) ∙ pow-add 2 j z)) (mul-le-mul_right (2 ^ z) lo);
          digits = lt_of_lt_of_le (shl_lt (suc j) z hi) (le_of_eq (ap (λ (i : ℕ). 2 ^ i) {x = suc j + z} {y = 53} (omega arith)));
        }

fraction : (b : ℕ) → bit_and b 4503599627370495 ≡ b % 2 ^ 52
fraction b = and_mask b 52

module _ (b : ℕ) (p : 0 < b) (h : b / 2 ^ 52 ≡ 0) where
  plain : b % 2 ^ 52 ≡ b
  plain = let e = div-add-mod' b (2 ^ 52) in omega arith

  low : (l : ℕ) → l ≡ count_leading_zeros 64 (bit_and b 4503599627370495) → Shift (bit_and b 4503599627370495) (l - 11)
  low l e =
      subst (λ (i : ℕ). Shift (bit_and b 4503599627370495) (i - 11)) (sym e)
      (subst (λ (i : ℕ). Shift i (count_leading_zeros 64 i - 11)) (sym (fraction b ∙ plain)) (shift b p (omega (arith, div-add-mod' b (2 ^ 52), mod-lt b (pow_pos 52)))))

-- its digits fit, so that none is shifted out
kept : (a z : ℕ) → Shift a z → a * 2 ^ z % 2 ^ 64 ≡ a * 2 ^ z
kept a z s = mod-eq_of_lt (lt_of_lt_of_le s.digits (pow_mono {i = 53} {j = 64} (omega arith)))

-- a field of 0
subnormal : (b a z : ℕ) (p : Scaled) → p.significand ≡ a * 2 ^ z % 2 ^ 64 → p.scale ≡ 52 - z → a ≡ b % 2 ^ 52 → b / 2 ^ 52 ≡ 0 → Shift a z → Normalised b p
subnormal b a z p m w e f s =
    let k = m ∙ kept a z s in
    record {
      leading = le_trans s.leading (le_of_eq (sym k));
      digits = lt_of_le_of_lt (le_of_eq k) s.digits;
      least = omega arith;
      most = omega arith;
      value =
          ap₂ (λ (i j : ℕ). i * 2 ^ j) k w ∙ mul_assoc a (2 ^ z) (2 ^ (52 - z)) ∙ ap (λ (i : ℕ). a * i) (sym (pow-add 2 z (52 - z)))
          ∙ ap (λ (i : ℕ). a * 2 ^ i) {x = z + (52 - z)} {y = 52} (omega (arith, s.some)) ∙ ap (λ (i : ℕ). i * 2 ^ 52) (e ∙ sym (ap (λ (i : ℕ). field_units binary64 i (b % 2 ^ 52)) f));
    }

pub overflow_sub-zeros : goal.overflow_sub-zeros
overflow_sub-zeros c = let s = low c.args.self.bits c.requires c.if-field-eq0.true _ c.from-zeros.ensures in omega (arith, s.zeros, c.from-zeros.ensures)

pub overflow_sub-result : goal.overflow_sub-result
overflow_sub-result c = (low c.args.self.bits c.requires c.if-field-eq0.true _ c.from-zeros.ensures).some

pub invariant_of-result : goal.invariant_of-result
invariant_of-result c =
    let s = low c.args.self.bits c.requires c.if-field-eq0.true _ c.from-zeros.ensures in
    let k = kept _ _ s in
    record { digits = (le_trans s.leading (le_of_eq (sym k)), lt_of_le_of_lt (le_of_eq k) s.digits) }

pub returns-then-field-eq0 : goal.returns-then-field-eq0
returns-then-field-eq0 c =
    let b = c.args.self.bits in
    subnormal b (bit_and b 4503599627370495) _ _ refl refl (fraction b) c.if-field-eq0.true (low b c.requires c.if-field-eq0.true _ c.from-zeros.ensures)

pub returns : goal.returns
returns c =
    let b = c.args.self.bits in
    normal b (bit_and b 4503599627370495) (b / 2 ^ 52) _ refl refl (fraction b) refl (some (b / 2 ^ 52) c.if-field-eq0.false)
  where
    some : (i : ℕ) → (i ≡ 0 → ⊥) → 0 < i
    some zero n = absurd (n refl)
    some (suc i) n = zero-lt-suc i
