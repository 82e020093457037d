-- A bit pattern that is no NaN's and no infinity's has the value of its fields: `units_of` smallest values. Assumes nothing.
use Rattle.std.proofs.Common.{ap₂, ◌≡◌, ℕ, zero, suc, ◌+◌, ◌-◌, ◌*◌, ◌/◌, ◌%◌, ◌^◌, ◌<◌, ◌≤◌, Bool, true, false, cond, not, T, eqb, leb, ◌⊎◌, sym, refl, ap, ◌∙◌, subst, inl, inr, lt_of_lt_of_le, le-add_right, mod-lt, mod-eq_of_lt, zero-lt-suc, mul_assoc, div-lt_iff_lt-mul, eq-or-lt_of_le, mul-pos, div-add-mod', mul-one, mul-div_cancel, arith, eqb→eq, nltb→le, pow_pos, pow-add}
use native.Mathlib.Nat.{mul-mod_left, mod-mod_of_dvd, dvd-mul_right}
use lib.Arith.{lt→nleb}
use lib.Dec.{nleb→lt}
use lib.Ieee.{nan, inf, Format, binary64, prec, low, odd, hid, ones, top, is_nan, of_fields, of_bits}
use lib.Ieee.Bits.{is_true, is_false, nan_bits_is, nan_bits_above}
use lib.Ieee.Exact.{HasValue, odd_sign}
use lib.Ieee.Fits.{eq→eqb}
use Rattle.number.specs.declared.parts.Scaled.{Scaled}
use Rattle.number.specs.Steps.Magnitude.{Normalised, field_units, units_of}

fields_value : (f : Format) (s : Bool) (x t : ℕ) → x < ones f → HasValue (of_fields f s x t) s (field_units f x t) (2 ^ low f)
unfolding of_fields
fields_value f s zero t h = subst (λ (i : ℕ). HasValue (odd (prec f) s t 0 (low f)) s i (2 ^ low f)) (mul-one t) (odd_sign (prec f) s t 0 (low f))
fields_value f s (suc x) t h = go (eqb (suc x) (ones f)) (eqb→eq (suc x) (ones f))
  where
    go : (b : Bool) → (T b → suc x ≡ ones f) → HasValue (cond b (cond (eqb t 0) (inf s) nan) (odd (prec f) s (hid f + t) x (low f))) s ((hid f + t) * 2 ^ x) (2 ^ low f)
    go true e = absurd (let z = e tt in omega arith)
    go false e = odd_sign (prec f) s (hid f + t) x (low f)

-- the sign, and the units of what is left without it
pub bits_value : (f : Format) (b : ℕ) → b % top f < ones f * hid f → HasValue (of_bits f b) (leb (top f) b) (units_of f (b % top f)) (2 ^ low f)
unfolding of_bits
bits_value f b h =
    subst (λ (i : ℕ). HasValue (of_fields f (leb (top f) b) (b % top f / hid f) (b % hid f)) (leb (top f) b) (field_units f (b % top f / hid f) i) (2 ^ low f))
    (sym (mod-mod_of_dvd (hid f) b (dvd-mul_right (hid f) (suc (ones f)))))
    (fields_value f (leb (top f) b) (b % top f / hid f) (b % hid f) ((div-lt_iff_lt-mul (pow_pos (prec f - 1))).1 h))

-- ---- which patterns are infinities
fields_inf : (f : Format) (s : Bool) (x t : ℕ) → x ≡ ones f → t ≡ 0 → of_fields f s x t ≡ inf s
unfolding of_fields
fields_inf f s zero t p q = absurd (omega arith)
fields_inf f s (suc x) t p q =
    ap (λ (z : Bool). cond z (cond (eqb t 0) (inf s) nan) (odd (prec f) s (hid f + t) x (low f))) (is_true (eqb (suc x) (ones f)) (eq→eqb p))
    ∙ ap (λ (z : Bool). cond z (inf s) nan) (is_true (eqb t 0) (eq→eqb q))

bits_inf : (f : Format) (b : ℕ) → b % top f ≡ ones f * hid f → of_bits f b ≡ inf (leb (top f) b)
unfolding of_bits
bits_inf f b e =
    fields_inf f (leb (top f) b) (b % top f / hid f) (b % hid f)
    (ap (λ (i : ℕ). i / hid f) e ∙ mul-div_cancel (ones f) (pow_pos (prec f - 1)))
    (sym (mod-mod_of_dvd (hid f) b (dvd-mul_right (hid f) (suc (ones f)))) ∙ ap (λ (i : ℕ). i % hid f) e ∙ mul-mod_left (ones f) (hid f))

-- what is no NaN's is an infinity's, or that of a finite number
pub pattern : (f : Format) (b : ℕ) → T (not (is_nan (of_bits f b)))
    → ((b % top f ≡ ones f * hid f) × (of_bits f b ≡ inf (leb (top f) b))) ⊎ (b % top f < ones f * hid f)
pattern f b n = elim (eq-or-lt_of_le most) [ inl e ↦ inl (e, bits_inf f b e) | inr l ↦ inr l ]
  where
    most : b % top f ≤ ones f * hid f
    most = nltb→le (ones f * hid f) (b % top f) (subst (λ (z : Bool). T (not z)) (sym (nan_bits_is f b) ∙ nan_bits_above f b) n)

-- ---- a magnitude above zero has units, and a pattern has its sign above what is left without it
pub units_pos : (f : Format) (b : ℕ) → 0 < b → 0 < units_of f b
units_pos f b h = go (b / hid f) (b % hid f) (subst (λ (i : ℕ). 0 < i) (sym (div-add-mod' b (hid f))) h)
  where
    go : (x t : ℕ) → 0 < x * hid f + t → 0 < field_units f x t
    go zero t p = omega (arith, native.Mathlib.Nat.zero-mul (hid f))
    go (suc x) t p = mul-pos (lt_of_lt_of_le (pow_pos (prec f - 1)) (le-add_right (hid f) t)) (pow_pos x)

pub unsigned : (f : Format) (b : ℕ) → b ≡ b % top f → leb (top f) b ≡ false
unsigned f b e = is_false (leb (top f) b) (lt→nleb (top f) b (subst (λ (i : ℕ). i < top f) (sym e) (mod-lt b (mul-pos (pow_pos (prec f - 1)) (zero-lt-suc (ones f))))))

pub signed : (f : Format) (b : ℕ) → (b ≡ b % top f → ⊥) → leb (top f) b ≡ true
signed f b n = go (leb (top f) b) (nleb→lt (top f) b)
  where
    go : (z : Bool) → (T (not z) → b < top f) → z ≡ true
    go true h = refl
    go false h = absurd (n (sym (mod-eq_of_lt (h tt))))

-- ---- with a field above 0 the significand has all its digits
pub normal : (b a x : ℕ) (p : Scaled) → p.significand ≡ 2 ^ 52 + a → p.scale ≡ x + 51 → a ≡ b % 2 ^ 52 → x ≡ b / 2 ^ 52 → 0 < x → Normalised b p
normal b a x p m w e f l = record {
  leading = omega arith;
  digits = omega (arith, mod-lt b (pow_pos 52));
  least = omega arith;
  most = omega arith;
  value =
      ap₂ (λ (i j : ℕ). i * 2 ^ j) m w ∙ units x l ∙ ap (λ (i : ℕ). field_units binary64 x i * 2 ^ 52) e
      ∙ ap (λ (i : ℕ). field_units binary64 i (b % 2 ^ 52) * 2 ^ 52) f;
}
  where
    units : (i : ℕ) → 0 < i → (2 ^ 52 + a) * 2 ^ (i + 51) ≡ field_units binary64 i a * 2 ^ 52
    units zero q = absurd (omega arith)
    units (suc i) q =
        ap (λ (j : ℕ). (2 ^ 52 + a) * 2 ^ j) {x = suc i + 51} {y = i + 52} (omega arith)
        ∙ ap (λ (j : ℕ). (2 ^ 52 + a) * j) (pow-add 2 i 52) ∙ sym (mul_assoc (2 ^ 52 + a) (2 ^ i) (2 ^ 52))
