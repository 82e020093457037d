-- A number of 53 digits rounded to binary32: d of its digits are dropped, so many that 24 are left, or more where the result is subnormal.
-- Assumes nothing.
use Rattle.std.proofs.Common.{◌≡◌, ℕ, ◌+◌, ◌-◌, ◌*◌, ◌/◌, ◌%◌, ◌^◌, ◌<◌, ◌≤◌, min, Bool, true, false, cond, leb, sym, refl, ap, ◌∙◌, subst, le_trans, le_of_eq, lt_of_lt_of_le, mul-le-mul_right, mul_assoc, div-lt_iff_lt-mul, mul-lt-mul_of_pos_right, mul-pos, le-div_iff_mul-le, arith, pow_pos, pow_mono, pow-add}
use Prim.Native.Nat.{compare}
use native.Mathlib.Decide.{dec_lt}
use lib.Ieee.{Float, nan, inf, fin, binary32, binary64, hid, ones, top, units, round, of_bits, up, down}
use lib.Ieee.Exact.{HasValue}
use lib.Ieee.Fits.{nearest-le, down_pos}
use lib.Ieee.Nearest.{closest, closest_same, nearest-ge}
use lib.Ieee.Scale.{round_same}
use Rattle.number.specs.declared.parts.Scaled.{Scaled}
use Rattle.number.specs.Format.{narrow_of}
use Rattle.number.specs.Steps.Magnitude.{Narrowed, Normalised, units_of}
use Rattle.number.proofs.Fields.{bits_value, signed, unsigned}
use Rattle.number.proofs.Pack.{pack}
use Rattle.number.proofs.Rounding.{closest_zero, round_at}

-- ---- what is left of a number after the division
kept_ge : (a d p : ℕ) → 2 ^ p * 2 ^ d ≤ a → 2 ^ p ≤ closest a (2 ^ d)
kept_ge a d p h = le_trans ((le-div_iff_mul-le (pow_pos d)).1 h) (nearest-ge (a / 2 ^ d) (compare (a % 2 ^ d * 2) (2 ^ d)))

kept_le : (a d p : ℕ) → a < 2 ^ p * 2 ^ d → closest a (2 ^ d) ≤ 2 ^ p
kept_le a d p h = le_trans (nearest-le (a / 2 ^ d) (compare (a % 2 ^ d * 2) (2 ^ d))) ((div-lt_iff_lt-mul (pow_pos d)).1 h)

-- k digits of the result's 24 are above its smallest values, where d digits are dropped
module _ (m w n : ℕ) (lo : 2 ^ 52 ≤ m) (hi : m < 2 ^ 53) (v : m * 2 ^ w ≡ n * 2 ^ 52)
    (k d : ℕ) (e : w + 149 + d ≡ 1126 + k) (f : 53 + (w + 149) ≤ 24 + k + 1126) (g : 0 < k → 23 + k + 1126 ≤ 52 + (w + 149)) where
  scaled : m * 2 ^ w * 2 ^ 149 ≡ m * 2 ^ (w + 149)
  scaled = mul_assoc m (2 ^ w) (2 ^ 149) ∙ ap (λ (i : ℕ). m * i) (sym (pow-add 2 w 149))

  narrowed : (s : Bool) → round binary32 s n (2 ^ 1074) ≡ units binary32 s (closest m (2 ^ d)) k
  narrowed s =
      round_same binary32 s n (2 ^ 1074) (m * 2 ^ w) (2 ^ 1126) (pow_pos 1074) (pow_pos 1126)
      (ap (λ (i : ℕ). n * i) (pow-add 2 52 1074) ∙ sym (mul_assoc n (2 ^ 52) (2 ^ 1074)) ∙ ap (λ (i : ℕ). i * 2 ^ 1074) (sym v))
      ∙ round_at binary32 s (m * 2 ^ w) (2 ^ 1126) k (pow_pos 1126)
      (λ z. le_trans (le_of_eq (sym (pow-add 2 (23 + k) 1126))) (le_trans (pow_mono (g z)) (le_trans (le_of_eq (pow-add 2 52 (w + 149))) (le_trans (mul-le-mul_right (2 ^ (w + 149)) lo) (le_of_eq (sym scaled))))))
      (lt_of_lt_of_le (subst (λ (i : ℕ). i < 2 ^ 53 * 2 ^ (w + 149)) (sym scaled) (mul-lt-mul_of_pos_right hi (pow_pos (w + 149))))
      (le_trans (le_of_eq (sym (pow-add 2 53 (w + 149)))) (le_trans (pow_mono f) (le_of_eq (pow-add 2 (24 + k) 1126)))))
      ∙ ap (λ (i : ℕ). units binary32 s i k)
      (closest_same (m * 2 ^ w * 2 ^ 149) (2 ^ 1126 * 2 ^ k) m (2 ^ d) (mul-pos (pow_pos 1126) (pow_pos k)) (pow_pos d)
      (ap (λ (i : ℕ). i * 2 ^ d) scaled ∙ mul_assoc m (2 ^ (w + 149)) (2 ^ d)
      ∙ ap (λ (i : ℕ). m * i) (sym (pow-add 2 (w + 149) d) ∙ ap (λ (i : ℕ). 2 ^ i) e ∙ pow-add 2 1126 k)))

  -- at least the implied digit where k is above 0, and at most the carry
  kept_most : closest m (2 ^ d) ≤ 2 ^ 24
  kept_most = kept_le m d 24 (lt_of_lt_of_le hi (le_trans (pow_mono {i = 53} {j = 24 + d} (omega arith)) (le_of_eq (pow-add 2 24 d))))

  kept_least : 0 < k → 2 ^ 23 ≤ closest m (2 ^ d)
  kept_least z = let h = g z in kept_ge m d 23 (le_trans (le_of_eq (sym (pow-add 2 23 d))) (le_trans (pow_mono {i = 23 + d} {j = 52} (omega arith)) lo))

  narrow_packed : (s : Bool) → of_bits binary32 (cond s (top binary32) 0 + min (k * hid binary32 + closest m (2 ^ d)) (ones binary32 * hid binary32)) ≡ round binary32 s n (2 ^ 1074)
  narrow_packed s = pack binary32 s (closest m (2 ^ d)) k kept_most kept_least ∙ sym (narrowed s)

-- ---- the definition, by what the number is
narrow_value : (x : Float) (s : Bool) (n : ℕ) → HasValue x s n (2 ^ 1074) → narrow_of x ≡ round binary32 s n (2 ^ 1074)
unfolding narrow_of
narrow_value nan s n h = absurd h
narrow_value (inf t) s n h = absurd h
narrow_value (fin t m e) s n h =
    ap (λ (b : Bool). round binary32 b (m * up e) (down e)) h.0 ∙ round_same binary32 s (m * up e) (down e) n (2 ^ 1074) (down_pos e) (pow_pos 1074) h.1

pub narrow_nan : (x : Float) → x ≡ nan → narrow_of x ≡ nan
unfolding narrow_of
narrow_nan x e = ap narrow_of e

-- ---- patterns of magnitudes
-- the value of a finite one, once it has a sign
value : (s : Bool) (b : ℕ) → b < 2047 * 2 ^ 52 → HasValue (of_bits binary64 (cond s (2 ^ 63) 0 + b)) s (units_of binary64 b) (2 ^ 1074)
value s b h = at (cond s (2 ^ 63) 0 + b) (rest s) (is s)
  where
    rest : (s : Bool) → (cond s (2 ^ 63) 0 + b) % 2 ^ 63 ≡ b
    rest true = omega arith
    rest false = omega arith

    is : (s : Bool) → leb (2 ^ 63) (cond s (2 ^ 63) 0 + b) ≡ s
    is true = signed binary64 (2 ^ 63 + b) (λ e. omega arith)
    is false = unsigned binary64 (0 + b) (omega arith)

    at : (i : ℕ) → i % 2 ^ 63 ≡ b → leb (2 ^ 63) i ≡ s → HasValue (of_bits binary64 i) s (units_of binary64 b) (2 ^ 1074)
    at i e f =
        subst (λ (z : Bool). HasValue (of_bits binary64 i) z (units_of binary64 b) (2 ^ 1074)) f
        (subst (λ (j : ℕ). HasValue (of_bits binary64 i) (leb (2 ^ 63) i) (units_of binary64 j) (2 ^ 1074)) e (bits_value binary64 i (omega arith)))

module _ (b : ℕ) (l : b < 2047 * 2 ^ 52) (p : Scaled) (h : Normalised b p) where
  -- the packed pattern
  at : (k d r : ℕ) (e : p.scale + 149 + d ≡ 1126 + k) (f : 53 + (p.scale + 149) ≤ 24 + k + 1126) (g : 0 < k → 23 + k + 1126 ≤ 52 + (p.scale + 149))
      → (closest p.significand (2 ^ d) ≤ 2 ^ 24 → (0 < k → 2 ^ 23 ≤ closest p.significand (2 ^ d)) → r ≡ min (k * 2 ^ 23 + closest p.significand (2 ^ d)) (255 * 2 ^ 23))
      → Narrowed b r
  at k d r e f g q = record {
    most = let z = is in omega arith;
    rounded = λ s.
        ap (λ (i : ℕ). of_bits binary32 (cond s (top binary32) 0 + i)) is
        ∙ narrow_packed p.significand p.scale (units_of binary64 b) h.leading h.digits h.value k d e f g s
        ∙ sym (narrow_value _ s (units_of binary64 b) (value s b l));
  }
    where
      is : r ≡ min (k * 2 ^ 23 + closest p.significand (2 ^ d)) (255 * 2 ^ 23)
      is =
          q (kept_most p.significand p.scale (units_of binary64 b) h.leading h.digits h.value k d e f g)
          (kept_least p.significand p.scale (units_of binary64 b) h.leading h.digits h.value k d e f g)

pub narrow_zero : Narrowed 0 0
unfolding of_bits narrow_of round
narrow_zero = record {
  most = omega arith;
  rounded = λ s. elim s as (λ z. of_bits binary32 (cond z (top binary32) 0 + 0) ≡ narrow_of (of_bits binary64 (cond z (top binary64) 0 + 0))) [ true ↦ refl | false ↦ refl ];
}

pub narrow_infinite : Narrowed (2047 * 2 ^ 52) (255 * 2 ^ 23)
unfolding of_bits narrow_of round
narrow_infinite = record {
  most = omega arith;
  rounded = λ s.
      elim s as (λ z. of_bits binary32 (cond z (top binary32) 0 + 255 * 2 ^ 23) ≡ narrow_of (of_bits binary64 (cond z (top binary64) 0 + 2047 * 2 ^ 52)))
      [ true ↦ refl | false ↦ refl ];
}

-- ---- by the scale
module _ (b : ℕ) (p : Scaled) (h : Normalised b p) where
  -- below 2 ^ 128 it is no infinity's
  finite : p.scale < 1202 → b < 2047 * 2 ^ 52
  finite g = let z = h.least in omega arith

  pub narrow_too_large : b ≤ 2047 * 2 ^ 52 → 1202 ≤ p.scale → Narrowed b (255 * 2 ^ 23)
  narrow_too_large u g = elim (dec_lt b (2047 * 2 ^ 52)) [
    | yes l ↦ at b l p h (p.scale - 948) 29 (255 * 2 ^ 23) (omega arith) (omega arith) (λ z. omega arith) (λ hi lo. let z = lo (omega arith) in omega arith)
    | no n ↦ subst (λ (i : ℕ). Narrowed i (255 * 2 ^ 23)) {x = 2047 * 2 ^ 52} {y = b} (omega arith) narrow_infinite
  ]

  -- the exponent's field is shifted to its place
  pub narrow_normal : 948 ≤ p.scale → p.scale < 1202 → (q : ℕ) → q ≡ closest p.significand (2 ^ 29) → Narrowed b ((p.scale - 948) * 2 ^ 23 % 2 ^ 64 + q)
  narrow_normal m g q e = at b (finite g) p h (p.scale - 948) 29 _ (omega arith) (omega arith) (λ z. omega arith) (λ hi lo. omega arith)

  pub narrow_subnormal : p.scale < 948 → (r : ℕ) → r ≡ closest p.significand (2 ^ (977 - p.scale)) → Narrowed b r
  narrow_subnormal g r e = at b (finite (omega arith)) p h 0 (977 - p.scale) r (omega arith) (omega arith) (λ z. absurd (omega arith)) (λ hi lo. omega arith)

  pub narrow_nothing : p.scale < 914 → Narrowed b 0
  narrow_nothing g =
      narrow_subnormal (omega arith) 0
      (sym (closest_zero p.significand (2 ^ (977 - p.scale)) (lt_of_lt_of_le twice (pow_mono {i = 54} {j = 977 - p.scale} (omega arith)))))
    where
      twice : p.significand * 2 < 2 ^ 54
      twice = let z = h.digits in omega arith
