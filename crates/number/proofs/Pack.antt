-- A significand q and a count k of dropped digits, put together as k * hid + q, are the bits of the value that `units` makes of them:
-- a significand that rounded up to 2 ^ prec carries into the exponent's field, and what is too large is infinity's pattern.
-- By reading the value's own bits (`to_bits`) and `of_bits-to_bits`. Assumes nothing.
use Rattle.std.proofs.Common.{◌≡◌, ℕ, zero, suc, ◌+◌, ◌-◌, ◌*◌, ◌/◌, ◌^◌, ◌<◌, ◌≤◌, min, Bool, true, false, cond, T, ltb, sym, refl, ap, ◌∙◌, subst, inl, inr, le_trans, le_of_eq, le_refl, lt_of_lt_of_le, lt_of_le_of_lt, mul-le-mul_right, mul-le-mul, lt_of_mul-lt-mul_right, eq-or-lt_of_le, lt_of_not-le, mul-one, not-le_of_lt, le_of_mul-le-mul_right, div-one, mul-div_cancel, arith, lit<, ltb→lt, pow_pos, pow_mono, pow-add, shl_lt}
use native.Mathlib.Nat.{pow-succ', mul-lt-mul_of_pos_left}
use native.Mathlib.Decide.{dec_lt}
use lib.Pow.{pow-lt, shl-shr}
use lib.Ieee.{Float, nan, inf, fin, Format, binary32, binary64, prec, emax, low, down, size, odd, units, fits, is_nan, hid, ones, top, of_bits, to_bits}
use lib.Ieee.Digits.{size-lt, size-le}
use lib.Ieee.Fits.{down_pos, odd-fits, inf-fits}
use lib.Ieee.Exact.{HasValue, units_val}
use lib.Ieee.Bits.{of_bits-to_bits}

-- ---- how many digits a number has
size_gt : (n j : ℕ) → 2 ^ j ≤ n → j < size n
size_gt n j h = lt_of_not-le (λ (g : size n ≤ j). not-le_of_lt (lt_of_lt_of_le (size-lt n) (pow_mono g)) h)

pub size_is : (n j : ℕ) → 2 ^ j ≤ n → n < 2 ^ suc j → size n ≡ suc j
size_is n j h k = same (size n) (size_gt n j h) (size-le n (suc j) k)
  where
    same : (z : ℕ) → j < z → z ≤ suc j → z ≡ suc j
    same z a b = omega arith

-- ---- the bits of a value of n units
pub value_bits : (f : Format) (v : Float) (s : Bool) (n : ℕ) → HasValue v s n (2 ^ low f)
    → to_bits f v ≡ cond s (top f) 0 + (size n - prec f) * hid f + n / 2 ^ (size n - prec f)
unfolding to_bits
value_bits f nan s n h = absurd h
value_bits f (inf t) s n h = absurd h
value_bits f (fin t m e) s n h =
    ap (λ (i : ℕ). bits_at t i) (ap (λ (i : ℕ). i / down e) h.1 ∙ mul-div_cancel n (down_pos e)) ∙ ap (λ (b : Bool). bits_at b n) h.0
  where
    bits_at : Bool → ℕ → ℕ
    bits_at b i = cond b (top f) 0 + (size i - prec f) * hid f + i / 2 ^ (size i - prec f)

-- ---- q * 2 ^ k units, q of at most p + 1 digits, and of p or p + 1 where k digits were dropped: the fields are k * hid + q, a carry included
module _ (p : ℕ) (P : 0 < p) where
  twice : 2 ^ p ≡ 2 * 2 ^ (p - 1)
  twice = ap (λ (i : ℕ). 2 ^ i) (whole p P) ∙ pow-succ' 2 (p - 1)
    where
      whole : (i : ℕ) → 0 < i → i ≡ suc (i - 1)
      whole i h = omega arith

  abbrev fields_at : ℕ → ℕ → ℕ
  fields_at n z = (z - p) * 2 ^ (p - 1) + n / 2 ^ (z - p)

  few : (q : ℕ) → q < 2 ^ (p - 1) → fields_at (q * 1) (size (q * 1)) ≡ 0 * 2 ^ (p - 1) + q
  few q h =
      ap (λ (i : ℕ). fields_at i (size i)) (mul-one q)
      ∙ ap (λ (i : ℕ). i * 2 ^ (p - 1) + q / 2 ^ i) (none (size q) (size-le q (p - 1) h))
      ∙ ap (λ (i : ℕ). 0 * 2 ^ (p - 1) + i) (div-one q)
    where
      none : (z : ℕ) → z ≤ p - 1 → z - p ≡ 0
      none z g = omega arith

  full : (q k : ℕ) → 2 ^ (p - 1) ≤ q → q < 2 ^ p → fields_at (q * 2 ^ k) (size (q * 2 ^ k)) ≡ k * 2 ^ (p - 1) + q
  full q k a b =
      ap (λ (i : ℕ). i * 2 ^ (p - 1) + q * 2 ^ k / 2 ^ i) (left (size (q * 2 ^ k)) digits) ∙ ap (λ (i : ℕ). k * 2 ^ (p - 1) + i) (shl-shr q k)
    where
      digits : size (q * 2 ^ k) ≡ suc (p - 1 + k)
      digits = size_is (q * 2 ^ k) (p - 1 + k) (le_trans (le_of_eq (pow-add 2 (p - 1) k)) (mul-le-mul_right (2 ^ k) a))
          (lt_of_lt_of_le (shl_lt p k b) (le_of_eq (ap (λ (i : ℕ). 2 ^ i) (next p k P))))
        where
          next : (i j : ℕ) → 0 < i → i + j ≡ suc (i - 1 + j)
          next i j h = omega arith

      left : (z : ℕ) → z ≡ suc (p - 1 + k) → z - p ≡ k
      left z e = omega arith

  carried : (k : ℕ) → fields_at (2 ^ p * 2 ^ k) (size (2 ^ p * 2 ^ k)) ≡ k * 2 ^ (p - 1) + 2 ^ p
  carried k =
      ap (λ (i : ℕ). i * 2 ^ (p - 1) + 2 ^ p * 2 ^ k / 2 ^ i) (left (size (2 ^ p * 2 ^ k)) digits)
      ∙ ap (λ (i : ℕ). suc k * 2 ^ (p - 1) + i / 2 ^ suc k) moved
      ∙ ap (λ (i : ℕ). suc k * 2 ^ (p - 1) + i) (shl-shr (2 ^ (p - 1)) (suc k))
      ∙ regroup k (2 ^ (p - 1)) (2 ^ p) twice
    where
      digits : size (2 ^ p * 2 ^ k) ≡ suc (p + k)
      digits = size_is (2 ^ p * 2 ^ k) (p + k) (le_of_eq (pow-add 2 p k)) (lt_of_le_of_lt (le_of_eq (sym (pow-add 2 p k))) (pow-lt (le_refl (suc (p + k)))))

      left : (z : ℕ) → z ≡ suc (p + k) → z - p ≡ suc k
      left z e = omega arith

      moved : 2 ^ p * 2 ^ k ≡ 2 ^ (p - 1) * 2 ^ suc k
      moved = rw (twice, pow-succ' 2 k) (swap (2 ^ (p - 1)) (2 ^ k))
        where
          swap : (a b : ℕ) → 2 * a * b ≡ a * (2 * b)
          swap a b = omega arith

      regroup : (i h t : ℕ) → t ≡ 2 * h → suc i * h + h ≡ i * h + t
      regroup i h t e = omega arith

  pub packed : (q k : ℕ) → q ≤ 2 ^ p → (0 < k → 2 ^ (p - 1) ≤ q) → fields_at (q * 2 ^ k) (size (q * 2 ^ k)) ≡ k * 2 ^ (p - 1) + q
  packed q k a b = elim (eq-or-lt_of_le a) [
    | inl e ↦ subst (λ (i : ℕ). fields_at (i * 2 ^ k) (size (i * 2 ^ k)) ≡ k * 2 ^ (p - 1) + i) (sym e) (carried k)
    | inr l ↦ elim (dec_lt q (2 ^ (p - 1))) [
      | yes s ↦ none k s b
      | no n ↦ full q k (below n) l
    ]
  ]
    where
      below : (q < 2 ^ (p - 1) → ⊥) → 2 ^ (p - 1) ≤ q
      below n = elim (dec_lt q (2 ^ (p - 1))) [ yes s ↦ absurd (n s) | no m ↦ omega arith ]

      none : (i : ℕ) → q < 2 ^ (p - 1) → (0 < i → 2 ^ (p - 1) ≤ q) → fields_at (q * 2 ^ i) (size (q * 2 ^ i)) ≡ i * 2 ^ (p - 1) + q
      none zero s h = few q s
      none (suc i) s h = absurd (not-le_of_lt s (h (omega arith)))

-- ---- what is too large is infinity, and its bits are infinity's: for h the weight of the exponent's field and E the format's largest exponent
module _ (h E q k : ℕ) (H : 0 < h) (E0 : 0 < E) (a : q ≤ 2 * h) (b : 0 < k → h ≤ q) where
  doubled : suc k ≡ 2 * E → h * 2 ^ (2 * E) ≡ 2 * h * 2 ^ k
  doubled e = ap (λ (i : ℕ). h * 2 ^ i) (sym e) ∙ ap (λ (i : ℕ). h * i) (pow-succ' 2 k) ∙ swap h (2 ^ k)
    where
      swap : (i j : ℕ) → i * (2 * j) ≡ 2 * i * j
      swap i j = omega arith

  at_last : suc k ≡ 2 * E → (2 * E + 1) * h ≡ k * h + 2 * h
  at_last e = ap (λ (i : ℕ). (i + 1) * h) (sym e) ∙ omega arith

  finite_bits : q * 2 ^ k < h * 2 ^ (2 * E) → k * h + q < (2 * E + 1) * h
  finite_bits l = elim (dec_lt (suc k) (2 * E)) [
    | yes s ↦ let m : suc (suc k) * h ≤ 2 * E * h = mul-le-mul_right h s in omega arith
    | no n ↦ elim (dec_lt k (2 * E)) [
      | yes s ↦ let e : suc k ≡ 2 * E = omega arith in
          let z : q < 2 * h = lt_of_mul-lt-mul_right (2 ^ k) (lt_of_lt_of_le l (le_of_eq (doubled e))) in
          omega (arith, at_last e)
      | no m ↦ absurd (not-le_of_lt l (mul-le-mul (b (omega arith)) (pow_mono {i = 2 * E} {j = k} (omega arith))))
    ]
  ]

  infinite_bits : h * 2 ^ (2 * E) ≤ q * 2 ^ k → (2 * E + 1) * h ≤ k * h + q
  infinite_bits g = elim (dec_lt (suc k) (2 * E)) [
    | yes s ↦ absurd (not-le_of_lt (lt_of_le_of_lt (mul-le-mul_right (2 ^ k) a) (small s)) g)
    | no n ↦ elim (dec_lt k (2 * E)) [
      | yes s ↦ let e : suc k ≡ 2 * E = omega arith in
          let z : 2 * h ≤ q = le_of_mul-le-mul_right (le_trans (le_of_eq (sym (doubled e))) g) (pow_pos k) in
          omega (arith, at_last e)
      | no m ↦ let c : 2 * E * h ≤ k * h = mul-le-mul_right h (omega arith) in let z = b (omega arith) in omega arith
    ]
  ]
    where
      small : suc k < 2 * E → 2 * h * 2 ^ k < h * 2 ^ (2 * E)
      small s = lt_of_le_of_lt (le_of_eq (swap h (2 ^ k) ∙ ap (λ (i : ℕ). h * i) (sym (pow-succ' 2 k)))) (mul-lt-mul_of_pos_left (pow-lt s) H)
        where
          swap : (i j : ℕ) → 2 * i * j ≡ i * (2 * j)
          swap i j = omega arith

-- ---- the value of q * 2 ^ k units has the bits k * hid + q, and infinity's from those on
units_fits : (f : Format) (s : Bool) (q k : ℕ) → q ≤ 2 ^ prec f → T (fits f (units f s q k))
unfolding units
units_fits f s q k a = go (ltb (q * 2 ^ k) (2 ^ (low f + suc (emax f)))) (ltb→lt (q * 2 ^ k) (2 ^ (low f + suc (emax f))))
  where
    go : (b : Bool) → (T b → q * 2 ^ k < 2 ^ (low f + suc (emax f))) → T (fits f (cond b (odd (suc (prec f)) s q k (low f)) (inf s)))
    go true h = odd-fits f (suc (prec f)) s q k (lt_of_le_of_lt a (pow-lt (le_refl (suc (prec f))))) a (h tt)
    go false h = inf-fits f s

units_inf : (f : Format) (s : Bool) (q k : ℕ) → 2 ^ (low f + suc (emax f)) ≤ q * 2 ^ k → units f s q k ≡ inf s
unfolding units
units_inf f s q k h = go (ltb (q * 2 ^ k) (2 ^ (low f + suc (emax f)))) (ltb→lt (q * 2 ^ k) (2 ^ (low f + suc (emax f))))
  where
    go : (b : Bool) → (T b → q * 2 ^ k < 2 ^ (low f + suc (emax f))) → cond b (odd (suc (prec f)) s q k (low f)) (inf s) ≡ inf s
    go true l = absurd (not-le_of_lt (l tt) h)
    go false l = refl

inf_bits : (f : Format) (s : Bool) → to_bits f (inf s) ≡ cond s (top f) 0 + ones f * hid f
unfolding to_bits
inf_bits f s = refl

-- 2 ^ (emax + 1) in smallest values
limit : (f : Format) → 2 ^ (low f + suc (emax f)) ≡ hid f * 2 ^ (2 * emax f)
limit binary32 = refl
limit binary64 = refl

field_pos : (f : Format) → (0 < prec f) × (0 < emax f) × (2 ^ prec f ≡ 2 * hid f)
field_pos binary32 = (lit< tt, lit< tt, refl)
field_pos binary64 = (lit< tt, lit< tt, refl)

module _ (f : Format) (s : Bool) (q k : ℕ) (a : q ≤ 2 ^ prec f) (b : 0 < k → hid f ≤ q) where
  a' : q ≤ 2 * hid f
  a' = le_trans a (le_of_eq (field_pos f).2)

  units_bits : to_bits f (units f s q k) ≡ cond s (top f) 0 + min (k * hid f + q) (ones f * hid f)
  units_bits = elim (dec_lt (q * 2 ^ k) (2 ^ (low f + suc (emax f)))) [
    | yes l ↦
        value_bits f (units f s q k) s (q * 2 ^ k) (units_val f s q k l)
        ∙ sum (cond s (top f) 0) _ _
        ∙ ap (λ (i : ℕ). cond s (top f) 0 + i) (packed (prec f) (field_pos f).0 q k a b ∙ sym (least (k * hid f + q) (ones f * hid f) (fine l)))
    | no n ↦
        ap (to_bits f) (units_inf f s q k (large n)) ∙ inf_bits f s ∙ ap (λ (i : ℕ). cond s (top f) 0 + i) (sym (most (k * hid f + q) (ones f * hid f) (big (large n))))
  ]
    where
      sum : (x y z : ℕ) → x + y + z ≡ x + (y + z)
      sum x y z = omega arith

      least : (x y : ℕ) → x < y → min x y ≡ x
      least x y h = omega arith

      most : (x y : ℕ) → y ≤ x → min x y ≡ y
      most x y h = omega arith

      large : (q * 2 ^ k < 2 ^ (low f + suc (emax f)) → ⊥) → 2 ^ (low f + suc (emax f)) ≤ q * 2 ^ k
      large n = omega arith

      fine : q * 2 ^ k < 2 ^ (low f + suc (emax f)) → k * hid f + q < ones f * hid f
      fine l = finite_bits (hid f) (emax f) q k (pow_pos (prec f - 1)) (field_pos f).1 a' b (lt_of_lt_of_le l (le_of_eq (limit f)))

      big : 2 ^ (low f + suc (emax f)) ≤ q * 2 ^ k → ones f * hid f ≤ k * hid f + q
      big g = infinite_bits (hid f) (emax f) q k (pow_pos (prec f - 1)) (field_pos f).1 a' b (le_trans (le_of_eq (sym (limit f))) g)

  pub pack : of_bits f (cond s (top f) 0 + min (k * hid f + q) (ones f * hid f)) ≡ units f s q k
  pack = ap (of_bits f) (sym units_bits) ∙ of_bits-to_bits f (units f s q k) (units_fits f s q k a)

-- no value is a NaN's pattern
pub units_number : (f : Format) (s : Bool) (q k : ℕ) → is_nan (units f s q k) ≡ false
unfolding units is_nan odd
units_number f s q k = go (ltb (q * 2 ^ k) (2 ^ (low f + suc (emax f)))) q
  where
    go : (b : Bool) (i : ℕ) → is_nan (cond b (odd (suc (prec f)) s i k (low f)) (inf s)) ≡ false
    go true zero = refl
    go true (suc i) = refl
    go false i = refl
