-- The grid's coordinate of a number, by how many smallest values it is: the rounding sees only the value of its fraction.
-- A number from 2 ^ 17 on is off the grid, and one below a half is 0. Assumes nothing.
use Rattle.std.proofs.Common.{◌≡◌, ℕ, zero, suc, ◌+◌, ◌*◌, ◌/◌, ◌%◌, ◌^◌, ◌<◌, ◌≤◌, Bool, true, false, cond, not, T, ltb, leb, ℤ, pos, sym, refl, ap, ◌∙◌, subst, le_trans, le_of_eq, lt_of_lt_of_le, le-add_right, lt_of_le_of_lt, mul-le-mul_right, mod-lt, mul_assoc, div-lt_iff_lt-mul, mul-le-mul, le_antisymm, mul-lt-mul_of_pos_right, lt_of_not-le, le-div_iff_mul-le, not-le_of_lt, le_of_mul-le-mul_right, add-one, arith, ltb→lt, leb→le, nltb→le, pow_pos, pow_mono, pow-add, None, Option, Some}
use native.Mathlib.Nat.{eq_of_mul-eq-mul_right}
use lib.Dec.{nleb→lt}
use lib.Ieee.{Float, nan, inf, fin, binary64, up, down, nearest}
use lib.Ieee.Exact.{HasValue}
use lib.Ieee.Fits.{down_pos}
use lib.Ieee.Nearest.{closest, closest_same}
use Rattle.number.specs.Limits.{grid_limit}
use Rattle.number.specs.Steps.Magnitude.{field_units, units_of}
use Rattle.number.specs.Grid.{signed, whole_nearest, placed}
use Rattle.number.proofs.Rounding.{compare_lt, compare_gt, compare_eq, near, closest_zero}

-- ---- equal fractions round alike; what is large rounds to something large, and less than a half to 0
-- the rule is that of the format's rounding, so that its laws hold here
pub whole_closest : (a b : ℕ) → whole_nearest a b ≡ closest a b
whole_closest a b = go (ltb (a % b * 2) b) (ltb b (a % b * 2)) (ltb→lt (a % b * 2) b) (nltb→le (a % b * 2) b) (ltb→lt b (a % b * 2)) (nltb→le b (a % b * 2))
  where
    q : ℕ
    q = a / b

    go : (l g : Bool) → (T l → a % b * 2 < b) → (T (not l) → b ≤ a % b * 2) → (T g → b < a % b * 2) → (T (not g) → a % b * 2 ≤ b)
        → cond l q (cond g (q + 1) (q + q % 2)) ≡ closest a b
    go true g h i j k = sym (ap (nearest q) (compare_lt (a % b * 2) b (h tt)))
    go false true h i j k = add-one q ∙ sym (ap (nearest q) (compare_gt (a % b * 2) b (j tt)))
    go false false h i j k = sym (ap (nearest q) (compare_eq (a % b * 2) b (le_antisymm (k tt) (i tt))))

pub whole_same : (a b c d : ℕ) → 0 < b → 0 < d → a * d ≡ c * b → whole_nearest a b ≡ whole_nearest c d
whole_same a b c d B D e = whole_closest a b ∙ closest_same a b c d B D e ∙ sym (whole_closest c d)

-- it is within a half
pub whole_near : (a b : ℕ) → 0 < b → (2 * a ≤ 2 * (whole_nearest a b * b) + b) × (2 * (whole_nearest a b * b) ≤ 2 * a + b)
whole_near a b B = subst (λ (n : ℕ). (2 * a ≤ 2 * (n * b) + b) × (2 * (n * b) ≤ 2 * a + b)) (sym (whole_closest a b)) (near a b B)

pub whole_ge : (k a b : ℕ) → 0 < b → k * b ≤ a → k ≤ whole_nearest a b
whole_ge k a b B h = halved (whole_nearest a b) (whole_near a b B).0
  where
    halved : (n : ℕ) → 2 * a ≤ 2 * (n * b) + b → k ≤ n
    halved n l =
        let twice : 2 * k * b ≤ (2 * n + 1) * b = omega arith in
        let z = le_of_mul-le-mul_right twice B in omega arith

pub whole_zero : (a b : ℕ) → 0 < b → 2 * a < b → whole_nearest a b ≡ 0
whole_zero a b B h = whole_closest a b ∙ closest_zero a b (omega arith)

-- ---- the coordinate
abbrev pub coordinate : Bool → ℕ → Option ℤ
coordinate s n = cond (leb n grid_limit) (Some (signed s n)) None

pub placed_value : (x : Float) (s : Bool) (n : ℕ) → HasValue x s n (2 ^ 1074) → placed x ≡ coordinate s (whole_nearest n (2 ^ 1074))
unfolding placed
placed_value nan s n h = absurd h
placed_value (inf t) s n h = absurd h
placed_value (fin t m e) s n h =
    ap (λ (b : Bool). coordinate b (whole_nearest (m * up e) (down e))) h.0
    ∙ ap (coordinate s) (whole_same (m * up e) (down e) n (2 ^ 1074) (down_pos e) (pow_pos 1074) h.1)

pub placed_nan : (x : Float) → x ≡ nan → None ≡ placed x
unfolding placed
placed_nan x e = sym (ap placed e)

pub placed_inf : (x : Float) (s : Bool) → x ≡ inf s → None ≡ placed x
unfolding placed
placed_inf x s e = sym (ap placed e)

pub off : (s : Bool) (n : ℕ) → grid_limit < n → None ≡ coordinate s n
off s n h = go (leb n grid_limit) (leb→le n grid_limit)
  where
    go : (b : Bool) → (T b → n ≤ grid_limit) → None ≡ cond b (Some (signed s n)) None
    go true l = absurd (let z = l tt in omega arith)
    go false l = refl

pub on : (s : Bool) (n : ℕ) → n ≤ grid_limit → Some (signed s n) ≡ coordinate s n
on s n h = go (leb n grid_limit) (nleb→lt n grid_limit)
  where
    go : (b : Bool) → (T (not b) → grid_limit < n) → Some (signed s n) ≡ cond b (Some (signed s n)) None
    go true l = refl
    go false l = absurd (let z = l tt in omega arith)

pub zero_on : (s : Bool) → Some (pos 0) ≡ coordinate s 0
zero_on true = refl
zero_on false = refl

-- ---- smallest values, by the exponent's field: from a field of k + 1 on there are 2 ^ (52 + k), and below it fewer
pub units_ge : (b k : ℕ) → suc k * 2 ^ 52 ≤ b → 2 ^ (52 + k) ≤ units_of binary64 b
units_ge b k h = go (b / 2 ^ 52) (b % 2 ^ 52) ((le-div_iff_mul-le (pow_pos 52)).1 h)
  where
    go : (x t : ℕ) → suc k ≤ x → 2 ^ (52 + k) ≤ field_units binary64 x t
    go zero t l = absurd (omega arith)
    go (suc x) t l = le_trans (le_of_eq (pow-add 2 52 k)) (mul-le-mul (le-add_right (2 ^ 52) t) (pow_mono {i = k} {j = x} (omega arith)))

pub units_lt : (b k : ℕ) → b < suc k * 2 ^ 52 → units_of binary64 b < 2 ^ (52 + k)
units_lt b k h = go (b / 2 ^ 52) (b % 2 ^ 52) (mod-lt b (pow_pos 52)) ((div-lt_iff_lt-mul (pow_pos 52)).1 h)
  where
    below : (t : ℕ) → t < 2 ^ 52 → 2 ^ 52 + t < 2 ^ 53
    below t m = omega arith

    go : (x t : ℕ) → t < 2 ^ 52 → x < suc k → field_units binary64 x t < 2 ^ (52 + k)
    go zero t m l = lt_of_lt_of_le m (pow_mono {i = 52} {j = 52 + k} (omega arith))
    go (suc x) t m l =
        lt_of_lt_of_le (mul-lt-mul_of_pos_right (below t m) (pow_pos x))
        (le_trans (le_of_eq (sym (pow-add 2 53 x))) (pow_mono {i = 53 + x} {j = 52 + k} (omega arith)))

-- ---- the scale of a number from a half to below 2 ^ 17
module _ (m w n : ℕ) (lo : 2 ^ 52 ≤ m) (hi : m < 2 ^ 53) (v : m * 2 ^ w ≡ n * 2 ^ 52) where
  pow_lt_back : (i j : ℕ) → 2 ^ i < 2 ^ j → i < j
  pow_lt_back i j h = lt_of_not-le (λ (g : j ≤ i). not-le_of_lt h (pow_mono g))

  pub scale_ge : (k : ℕ) → 2 ^ k ≤ n → k ≤ w
  scale_ge k h = cut k w (pow_lt_back (k + 52) (53 + w)
      (lt_of_le_of_lt (le_trans (le_of_eq (pow-add 2 k 52)) (le_trans (mul-le-mul_right (2 ^ 52) h) (le_of_eq (sym v))))
      (lt_of_lt_of_le (mul-lt-mul_of_pos_right hi (pow_pos w)) (le_of_eq (sym (pow-add 2 53 w))))))
    where
      cut : (i j : ℕ) → i + 52 < 53 + j → i ≤ j
      cut i j h = omega arith

  pub scale_lt : (k : ℕ) → n < 2 ^ k → w < k
  scale_lt k h = cut w k (pow_lt_back (52 + w) (k + 52)
      (lt_of_le_of_lt (le_trans (le_of_eq (pow-add 2 52 w)) (le_trans (mul-le-mul_right (2 ^ w) lo) (le_of_eq v)))
      (lt_of_lt_of_le (mul-lt-mul_of_pos_right h (pow_pos 52)) (le_of_eq (sym (pow-add 2 k 52))))))
    where
      cut : (i j : ℕ) → 52 + i < j + 52 → i < j
      cut i j h = omega arith

  pub same_fraction : (d : ℕ) → w + d ≡ 1126 → closest m (2 ^ d) ≡ whole_nearest n (2 ^ 1074)
  same_fraction d e = sym (whole_closest m (2 ^ d)) ∙ whole_same m (2 ^ d) n (2 ^ 1074) (pow_pos d) (pow_pos 1074)
      (eq_of_mul-eq-mul_right (2 ^ 52) (pow_pos 52) (m * 2 ^ 1074) (n * 2 ^ d)
      (mul_assoc m (2 ^ 1074) (2 ^ 52) ∙ ap (λ (i : ℕ). m * i) (sym (pow-add 2 1074 52) ∙ ap (λ (i : ℕ). 2 ^ i) (sym e) ∙ pow-add 2 w d) ∙ sym (mul_assoc m (2 ^ w) (2 ^ d))
      ∙ ap (λ (i : ℕ). i * 2 ^ d) v ∙ swap n (2 ^ 52) (2 ^ d)))
    where
      swap : (a b c : ℕ) → a * b * c ≡ a * c * b
      swap a b c = omega arith
