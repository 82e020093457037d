-- The quotient of two whole floats, where it lies from 0 to 1, is their fraction rounded to a binary64, and two different
-- fractions stay in strict order if the product of their denominators is below 2 ^ 52.
-- The idea: such fractions differ by more than 2 ^ -52, and each of the two roundings errs by at most 2 ^ -53.
use mathlib.Core.Path.{◌≡◌, sym, subst}
use mathlib.Core.Logic.{◌↔◌}
use Prim.Native.Nat.{ℕ, ◌+◌, ◌-◌, ◌*◌, ◌/◌, ◌^◌, ◌≤◌, ◌<◌}
use native.Mathlib.Nat.{add-zero, mul-one, zero-mul, one-mul, mul_comm, mul-pos, div-lt_iff_lt-mul}
use native.Mathlib.Nat.{le_trans, le_of_eq, le_antisymm, lt_of_le_of_lt, lt_of_not-le, not-le_of_lt}
use native.Mathlib.Nat.{mul-le-mul_right, mul-le-mul_left, mul-lt-mul_of_pos_right, le_of_mul-le-mul_right}
use native.Mathlib.Omega.{arith}
use mathlib.Core.Bool.{Bool, true, false}
use lib.Dec.{T, lit<, lit≤}
use lib.IntN.{pos}
use lib.Pow.{pow_pos, pow_mono}
use lib.Ieee.{Float, binary64, size, unlike, round, lt, le}
use lib.Ieee.Digits.{size-le}
use lib.Ieee.Exact.{HasValue}
use lib.Ieee.Back.{round_whole}
use lib.Ieee.Order.{drop, kept, round_mono}
use lib.Ieee.Scale.{grid, overflow, round_val, round_same}
use Rattle.number.specs.Arithmetic.{◌⊘◌, min_of, max_of}
use Rattle.number.specs.Grid.{signed}
use Rattle.farmgrid.specs.Whole.{Whole}
use Rattle.whole.proofs.Integer.{of_pos, of_neg, eq_of}
use Rattle.number.proofs.Rounding.{near}
use Rattle.farmgrid.proofs.Numbers.Value.{At, at_of, at_scale}
use Rattle.farmgrid.proofs.Numbers.Compare.{lt_at, le_at, at_one, min_at, max_at}
use Rattle.farmgrid.proofs.Numbers.Exact.{whole_at_lem, abs_signed, from_value, to_value, div_value}

-- ---- a / b, at most 1, in units of 2 ^ -1074: 1 is `full` units, neighbours are at most `spacing` apart,
-- and so the rounded number is within half of `spacing` of a / b
abbrev full : ℕ
full = 2 ^ 1074

abbrev spacing : ℕ
spacing = 2 ^ 1022

-- a / b rounded, in units
abbrev pub units : ℕ → ℕ → ℕ
units a b = grid binary64 a b

module _ (a b : ℕ) (B : 0 < b) (h : a ≤ b) where
  whole_part_lem : (u v : ℕ) → u < v → a * u / b < v
  whole_part_lem u v l =
      let i = le_trans (mul-le-mul_right u h) (le_of_eq (mul_comm b u)) in
      (div-lt_iff_lt-mul B).1 (lt_of_le_of_lt i (mul-lt-mul_of_pos_right l B))

  unit_le : 2 ^ drop 53 (a * full) b ≤ spacing
  unit_le = pow_mono (few (size (a * full / b)) (size-le (a * full / b) 1075 (whole_part_lem full (2 ^ 1075) (lit< tt))))
    where
      few : (z : ℕ) → z ≤ 1075 → z - 53 ≤ 1022
      few z h = omega arith

  error : (2 * (a * full) ≤ 2 * (units a b * b) + b * spacing) × (2 * (units a b * b) ≤ 2 * (a * full) + b * spacing)
  error =
      let n = a * full in
      let k = drop 53 n b in
      widen (kept 53 n b) (2 ^ k) n spacing (near n (b * 2 ^ k) (mul-pos B (pow_pos k))) unit_le
    where
      widen : (k u n l : ℕ) → (2 * n ≤ 2 * (k * (b * u)) + b * u) × (2 * (k * (b * u)) ≤ 2 * n + b * u) → u ≤ l
          → (2 * n ≤ 2 * (k * u * b) + b * l) × (2 * (k * u * b) ≤ 2 * n + b * l)
      widen k u n l e g = let m : b * u ≤ b * l = mul-le-mul_left b g in omega arith

-- where 1 is l * 2 ^ 52 units, an error of half of l to either side does not close the gap between a / b < c / d
gap : (a b c d i j l : ℕ) → 0 < l → b * d < 2 ^ 52 → a * d < c * b
    → 2 * (i * b) ≤ 2 * (a * (l * 2 ^ 52)) + b * l → 2 * (c * (l * 2 ^ 52)) ≤ 2 * (j * d) + d * l → i < j
gap a b c d i j l l0 w h e f = lt_of_not-le (λ (n : j ≤ i).
    let x = mul-le-mul_right d e in
    let y = mul-le-mul_right b f in
    let z = mul-le-mul_right (b * d) n in
    let u = mul-le-mul_right l h in
    let v = mul-lt-mul_of_pos_right w l0 in
    omega arith)

-- a fraction of at most 1 does not overflow
under : (a b i l v : ℕ) → 0 < b → a ≤ b → 2 * (i * b) ≤ 2 * (a * (l * 2 ^ 52)) + b * l → l * (2 ^ 52 + 1) < v → i < v
under a b i l v B h e n = lt_of_not-le (λ (m : v ≤ i).
    let x = mul-le-mul_right (l * 2 ^ 52) h in
    let y = mul-le-mul_right b m in
    let z = mul-lt-mul_of_pos_right n B in
    omega arith)

-- ---- x is the fraction a / b, from 0 to 1, rounded; either zero where a is 0
pub record Frac (x : Float) (a b : ℕ) : Type 0 where
  pub bottom : 0 < b
  pub proper : a ≤ b
  pub is : At x (units a b) 0 full

pub round_frac : (a b : ℕ) → 0 < b → a ≤ b → Frac (round binary64 false a b) a b
round_frac a b B h =
    let w = under a b (units a b) spacing (overflow binary64) B h (error a b B h).1 (lit< tt) in
    record { bottom = B; proper = h; is = at_of false (units a b) (round_val binary64 a b w) (add-zero (units a b)) }

-- ---- the order of two rounded fractions
not_lt : {i j : ℕ} → ¬ (j < i) → i ≤ j
not_lt f = omega arith

full_pos : 0 < full
full_pos = pow_pos 1074

module _ {x y : Float} {a b c d : ℕ} (g : Frac x a b) (h : Frac y c d) where
  le_units : T (le x y) ↔ (units a b ≤ units c d)
  le_units = simp add-zero at (le_at full_pos g.is h.is)

  lt_units : T (lt x y) ↔ (units a b < units c d)
  lt_units = simp add-zero at (lt_at full_pos g.is h.is)

-- rounding keeps the order, and with small denominators the strict order
module _ {a b c d : ℕ} (B : 0 < b) (D : 0 < d) (h : a ≤ b) (k : c ≤ d) where
  order : a * d ≤ c * b → units a b ≤ units c d
  order l = (le_units (round_frac a b B h) (round_frac c d D k)).0 (round_mono binary64 a b c d B D l)

  strict : b * d < 2 ^ 52 → a * d < c * b → units a b < units c d
  strict w l = gap a b c d (units a b) (units c d) spacing (pow_pos 1022) w l (error a b B h).1 (error c d D k).0

-- a rounded fraction is that of every fraction of the same value
pub frac_same : {y : Float} {a b c d : ℕ} → Frac y c d → 0 < b → a ≤ b → a * d ≡ c * b → Frac y a b
frac_same {y} {a} {b} {c} {d} g B h e = record {
  bottom = B;
  proper = h;
  is = subst (λ (i : ℕ). At y i 0 full)
      (le_antisymm (order g.bottom B g.proper h (le_of_eq (sym e))) (order B g.bottom h g.proper (le_of_eq e))) g.is;
}

-- two rounded fractions with small denominators compare as the fractions do
module _ {x y : Float} {a b c d : ℕ} (g : Frac x a b) (h : Frac y c d) (w : b * d < 2 ^ 52) where
  pub lt_frac : T (lt x y) ↔ (a * d < c * b)
  lt_frac = (
    λ t. lt_of_not-le (λ n. not-le_of_lt ((lt_units g h).0 t) (order h.bottom g.bottom h.proper g.proper n)),
    λ t. (lt_units g h).1 (strict g.bottom h.bottom g.proper h.proper w t),
  )

  pub le_frac : T (le x y) ↔ (a * d ≤ c * b)
  le_frac = (
    λ t. not_lt (λ n. not-le_of_lt (strict h.bottom g.bottom h.proper g.proper (omega arith) n) ((le_units g h).0 t)),
    λ t. (le_units g h).1 (order g.bottom h.bottom g.proper h.proper t),
  )

-- what holds of each of two of them where its fraction is at most the other's holds of the smaller; and so for the larger
module _ (P : Float → Type 0) {x y : Float} {a b c d : ℕ} (g : Frac x a b) (h : Frac y c d) (w : b * d < 2 ^ 52) where
  pub min_frac : (c * b ≤ a * d → P y) → (a * d ≤ c * b → P x) → P (min_of x y)
  min_frac i j = min_at P full_pos g.is h.is (λ t. i ((le_frac h g (omega arith)).0 t)) (λ t. j ((le_frac g h w).0 t))

  pub max_frac : (a * d ≤ c * b → P y) → (c * b ≤ a * d → P x) → P (max_of x y)
  max_frac i j = max_at P full_pos g.is h.is (λ t. i ((le_frac g h w).0 t)) (λ t. j ((le_frac h g (omega arith)).0 t))

-- ---- 0 and 1 as fractions
-- a float that is the whole number k is the fraction k * b / b, rounded
whole_frac : {x : Float} (k b : ℕ) → 0 < b → k * b ≤ b → Whole x (pos k) → Frac x (k * b) b
whole_frac {x} k b B h g =
    let i : k ≤ 1 = le_of_mul-le-mul_right {k = b} (omega arith) B in
    let j = from_value false k (round_whole binary64 false k (le_trans i (lit≤ tt))) in
    let r = rw (round_same binary64 false (k * b) b k 1 B (lit< tt) (mul-one (k * b))) at (round_frac (k * b) b B h).is in
    let e = at_one full_pos (at_scale full ((whole_at_lem (of_pos k)).0 j)) r in
    record { bottom = B; proper = h; is = rw (← (simp add-zero at e)) (at_scale full ((whole_at_lem (of_pos k)).0 g)) }

pub zero_frac : {x : Float} {b : ℕ} → 0 < b → Whole x (pos 0) → Frac x 0 b
zero_frac {x} {b} B g = rw zero-mul at (whole_frac 0 b B (omega arith) g)

pub one_frac : {x : Float} {b : ℕ} → 0 < b → Whole x (pos 1) → Frac x b b
one_frac {x} {b} B g = rw one-mul at (whole_frac 1 b B (omega arith) g)

-- ---- the quotient of two whole floats of one sign
-- floats of signs u and v that are the numbers a and b with the sign s: their quotient's sign is +, or a is 0
sign : (s u v : Bool) (a b : ℕ) → 0 < b → signed u a ≡ signed s a → signed v b ≡ signed s b → T (unlike u v) → a ≡ 0
sign s false false a b B e f t = absurd t
sign s true true a b B e f t = absurd t
sign false false true a b B e f t = absurd (omega (arith, eq_of (of_neg (of_pos b)) (of_pos b) f))
sign true false true a b B e f t = omega (arith, eq_of (of_pos a) (of_neg (of_pos a)) e)
sign false true false a b B e f t = omega (arith, eq_of (of_neg (of_pos a)) (of_pos a) e)
sign true true false a b B e f t = absurd (omega (arith, eq_of (of_pos b) (of_neg (of_pos b)) f))

signed_frac : (u : Bool) (a b : ℕ) → 0 < b → a ≤ b → (T u → a ≡ 0) → Frac (round binary64 u a b) a b
signed_frac false a b B h z = round_frac a b B h
signed_frac true a b B h z =
    rw (z tt, round_same binary64 true 0 b 0 1 B (lit< tt) (omega arith))
    (zero_frac B (from_value true 0 (round_whole binary64 true 0 (lit≤ tt))))

-- the quotient of the whole floats a and b with the same sign s is the fraction a / b, rounded
pub div_frac : {x y : Float} (s : Bool) (a b : ℕ) → 0 < b → a ≤ b → Whole x (signed s a) → Whole y (signed s b) → Frac (x ⊘ y) a b
div_frac {x} {y} s a b B h g g' =
    let v = parts a g in
    let v' = parts b g' in
    let u = unlike v.0 v'.0 in
    rw (div_value binary64 x y v.0 v'.0 a b B v.1 v'.1) (signed_frac u a b B h (sign s v.0 v'.0 a b B v.2 v'.2))
  where
    parts : {x : Float} (k : ℕ) → Whole x (signed s k) → (u : Bool) × HasValue x u k 1 × (signed u k ≡ signed s k)
    parts k g = let v = to_value g in (v.sign, rw (abs_signed s k) at v.size, rw (abs_signed s k) at v.both)
