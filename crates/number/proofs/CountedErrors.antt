-- Sums of numbers that are near others, at one scale and with one measure of error. The idea: if what is added up is at most 2 ^ 53 times ε in all, each rounding is off by no more than a few ε, so that errors are counted. Assumes nothing.
use Rattle.std.proofs.Common.{ℕ, ◌+◌, ◌*◌, ◌^◌, ◌<◌, ◌≤◌, Bool, true, false, mul-le-mul_right, le_of_mul-le-mul_right, arith}
use lib.Ieee.{Float}
use Rattle.number.specs.Arithmetic.{◌⊕◌}
use Rattle.number.proofs.Comparisons.{over_zero, under_zero}
use Rattle.number.proofs.RoundingError.{unit, room, Is, Rounded, sum_error}

-- k times x, in units, is P - Q but for n times ε
pub record About (k ε : ℕ) (x : Float) (P Q n : ℕ) : Type 0 where
  pub sign : Bool
  pub size : ℕ
  pub is : Is x sign size
  pub over : over_zero sign size * k + Q ≤ under_zero sign size * k + P + n * ε
  pub under : under_zero sign size * k + P ≤ over_zero sign size * k + Q + n * ε

-- x and y differ by at most t
abbrev pub Apart : ℕ → ℕ → ℕ → Type 0
Apart x y t = (x ≤ y + t) × (y ≤ x + t)

-- a size that is near another is so with its sign
pub about : {k ε n : ℕ} {x : Float} {s : Bool} {a : ℕ} (m : ℕ) → Is x s a → Apart (a * k) m (n * ε) → About k ε x (over_zero s m) (under_zero s m) n
about {k} {ε} {n} {x} {s} {a} m h d = record { sign = s; size = a; is = h; over = (go s).0; under = (go s).1 }
  where
    go : (s : Bool) → (over_zero s a * k + under_zero s m ≤ under_zero s a * k + over_zero s m + n * ε) × (under_zero s a * k + over_zero s m ≤ over_zero s a * k + under_zero s m + n * ε)
    go false = omega arith
    go true = omega arith

-- and so is a rounded number of no more than 2 ^ 53 times ε
pub rounded_about : {k ε m c : ℕ} {x : Float} {s : Bool} → Rounded x s k m c → m ≤ 2 ^ 53 * ε → c ≤ ε → About k ε x (over_zero s m) (under_zero s m) 2
rounded_about {k} {ε} {m} {c} r h l = about m r.is (one (r.units * k) r.near.0, two (r.units * k) r.near.1)
  where
    one : (x : ℕ) → 2 ^ 53 * x ≤ 2 ^ 53 * m + m + 2 ^ 53 * c → x ≤ m + 2 * ε
    one x g = omega (arith, g, h, l)

    two : (x : ℕ) → 2 ^ 53 * m ≤ 2 ^ 53 * x + m + 2 ^ 53 * c → m ≤ x + 2 * ε
    two x g = omega (arith, g, h, l)

-- ---- sums

-- a scale of no more than ε, at which nothing overflows
pub record Scale (k ε : ℕ) : Type 0 where
  pub some : 0 < k
  pub few : k ≤ ε
  pub held : 2 ^ 54 * ε ≤ room * unit * k

size_of : {k ε : ℕ} {x : Float} {P Q n : ℕ} (h : About k ε x P Q n) → h.size * k ≤ P + Q + n * ε
size_of {k} {ε} {x} {P} {Q} {n} h = go h.sign h.over h.under
  where
    go : (s : Bool) → over_zero s h.size * k + Q ≤ under_zero s h.size * k + P + n * ε → under_zero s h.size * k + P ≤ over_zero s h.size * k + Q + n * ε → h.size * k ≤ P + Q + n * ε
    go false a b = omega (arith, a)
    go true a b = omega (arith, b)

pub add : {k ε : ℕ} {x y : Float} {P Q n P' Q' n' : ℕ} → Scale k ε → About k ε x P Q n → About k ε y P' Q' n' → P + Q + (P' + Q') ≤ 2 ^ 53 * ε → n + n' ≤ 2 ^ 53 → About k ε (x ⊕ y) (P + P') (Q + Q') (n + n' + 3)
add {k} {ε} {P = P} {Q} {n} {P'} {Q'} {n'} S x y T N =
    let r = sum_error x.is y.is fits in
    record {
      sign = r.sign;
      size = r.size;
      is = r.is;
      over = omega (arith, x.over, y.over, mul-le-mul_right k r.over, sizes, counted, S.few, T);
      under = omega (arith, x.under, y.under, mul-le-mul_right k r.under, sizes, counted, S.few, T);
    }
  where
    counted : (n + n') * ε ≤ 2 ^ 53 * ε
    counted = mul-le-mul_right ε N

    sizes : (x.size + y.size) * k ≤ 2 ^ 53 * ε + (n + n') * ε
    sizes = omega (arith, size_of x, size_of y, T)

    fits : x.size + y.size ≤ room * unit
    fits = le_of_mul-le-mul_right {k = k} (omega (arith, sizes, counted, S.held)) S.some
