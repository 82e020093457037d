-- How far a rounded result is from the exact one: by at most one part in 2 ^ 53 of the exact one and one of binary64's smallest values.
-- The idea: a finite number is a whole number of those values with a sign (`Is x s a`), so that each bound is a sentence of whole numbers. Assumes nothing.
use Rattle.std.proofs.Common.{◌≡◌, ℕ, zero, suc, ◌+◌, ◌-◌, ◌*◌, ◌/◌, ◌^◌, ◌<◌, ◌≤◌, Bool, true, false, cond, not, ◌&&◌, T, ltb, ◌⊎◌, ℤ, sym, refl, ap, ◌∙◌, subst, inl, inr, lt_of_lt_of_le, le_of_lt, mul-le-mul_right, mul_comm, mul-pos, le-div_iff_mul-le, le_of_mul-le-mul_right, arith, lit≤, pow_pos, pow-add, ltb-false, ltb-true}
use mathlib.Core.Bool.{beq}
use native.Mathlib.Nat.{eq_of_mul-eq-mul_right}
use lib.Dec.{eqb-suc-zero}
use lib.Ieee.{Float, nan, inf, fin, binary64, low, up, down, unlike, size, fits}
use lib.Ieee.{lt, eq, le, neg, add, sum, mul, div, round}
use lib.Ieee.Digits.{size_reaches}
use lib.Ieee.Exact.{HasValue, units_val}
use lib.Ieee.Fits.{round_is, up_pos, down_pos}
use lib.Ieee.Nearest.{closest}
use lib.Ieee.Order.{drop}
use lib.Ieee.Scale.{grid, overflow, finite, round_same, round_under}
use Rattle.number.specs.Arithmetic.{◌⊕◌, ◌⊗◌, ◌⊘◌, abs_of}
use Rattle.number.proofs.Rounding.{near}
use Rattle.number.proofs.Comparisons.{over_zero, under_zero, test_order, order_test}
use Rattle.number.proofs.Spacing.{fits_facts, in_units}

-- how many of binary64's smallest values make 1
unfoldable pub unit : ℕ
unit = 2 ^ low binary64

-- what an exact result may be at most, so that nothing overflows
unfoldable pub room : ℕ
room = 2 ^ 900

pub unit_positive : 0 < unit
unfolding unit
unit_positive = pow_pos 1074

-- x is a units, with the sign s
pub record Is (x : Float) (s : Bool) (a : ℕ) : Type 0 where
  pub digits : ℕ
  pub exponent : ℤ
  pub shape : x ≡ fin s digits exponent
  pub value : digits * up exponent * unit ≡ a * down exponent

pub of_value : {x : Float} {s : Bool} {a : ℕ} → HasValue x s a unit → Is x s a
of_value {x = nan} h = absurd h
of_value {x = inf i} h = absurd h
of_value {x = fin i m e} h = record { digits = m; exponent = e; shape = ap (λ (u : Bool). fin u m e) h.0; value = h.1 }

pub is_value : {x : Float} {s : Bool} {a : ℕ} → Is x s a → HasValue x s a unit
is_value h = rw h.shape (refl, h.value)

-- q is n but for one part in 2 ^ 53 of it, and c
abbrev pub Near : ℕ → ℕ → ℕ → Type 0
Near q n c = (2 ^ 53 * q ≤ 2 ^ 53 * n + n + 2 ^ 53 * c) × (2 ^ 53 * n ≤ 2 ^ 53 * q + n + 2 ^ 53 * c)

-- n is at most a little more than q
abbrev pub Least : ℕ → ℕ → ℕ → Type 0
Least q n c = 16 * n ≤ 17 * q + 32 * c

pub least_of_lem : (q n c : ℕ) → Near q n c → Least q n c
least_of_lem q n c h = go h.1
  where
    go : 2 ^ 53 * n ≤ 2 ^ 53 * q + n + 2 ^ 53 * c → 16 * n ≤ 17 * q + 32 * c
    go k = omega (arith, k)

pub most_of : (q n c : ℕ) → Near q n c → q ≤ 2 * n + c
most_of q n c h = go h.0
  where
    go : 2 ^ 53 * q ≤ 2 ^ 53 * n + n + 2 ^ 53 * c → q ≤ 2 * n + c
    go k = omega (arith, k)

-- x is so many units with the sign s, which times k are near n
pub record Rounded (x : Float) (s : Bool) (k n c : ℕ) : Type 0 where
  pub units : ℕ
  pub is : Is x s units
  pub near : Near (units * k) n c

-- ---- rounding

-- no digit is dropped and the step is the denominator, or the number has all its digits of the step
abbrev Step : ℕ → ℕ → ℕ → Type 0
Step n c u = (u ≡ c) ⊎ (2 ^ 52 * u ≤ n)

step : (n c : ℕ) → 0 < c → Step n c (c * 2 ^ drop 53 n c)
step n c C = go (drop 53 n c) refl
  where
    more : (z k : ℕ) → z - 53 ≡ suc k → 52 + suc k < z
    more z k e = omega arith

    spread : (n c k : ℕ) → 2 ^ 52 * k * c ≤ n → 2 ^ 52 * (c * k) ≤ n
    spread n c k h = omega arith

    once : (c : ℕ) → c * 1 ≡ c
    once c = omega arith

    go : (k : ℕ) → drop 53 n c ≡ k → Step n c (c * 2 ^ k)
    go zero e = inl (once c)
    go (suc k) e =
        let h : 2 ^ 52 * 2 ^ suc k ≤ n / c = subst (λ (i : ℕ). i ≤ n / c) (pow-add 2 52 (suc k)) (size_reaches (n / c) (52 + suc k) (more (size (n / c)) k e)) in
        inr (spread n c (2 ^ suc k) ((le-div_iff_mul-le C).0 h))

-- within half a step
by_step : (n c u q : ℕ) → Step n c u → (2 * n ≤ 2 * q + u) × (2 * q ≤ 2 * n + u) → Near q n c
by_step n c u q (inl e) h = omega arith
by_step n c u q (inr e) h = omega arith

-- a fraction a / c, rounded, in units
grid_error : (a c : ℕ) → 0 < c → Near (grid binary64 a c * c) (a * unit) c
unfolding unit
grid_error a c C = go (a * 2 ^ low binary64)
  where
    regroup : (q c k : ℕ) → q * (c * k) ≡ q * k * c
    regroup q c k = omega arith

    go : (n : ℕ) → Near (closest n (c * 2 ^ drop 53 n c) * 2 ^ drop 53 n c * c) n c
    go n =
        let k = drop 53 n c in
        let q = closest n (c * 2 ^ k) in
        subst (λ (i : ℕ). Near i n c) (regroup q c (2 ^ k)) (by_step n c (c * 2 ^ k) (q * (c * 2 ^ k)) (step n c C) (near n (c * 2 ^ k) (mul-pos C (pow_pos k))))

four : 4 * (room * unit) ≤ overflow binary64
unfolding room unit
four = lit≤ tt

some : 0 < room * unit
unfolding room unit
some = lit≤ tt

-- nothing overflows: a number within the room is rounded to less than four times that
in_room : (a c : ℕ) → 0 < c → a ≤ room * c → grid binary64 a c < overflow binary64
in_room a c C h = lt_of_lt_of_le (under_four (grid binary64 a c) (grid_error a c C).0) four
  where
    by_parts : (g w : ℕ) → 0 < w → 2 ^ 53 * g ≤ 2 ^ 53 * w + w + 2 ^ 53 → g < 4 * w
    by_parts g w P h = omega arith

    under_four : (g : ℕ) → 2 ^ 53 * (g * c) ≤ 2 ^ 53 * (a * unit) + a * unit + 2 ^ 53 * c → g < 4 * (room * unit)
    under_four g e = by_parts g (room * unit) some (le_of_mul-le-mul_right (omega (arith, e, mul-le-mul_right unit h)) C)

-- a fraction that is rounded to a finite number is near it
rounded : (s : Bool) (a c : ℕ) → 0 < c → grid binary64 a c < overflow binary64 → Rounded (round binary64 s a c) s c (a * unit) c
unfolding unit
rounded s a c C h = record {
  units = grid binary64 a c;
  is = of_value (subst (λ (z : Float). HasValue z s (grid binary64 a c) (2 ^ low binary64)) (sym (round_is binary64 s a c)) (units_val binary64 s _ (drop 53 (a * 2 ^ low binary64) c) h));
  near = grid_error a c C;
}

-- a factor that both sides have is taken off
less_a_factor : {x y : Float} {s : Bool} {k n c l : ℕ} → 0 < l → x ≡ y → Rounded y s (k * l) (n * l) (c * l) → Rounded x s k n c
less_a_factor {s = s} {k} {n} {c} {l} L e r =
    record { units = r.units; is = subst (λ (z : Float). Is z s r.units) (sym e) r.is; near = go r.units r.near }
  where
    go : (g : ℕ) → Near (g * (k * l)) (n * l) (c * l) → Near (g * k) n c
    go g h = (le_of_mul-le-mul_right {k = l} (omega arith) L, le_of_mul-le-mul_right {k = l} (omega arith) L)

-- a whole number of units
whole : {x : Float} (s : Bool) (w : ℕ) → x ≡ round binary64 s w unit → grid binary64 w unit < overflow binary64 → Rounded x s 1 w 1
whole s w e h =
    let r = rounded s w unit unit_positive h in
    record { units = r.units; is = subst (λ (z : Float). Is z s r.units) (sym e) r.is; near = go unit unit_positive r.units r.near }
  where
    go : (l : ℕ) → 0 < l → (g : ℕ) → Near (g * l) (w * l) l → Near (g * 1) w 1
    go l L g h = (le_of_mul-le-mul_right {k = l} (omega arith) L, le_of_mul-le-mul_right {k = l} (omega arith) L)

-- ---- a finite number is a whole number of units

pub record Units (x : Float) : Type 0 where
  pub sign : Bool
  pub size : ℕ
  pub is : Is x sign size

pub units_of_lem : (x : Float) → T (fits binary64 x) → T (finite x) → Units x
unfolding unit
units_of_lem nan t f = absurd f
units_of_lem (inf s) t f = absurd f
units_of_lem (fin s zero e) t f = record { sign = s; size = 0; is = record { digits = 0; exponent = e; shape = refl; value = nothing (up e) (2 ^ low binary64) (down e) } }
  where
    nothing : (u l d : ℕ) → 0 * u * l ≡ 0 * d
    nothing u l d = omega arith
units_of_lem (fin s (suc m) e) t f =
    let (j, w) = in_units (low binary64) e (fits_facts binary64 s m e t).least in
    record { sign = s; size = suc m * 2 ^ j; is = record { digits = suc m; exponent = e; shape = refl; value = times (suc m) (up e) (2 ^ low binary64) (2 ^ j) (down e) w } }
  where
    times : (m u l j d : ℕ) → u * l ≡ j * d → m * u * l ≡ m * j * d
    times m u l j d e = omega (arith, ap (λ (i : ℕ). m * i) e)

-- the sign dropped and turned
pub abs_is : {x : Float} {s : Bool} {a : ℕ} → Is x s a → Is (abs_of x) false a
unfolding abs_of
abs_is h = record { digits = h.digits; exponent = h.exponent; shape = ap abs_of h.shape; value = h.value }

pub neg_is : {x : Float} {s : Bool} {a : ℕ} → Is x s a → Is (neg x) (not s) a
unfolding neg
neg_is h = record { digits = h.digits; exponent = h.exponent; shape = ap neg h.shape; value = h.value }

-- ---- products

product_is : {x y : Float} {s t : Bool} {a b : ℕ} → Is x s a → Is y t b → x ⊗ y ≡ round binary64 (unlike s t) (a * b) (unit * unit)
unfolding mul
product_is {s = s} {t} {a} {b} h k =
    let m = h.digits * up h.exponent in
    let n = k.digits * up k.exponent in
    let c = down h.exponent in
    let d = down k.exponent in
    rw (h.shape, k.shape)
    (round_same binary64 (unlike s t) (m * n) (c * d) (a * b) (unit * unit) (mul-pos (down_pos h.exponent) (down_pos k.exponent)) (mul-pos unit_positive unit_positive) (same m c n d unit h.value k.value))
  where
    same : (X dx Y dy l : ℕ) → X * l ≡ a * dx → Y * l ≡ b * dy → X * Y * (l * l) ≡ a * b * (dx * dy)
    same X dx Y dy l h k = omega (arith, ap (λ (i : ℕ). i * (Y * l)) h, ap (λ (i : ℕ). a * dx * i) k)

-- the product of a and b units is near a * b / unit of them, where that is within the room
pub product : {x y : Float} {s t : Bool} {a b : ℕ} → Is x s a → Is y t b → a * b ≤ room * (unit * unit) → Rounded (x ⊗ y) (unlike s t) unit (a * b) unit
product {s = s} {t} {a} {b} h k r =
    let U = mul-pos unit_positive unit_positive in
    less_a_factor unit_positive (product_is h k) (rounded (unlike s t) (a * b) (unit * unit) U (in_room (a * b) (unit * unit) U r))

-- and of numbers of one sign where it is finite
pub product_like : {x y : Float} {s : Bool} {a b : ℕ} → Is x s a → Is y s b → T (finite (x ⊗ y)) → Rounded (x ⊗ y) false unit (a * b) unit
product_like {x} {y} {s} {a} {b} h k f =
    let U = mul-pos unit_positive unit_positive in
    let e = product_is h k ∙ ap (λ (u : Bool). round binary64 u (a * b) (unit * unit)) (same s) in
    less_a_factor unit_positive e (rounded false (a * b) (unit * unit) U (round_under binary64 (a * b) (unit * unit) (rw e at f)))
  where
    same : (s : Bool) → unlike s s ≡ false
    same false = refl
    same true = refl

-- the factors of a finite product are finite
pub mul_finite_both : (x y : Float) → T (finite (x ⊗ y)) → T (finite x) × T (finite y)
unfolding mul
mul_finite_both nan y h = absurd h
mul_finite_both (inf s) nan h = absurd h
mul_finite_both (inf s) (inf t) h = absurd h
mul_finite_both (inf s) (fin t zero d) h = absurd h
mul_finite_both (inf s) (fin t (suc n) d) h = absurd (subst (λ (b : Bool). T (finite (cond b nan (inf (unlike s t))))) (eqb-suc-zero n) h)
mul_finite_both (fin s m e) nan h = absurd h
mul_finite_both (fin s zero e) (inf t) h = absurd h
mul_finite_both (fin s (suc m) e) (inf t) h = absurd (subst (λ (b : Bool). T (finite (cond b nan (inf (unlike s t))))) (eqb-suc-zero m) h)
mul_finite_both (fin s m e) (fin t n d) h = (tt, tt)

-- ---- quotients

-- the quotient of a by b units is near a * unit / b of them
pub quotient : {x y : Float} {s : Bool} {a b : ℕ} → Is x s a → Is y false b → 0 < b → a ≤ room * b → Rounded (x ⊘ y) s b (a * unit) b
unfolding div
quotient {x} {y} {s} {a} {b} h k B r = rw (h.shape, k.shape) (by k.digits k.value)
  where
    like : (s : Bool) → unlike s false ≡ s
    like false = refl
    like true = refl

    no_zero : (u l d : ℕ) → 0 < b * d → 0 * u * l ≡ b * d → ⊥
    no_zero u l d p h = omega arith

    same : (X dx Y dy l : ℕ) → 0 < l → X * l ≡ a * dx → Y * l ≡ b * dy → X * dy * b ≡ a * (Y * dx)
    same X dx Y dy l L h k = eq_of_mul-eq-mul_right l L (X * dy * b) (a * (Y * dx)) (omega (arith, ap (λ (i : ℕ). i * (dy * b)) h, ap (λ (i : ℕ). i * (a * dx)) k))

    by : (n : ℕ) → n * up k.exponent * unit ≡ b * down k.exponent → Rounded (fin s h.digits h.exponent ⊘ fin false n k.exponent) s b (a * unit) b
    by zero v = absurd (no_zero (up k.exponent) unit (down k.exponent) (mul-pos B (down_pos k.exponent)) v)
    by (suc n) v =
        let m = h.digits * up h.exponent in
        let c = down h.exponent in
        let d = down k.exponent in
        let U = up k.exponent in
        rw (eqb-suc-zero n, like s, round_same binary64 s (m * d) (suc n * U * c) a b (mul-pos (mul-pos (omega arith) (up_pos k.exponent)) (down_pos h.exponent)) B (same m c (suc n * U) d unit unit_positive h.value v))
        (rounded s a b B (in_room a b B r))

-- ---- sums

pub both_sides : (s : Bool) (m : ℕ) → over_zero s m + under_zero s m ≡ m
both_sides false m = omega arith
both_sides true m = omega arith

-- a size in units keeps its side of zero
over_same : (s : Bool) (X dx a l : ℕ) → X * l ≡ a * dx → over_zero s X * l ≡ over_zero s a * dx
over_same false X dx a l h = h
over_same true X dx a l h = omega arith

under_same : (s : Bool) (X dx a l : ℕ) → X * l ≡ a * dx → under_zero s X * l ≡ under_zero s a * dx
under_same false X dx a l h = omega arith
under_same true X dx a l h = h

-- a sum over a product of denominators is one of units
sum_same : (X dx Y dy a b l : ℕ) → X * l ≡ a * dx → Y * l ≡ b * dy → (X * dy + Y * dx) * l ≡ (a + b) * (dx * dy)
sum_same X dx Y dy a b l h k = omega (arith, ap (λ (i : ℕ). i * dy) h, ap (λ (i : ℕ). i * dx) k)

sum_is : {x y : Float} {a b : ℕ} → Is x false a → Is y false b → x ⊕ y ≡ round binary64 false (a + b) unit
unfolding add sum
sum_is {a = a} {b} h k =
    let m = h.digits * up h.exponent in
    let n = k.digits * up k.exponent in
    let c = down h.exponent in
    let d = down k.exponent in
    rw (h.shape, k.shape)
    (round_same binary64 false (m * d + n * c) (c * d) (a + b) unit (mul-pos (down_pos h.exponent) (down_pos k.exponent)) unit_positive (sum_same m c n d a b unit h.value k.value))

-- numbers above zero
pub sum_like : {x y : Float} {a b : ℕ} → Is x false a → Is y false b → T (finite (x ⊕ y)) → Rounded (x ⊕ y) false 1 (a + b) 1
sum_like {x} {y} {a} {b} h k f = let e = sum_is h k in whole false (a + b) e (round_under binary64 (a + b) unit (rw e at f))

-- a difference of fractions over c is one of units
differ : (p q P Q c l : ℕ) → 0 < c → p * l ≡ P * c → q * l ≡ Q * c → q ≤ p → (P ≡ Q + (P - Q)) × ((p - q) * l ≡ (P - Q) * c)
differ p q P Q c l C h k g =
    let G : Q ≤ P = le_of_mul-le-mul_right {k = c} (omega (arith, mul-le-mul_right l g)) C in
    let f : p ≡ q + (p - q) = omega arith in
    let F : P ≡ Q + (P - Q) = omega arith in
    (F, omega (arith, ap (λ (i : ℕ). i * l) f, ap (λ (i : ℕ). i * c) F))

-- z is P - Q, rounded
abbrev Total : Float → ℕ → ℕ → Type 0
Total z P Q = (s : Bool) × (w : ℕ) × (z ≡ round binary64 s w unit) × (over_zero s w + Q ≡ under_zero s w + P)

total : (p q c P Q : ℕ) → 0 < c → p * unit ≡ P * c → q * unit ≡ Q * c → (s t : Bool) → Total (sum binary64 s p t q c) (over_zero s P + over_zero t Q) (under_zero s P + under_zero t Q)
unfolding sum
total p q c P Q C h k = go
  where
    same : (s : Bool) (n w : ℕ) → n * unit ≡ w * c → round binary64 s n c ≡ round binary64 s w unit
    same s n w e = round_same binary64 s n c w unit C unit_positive e

    both : (p + q) * unit ≡ (P + Q) * c
    both = omega (arith, h, k)

    up_to : (s : Bool) → p ≤ q → (w : ℕ) × (round binary64 s (q - p) c ≡ round binary64 s w unit) × (Q ≡ P + w)
    up_to s g = let (e, d) = differ q p Q P c unit C k h g in (Q - P, same s (q - p) (Q - P) d, e)

    down_to : (s : Bool) → q ≤ p → (w : ℕ) × (round binary64 s (p - q) c ≡ round binary64 s w unit) × (P ≡ Q + w)
    down_to s g = let (e, d) = differ p q P Q c unit C h k g in (P - Q, same s (p - q) (P - Q) d, e)

    first : (b : Bool) → ltb p q ≡ b → Total (cond b (round binary64 true (q - p) c) (round binary64 false (p - q) c)) (P + 0) (0 + Q)
    first true e = let (w, i, j) = up_to true (le_of_lt (ltb-true p q e)) in (true, w, i, omega arith)
    first false e = let (w, i, j) = down_to false (ltb-false p q e) in (false, w, i, omega arith)

    second : (b d : Bool) → ltb p q ≡ b → ltb q p ≡ d → Total (cond b (round binary64 false (q - p) c) (round binary64 d (p - q) c)) (0 + Q) (P + 0)
    second true d e f = let (w, i, j) = up_to false (le_of_lt (ltb-true p q e)) in (false, w, i, omega arith)
    second false true e f = let (w, i, j) = down_to true (ltb-false p q e) in (true, w, i, omega arith)
    second false false e f = let (w, i, j) = down_to false (ltb-false p q e) in (false, w, i, none w j (equal (ltb-false q p f)))
      where
        equal : p ≤ q → P ≤ Q
        equal g = let (w, i, j) = up_to false g in omega (arith, j)

        none : (w : ℕ) → P ≡ Q + w → P ≤ Q → w + (P + 0) ≡ 0 + (0 + Q)
        none w e g = omega (arith, e, g)

    go : (s t : Bool) → Total (cond (beq s t) (round binary64 s (p + q) c) (cond (ltb p q) (round binary64 t (q - p) c) (round binary64 (s && ltb q p) (p - q) c)))
        (over_zero s P + over_zero t Q) (under_zero s P + under_zero t Q)
    go false false = (false, P + Q, same false (p + q) (P + Q) both, omega arith)
    go true true = (true, P + Q, same true (p + q) (P + Q) both, omega arith)
    go false true = first (ltb p q) refl
    go true false = second (ltb p q) (ltb q p) refl refl

-- x is a difference of units, but for one part in 2 ^ 53 of r, and one
pub record Summed (x : Float) (P Q r : ℕ) : Type 0 where
  pub sign : Bool
  pub size : ℕ
  pub is : Is x sign size
  pub over : 2 ^ 53 * (over_zero sign size + Q) ≤ 2 ^ 53 * (under_zero sign size + P) + r + 2 ^ 53
  pub under : 2 ^ 53 * (under_zero sign size + P) ≤ 2 ^ 53 * (over_zero sign size + Q) + r + 2 ^ 53

difference : (z : Float) (P Q r : ℕ) → P ≤ r → Q ≤ r → r ≤ room * unit → Total z P Q → Summed z P Q r
difference z P Q r A B R (false, w, i, e) =
    let n = whole false w i (in_room w unit unit_positive (omega (arith, e, A, R))) in
    record { sign = false; size = n.units; is = n.is; over = omega (arith, n.near, e, A); under = omega (arith, n.near, e, A) }
difference z P Q r A B R (true, w, i, e) =
    let n = whole true w i (in_room w unit unit_positive (omega (arith, e, B, R))) in
    record { sign = true; size = n.units; is = n.is; over = omega (arith, n.near, e, B); under = omega (arith, n.near, e, B) }

-- the sum of a and b units, each with its sign, is near the exact one
pub sum_error : {x y : Float} {s t : Bool} {a b : ℕ} → Is x s a → Is y t b → a + b ≤ room * unit → Summed (x ⊕ y) (over_zero s a + over_zero t b) (under_zero s a + under_zero t b) (a + b)
unfolding add
sum_error {s = s} {t} {a} {b} h k r =
    let m = h.digits * up h.exponent in
    let n = k.digits * up k.exponent in
    let c = down h.exponent in
    let d = down k.exponent in
    let p = both_sides s a in
    let q = both_sides t b in
    rw (h.shape, k.shape)
    (difference _ _ _ (a + b) (omega (arith, p, q)) (omega (arith, p, q)) r
    (total (m * d) (n * c) (c * d) a b (mul-pos (down_pos h.exponent) (down_pos k.exponent)) (first m c d unit h.value) (second n c d unit k.value) s t))
  where
    first : (m c d l : ℕ) → m * l ≡ a * c → m * d * l ≡ a * (c * d)
    first m c d l e = omega (arith, ap (λ (i : ℕ). i * d) e)

    second : (n c d l : ℕ) → n * l ≡ b * d → n * c * l ≡ b * (c * d)
    second n c d l e = omega (arith, ap (λ (i : ℕ). i * c) e)

-- the numbers of a finite sum are finite
pub add_finite_both : (x y : Float) → T (finite (x ⊕ y)) → T (finite x) × T (finite y)
unfolding add
add_finite_both nan y h = absurd h
add_finite_both (inf s) nan h = absurd h
add_finite_both (inf true) (inf true) h = absurd h
add_finite_both (inf true) (inf false) h = absurd h
add_finite_both (inf false) (inf true) h = absurd h
add_finite_both (inf false) (inf false) h = absurd h
add_finite_both (inf s) (fin t n d) h = absurd h
add_finite_both (fin s m e) nan h = absurd h
add_finite_both (fin s m e) (inf t) h = absurd h
add_finite_both (fin s m e) (fin t n d) h = (tt, tt)

-- ---- comparisons

module _ (p q P Q c p' q' P' Q' c' l : ℕ) (L : 0 < l) (C : 0 < c) (C' : 0 < c') (h : p * l ≡ P * c) (k : q * l ≡ Q * c) (h' : p' * l ≡ P' * c') (k' : q' * l ≡ Q' * c') where
  left : (p * c' + q' * c) * l ≡ (P + Q') * (c * c')
  left = sum_same p c q' c' P Q' l h k'

  right : (p' * c + q * c') * l ≡ (P' + Q) * (c * c')
  right = sum_same p' c' q c P' Q l h' k ∙ ap (λ (i : ℕ). (P' + Q) * i) (mul_comm c' c)

  -- fractions in order are so in units
  to_units : p * c' + q' * c ≤ p' * c + q * c' → P + Q' ≤ P' + Q
  to_units o = le_of_mul-le-mul_right (subst (λ (i : ℕ). i ≤ (P' + Q) * (c * c')) left (subst (λ (i : ℕ). (p * c' + q' * c) * l ≤ i) right (mul-le-mul_right l o))) (mul-pos C C')

  -- and the other way round
  from_units : P + Q' ≤ P' + Q → p * c' + q' * c ≤ p' * c + q * c'
  from_units o = le_of_mul-le-mul_right (subst (λ (i : ℕ). i ≤ (p' * c + q * c') * l) (sym left) (subst (λ (i : ℕ). (P + Q') * (c * c') ≤ i) (sym right) (mul-le-mul_right (c * c') o))) L

-- a number is at most another where it is so in units
abbrev pub Ordered : Bool → ℕ → Bool → ℕ → Type 0
Ordered s a t b = over_zero s a + under_zero t b ≤ over_zero t b + under_zero s a

pub le_units : {x y : Float} {s t : Bool} {a b : ℕ} → Is x s a → Is y t b → (T (le x y) → Ordered s a t b) × (Ordered s a t b → T (le x y))
unfolding le lt eq
le_units {s = s} {t} {a} {b} h k =
    let m = h.digits * up h.exponent in
    let n = k.digits * up k.exponent in
    let c = down h.exponent in
    let d = down k.exponent in
    let C = down_pos h.exponent in
    let D = down_pos k.exponent in
    let ox = over_same s m c a unit h.value in
    let ux = under_same s m c a unit h.value in
    let oy = over_same t n d b unit k.value in
    let uy = under_same t n d b unit k.value in
    rw (h.shape, k.shape) (
      λ o. to_units _ _ _ _ c _ _ _ _ d unit unit_positive C D ox ux oy uy (test_order s t m c n d o),
      λ o. order_test s t m c n d (from_units _ _ _ _ c _ _ _ _ d unit unit_positive C D ox ux oy uy o),
    )
