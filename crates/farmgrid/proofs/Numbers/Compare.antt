-- The comparisons of two floats are those of the numbers that they are, and the smaller and the larger float is
-- the smaller and the larger number. The idea: over a common denominator two values are natural numbers with signs,
-- and to compare those by their signs is to compare the differences p - q that they are.
use mathlib.Core.Path.{◌≡◌, refl, ap}
use mathlib.Core.Logic.{◌↔◌, ◌⊎◌, inl, inr}
use Prim.Native.Nat.{ℕ, ◌+◌, ◌*◌, ◌≤◌, ◌<◌}
use native.Mathlib.Nat.{mul-pos, mul_comm, eq-or-lt_of_le, mul-lt-mul_of_pos_right, lt_of_mul-lt-mul_right, eq_of_mul-eq-mul_right}
use native.Mathlib.Omega.{arith}
use mathlib.Core.Bool.{Bool, true, false, not, ◌&&◌, ◌||◌, cond}
use lib.Dec.{T, T_not, eqb, ltb→lt, lt→ltb, eqb→eq}
use lib.Ieee.{Float, nan, inf, fin, up, down, below, level, lt, eq, le, is_nan}
use lib.Ieee.Fits.{down_pos, eq→eqb, and_i, and_l, and_r}
use Rattle.number.specs.Arithmetic.{precedes, min_of, max_of}
use Rattle.number.proofs.Extremes.{precedes_le, not_precedes}
use Rattle.whole.proofs.Integer.{by_test}
use Rattle.farmgrid.proofs.Numbers.Value.{Minus, At, minus_over}

-- ---- ±k and ±l, of the signs s and t, are (p - q) * v / u and (p' - q') * v / u
module _ (k l u v p q p' q' : ℕ) (U : 0 < u) (W : 0 < v) where
  below_is : (s t : Bool) → Minus s (k * u) (p * v) (q * v) → Minus t (l * u) (p' * v) (q' * v) → T (below s k t l) ↔ (p + q' < p' + q)
  below_is false false g h = (
    λ r. lt_of_mul-lt-mul_right v (omega (arith, mul-lt-mul_of_pos_right (ltb→lt k l r) U)),
    λ r. lt→ltb k l (lt_of_mul-lt-mul_right u (omega (arith, mul-lt-mul_of_pos_right r W))),
  )
  below_is false true g h = (λ r. absurd r, λ r. absurd (omega (arith, mul-lt-mul_of_pos_right r W)))
  below_is true false g h = (
    λ r. lt_of_mul-lt-mul_right v (omega (arith, mul-lt-mul_of_pos_right (ltb→lt 0 (k + l) r) U)),
    λ r. lt→ltb 0 (k + l) (lt_of_mul-lt-mul_right u (omega (arith, mul-lt-mul_of_pos_right r W))),
  )
  below_is true true g h = (
    λ r. lt_of_mul-lt-mul_right v (omega (arith, mul-lt-mul_of_pos_right (ltb→lt l k r) U)),
    λ r. lt→ltb l k (lt_of_mul-lt-mul_right u (omega (arith, mul-lt-mul_of_pos_right r W))),
  )

  -- two of one sign are level where they are equal, and two of different signs where both are 0
  module _ (a b : ℕ) where
    times : (w : ℕ) {i j : ℕ} → i ≡ j → i * w ≡ j * w
    times w e = ap (λ (i : ℕ). i * w) e

    alike : ((k * u ≡ l * u) ↔ (a * v ≡ b * v)) → T (eqb k l && true) ↔ (a ≡ b)
    alike e = (
      λ r. eq_of_mul-eq-mul_right v W a b (e.0 (times u (eqb→eq k l (and_l (eqb k l) true r)))),
      λ r. and_i (eqb k l) true (eq→eqb (eq_of_mul-eq-mul_right u U k l (e.1 (times v r)))) tt,
    )

    opposite : ((k * u + l * u ≡ 0) ↔ (a * v ≡ b * v)) → T (eqb k l && eqb k 0) ↔ (a ≡ b)
    opposite e = (
      λ r. let z = times u (eqb→eq k l (and_l (eqb k l) (eqb k 0) r)) in
          let z' = times u (eqb→eq k 0 (and_r (eqb k l) (eqb k 0) r)) in
          eq_of_mul-eq-mul_right v W a b (e.0 (omega arith)),
      λ r. let z : k + l ≡ 0 = eq_of_mul-eq-mul_right u U (k + l) 0 (omega (arith, e.1 (times v r))) in
          and_i (eqb k l) (eqb k 0) (eq→eqb {a = k} {b = l} (omega arith)) (eq→eqb {a = k} {b = 0} (omega arith)),
    )

  level_is : (s t : Bool) → Minus s (k * u) (p * v) (q * v) → Minus t (l * u) (p' * v) (q' * v) → T (level s k t l) ↔ (p + q' ≡ p' + q)
  level_is false false g h = alike (p + q') (p' + q) (λ e. omega arith, λ e. omega arith)
  level_is false true g h = opposite (p + q') (p' + q) (λ e. omega arith, λ e. omega arith)
  level_is true false g h = opposite (p + q') (p' + q) (λ e. omega arith, λ e. omega arith)
  level_is true true g h = alike (p + q') (p' + q) (λ e. omega arith, λ e. omega arith)

compare_at : (x y : Float) (p q p' q' c : ℕ) → 0 < c → At x p q c → At y p' q' c
    → (T (lt x y) ↔ (p + q' < p' + q)) × (T (eq x y) ↔ (p + q' ≡ p' + q))
unfolding lt eq
compare_at nan y p q p' q' c C g h = absurd g.is
compare_at (inf s) y p q p' q' c C g h = absurd g.is
compare_at (fin s m e) nan p q p' q' c C g h = absurd h.is
compare_at (fin s m e) (inf t) p q p' q' c C g h = absurd h.is
compare_at (fin s m e) (fin t n d) p q p' q' c C g h =
    let v = down e * down d in
    let W = mul-pos (down_pos e) (down_pos d) in
    let G = minus_over s (m * up e) c p q (down e) (down d) v refl g.is in
    let H = minus_over t (n * up d) c p' q' (down d) (down e) v (mul_comm (down e) (down d)) h.is in
    let k = m * up e * down d in
    let l = n * up d * down e in
    (below_is k l c v p q p' q' C W s t G H, level_is k l c v p q p' q' C W s t G H)

-- ---- (p - q) / c and (p' - q') / c compare as floats as they do as numbers
module _ {x y : Float} {p q p' q' c : ℕ} (C : 0 < c) (g : At x p q c) (h : At y p' q' c) where
  pub lt_at : T (lt x y) ↔ (p + q' < p' + q)
  lt_at = (compare_at x y p q p' q' c C g h).0

  pub eq_at : T (eq x y) ↔ (p + q' ≡ p' + q)
  eq_at = (compare_at x y p q p' q' c C g h).1

  pub le_at : T (le x y) ↔ (p + q' ≤ p' + q)
  unfolding le
  le_at = (λ r. from (lt x y) (eq x y) lt_at.0 eq_at.0 r, λ r. to (lt x y) (eq x y) lt_at.1 eq_at.1 (eq-or-lt_of_le r))
    where
      from : (a b : Bool) → (T a → p + q' < p' + q) → (T b → p + q' ≡ p' + q) → T (a || b) → p + q' ≤ p' + q
      from true b i j r = omega (arith, i tt)
      from false b i j r = omega (arith, j r)

      to : (a b : Bool) → (p + q' < p' + q → T a) → (p + q' ≡ p' + q → T b) → (p + q' ≡ p' + q) ⊎ (p + q' < p' + q) → T (a || b)
      to true b i j r = tt
      to false b i j (inl r) = j r
      to false b i j (inr r) = absurd (i r)

-- a float is one number at most
pub at_one : {x : Float} {p q p' q' c : ℕ} → 0 < c → At x p q c → At x p' q' c → p + q' ≡ p' + q
at_one C g h = (eq_at C g h).0 ((eq_at C g g).1 refl)

-- of two numbers one is at most the other
total : {x y : Float} {p q p' q' c : ℕ} → 0 < c → At x p q c → At y p' q' c → T (not (lt x y)) → T (le y x)
total {x} {y} {p} {q} {p'} {q'} C g h r =
    let n : ¬ (p + q' < p' + q) = λ l. T_not (lt x y) r ((lt_at C g h).1 l) in (le_at C h g).1 (omega arith)

pub at_not_nan : {x : Float} {p q c : ℕ} → At x p q c → is_nan x ≡ false
unfolding is_nan
at_not_nan {x = nan} h = absurd h.is
at_not_nan {x = inf s} h = absurd h.is
at_not_nan {x = fin s m e} h = refl

-- ---- What holds of each of two floats where it is at most the other holds of the smaller, whichever of two equal ones
-- that is; and so for the larger. All that is said here of `min_of` and `max_of` rests on these two.
module _ (P : Float → Type 0) {x y : Float} {p q p' q' c : ℕ} (C : 0 < c) (g : At x p q c) (h : At y p' q' c) where
  pub min_at : (T (le y x) → P y) → (T (le x y) → P x) → P (min_of x y)
  unfolding min_of
  min_at i j = rw (at_not_nan g) (by_test (λ u. P (cond u y x)) (precedes y x) (λ t. i (precedes_le y x t)) (λ t. j (total C h g (not_precedes y x t))))

  pub max_at : (T (le x y) → P y) → (T (le y x) → P x) → P (max_of x y)
  unfolding max_of
  max_at i j = rw (at_not_nan g) (by_test (λ u. P (cond u y x)) (precedes x y) (λ t. i (precedes_le x y t)) (λ t. j (total C g h (not_precedes x y t))))
