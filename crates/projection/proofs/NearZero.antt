-- A number is close to 0 where its size is at most 1e-6: one above 1 would have to be at most 1e-6 of itself. The idea: that is rounded to at most what half of the number is rounded to,
-- and above 1 this is half of it. Assumes nothing.
use mathlib.Core.Path.{◌≡◌, refl, sym, ap, ◌∙◌, subst}
use mathlib.Core.Bool.{Bool, true, false, cond}
use Prim.Native.Nat.{ℕ, zero, suc, ◌-◌, ◌*◌, ◌^◌, ◌≤◌, ◌<◌}
use native.Mathlib.Nat.{mul-pos, mul-le-mul, mul-le-mul_right, zero-lt-suc}
use native.Mathlib.Omega.{arith}
use lib.IntN.{ℤ, pos, negsuc}
use lib.Count.{count_trailing_zeros}
use lib.Dec.{T, ltb→lt}
use lib.Pow.{pow_pos, pow_mono}
use lib.Ieee.{Float, nan, inf, fin, binary64, low, prec, up, down, fits, lt, eq, le, neg, sub, mul, round, units, odd, size, span, climb}
use lib.Ieee.Exact.{HasValue}
use lib.Ieee.Fits.{down_pos}
use lib.Ieee.Order.{round_mono}
use lib.Ieee.Positive.{positive, positive-finite, value_pos, positive_of_value, values_of_le}
use lib.Ieee.Scale.{grid, overflow, round_same, round_val, round_under, grid_scale, normal_of_fraction}
use Rattle.number.specs.Arithmetic.{◌⊖◌, ◌⊗◌, abs_of, zero_of, upper_of, max_of}
use Rattle.number.specs.Extremes.{Value}
use Rattle.number.proofs.Comparisons.{le_through, lt_not_le, refuted}
use Rattle.number.proofs.Extremes.{is_zero}
use Rattle.number.proofs.Formats.{round_self}
use Rattle.number.proofs.Magnitude.{abs_fits}
use Rattle.number.proofs.SidesOfZero.{side, sides_not_lt}
use Rattle.number.proofs.Zeros.{number_before, both_zeros}
use Rattle.matrix.specs.Constants.{one, positive_zero}
use Rattle.projection.specs.Projection.{tolerance, close}
use Rattle.projection.proofs.Largest.{largest}

-- ---- a number above 1 is above what half of it is rounded to

wide : 53 ≤ 1074 → 2 * 2 ^ 52 ≤ 2 ^ 1074
wide h = pow_mono h

spread : (u l a c : ℕ) → 2 * u ≤ l → c ≤ a → u * (c * 2) ≤ a * l
spread u l a c h k = omega (arith, mul-le-mul h k)

one_less : (g o : ℕ) → g * 2 ^ 1 < o → g < o
one_less g o h = omega arith

first_of : (g : ℕ) → 0 < g * 2 ^ 1 → 0 < g
first_of g h = omega arith

not_twice : (g l : ℕ) → 0 < g → 0 < l → g * 2 ^ 1 * l ≤ g * l → ⊥
not_twice g l p q h = omega (arith, mul-pos p q)

module _ (a c : ℕ) (C : 0 < c) (k : c ≤ a) where
  -- the number, by the double of both
  doubled : round binary64 false a c ≡ round binary64 false (a * 2 ^ 1) (c * 2)
  doubled = round_same binary64 false a c (a * 2 ^ 1) (c * 2) C (mul-pos C (zero-lt-suc 1)) (omega arith)

  above_half : T (positive (round binary64 false a c)) → T (le (round binary64 false a c) (round binary64 false a (c * 2))) → ⊥
  above_half p h =
      let D = mul-pos C (zero-lt-suc 1) in
      let u = 2 ^ low binary64 in
      let g = grid binary64 a (c * 2) in
      let x = round binary64 false (a * 2 ^ 1) (c * 2) in
      let y = round binary64 false a (c * 2) in
      let q = subst (λ (z : Float). T (positive z)) doubled p in
      let n = normal_of_fraction binary64 a (c * 2) D (spread (2 ^ (prec binary64 - 1)) u a c (wide (omega arith)) k) in
      let e : grid binary64 (a * 2 ^ 1) (c * 2) ≡ g * 2 ^ 1 = grid_scale binary64 a (c * 2) 1 D n in
      let o = round_under binary64 (a * 2 ^ 1) (c * 2) (positive-finite x q) in
      let v = subst (λ (z : ℕ). HasValue x false z u) e (round_val binary64 (a * 2 ^ 1) (c * 2) o) in
      let w = round_val binary64 a (c * 2) (one_less g (overflow binary64) (subst (λ (z : ℕ). z < overflow binary64) e o)) in
      let G = first_of g (value_pos x (g * 2 ^ 1) u q (pow_pos (low binary64)) v) in
      let r = positive_of_value y g u w G in
      not_twice g u G (pow_pos (low binary64)) (values_of_le x y (g * 2 ^ 1) u g u q r v w (subst (λ (z : Float). T (le z y)) doubled h))

-- ---- 1e-6 of a number

pub tolerance_is : tolerance ≡ fin false 4722366482869645 (negsuc 71)
unfolding round units odd size span climb count_trailing_zeros
tolerance_is = refl

pub one_is : one ≡ fin false 1 (pos 0)
unfolding round units odd size span climb count_trailing_zeros
one_is = refl

tolerance_of_one : tolerance ⊗ one ≡ tolerance
unfolding mul fits
tolerance_of_one =
    ap (λ (y : Float). tolerance ⊗ y) one_is ∙ ap (λ (x : Float). x ⊗ fin false 1 (pos 0)) tolerance_is ∙ round_self binary64 false 4722366482869645 (negsuc 71) tt ∙ sym tolerance_is

under_one : T (le tolerance one)
unfolding le lt eq round units odd size span climb count_trailing_zeros
under_one = tt

smaller : (m d a c : ℕ) → m * 2 ≤ d → m * 1 * a * (c * 2) ≤ a * (d * c)
smaller m d a c h = omega (arith, mul-le-mul_right (a * c) h)

-- 1 is below it
beyond : (m : ℕ) (e : ℤ) → T (lt one (fin false m e)) → down e < m * up e
unfolding lt
beyond m e h = let g = ltb→lt (1 * 1 * down e) (m * up e * 1) (subst (λ (x : Float). T (lt x (fin false m e))) one_is h) in omega arith

module _ (m : ℕ) (e : ℤ) (v : Value (fin false m e)) (l : T (lt one (fin false m e))) where
  exceeds : T (le (fin false m e) (tolerance ⊗ fin false m e)) → ⊥
  unfolding mul
  exceeds h =
      let a = m * up e in
      let c = down e in
      let b = beyond m e l in
      let C = down_pos e in
      let self = round_self binary64 false m e v in
      let k = subst (λ (t : Float). T (le (fin false m e) (t ⊗ fin false m e))) tolerance_is h in
      let z = round_mono binary64 (4722366482869645 * 1 * a) (2 ^ 72 * c) a (c * 2) (mul-pos (pow_pos 72) C) (mul-pos C (zero-lt-suc 1)) (smaller 4722366482869645 (2 ^ 72) a c (omega arith)) in
      let y = le_through (fin false m e) (round binary64 false (4722366482869645 * 1 * a) (2 ^ 72 * c)) (round binary64 false a (c * 2)) k z in
      above_half a c C (omega (arith, b))
      (subst (λ (x : Float). T (positive x)) (sym self) (positive_of_value (fin false m e) a c (refl, refl) (omega (arith, b))))
      (subst (λ (x : Float). T (le x (round binary64 false a (c * 2)))) (sym self) y)

-- ---- close to 0

abbrev none : Float
none = zero_of false

none_is : positive_zero ≡ none
unfolding round units odd size span climb
none_is = refl

-- a zero taken off leaves the size
same_size : (s : Bool) (m : ℕ) (e : ℤ) → Value (fin s m e) → abs_of (fin s m e ⊖ none) ≡ fin false m e
unfolding abs_of sub neg
same_size s zero e v = ap abs_of (both_zeros binary64 s true e (pos 0)) ∙ sym (ap abs_of (is_zero s zero e v refl))
same_size s (suc m) e v = ap abs_of (number_before binary64 s true m e (pos 0) ∙ round_self binary64 s (suc m) e v)

-- and is not above the larger of 1 and a size
not_above : (m : ℕ) (e : ℤ) (b : Bool) → lt (cond b (fin false m e) one) none ≡ false
not_above m e true = sides_not_lt none (fin false m e) tt tt
not_above m e false = sides_not_lt none one tt (subst (λ (x : Float). T (side false x)) (sym one_is) tt)

held : (m : ℕ) (e : ℤ) → Value (fin false m e) → (b : Bool) → lt one (fin false m e) ≡ b
    → le (fin false m e) (tolerance ⊗ cond b (fin false m e) one) ≡ le (fin false m e) tolerance
held m e v true l =
    let t = subst T (sym l) tt in
    refuted _ (exceeds m e v t)
    ∙ sym (refuted _ (λ h. lt_not_le one (fin false m e) t (le_through (fin false m e) tolerance one h under_one)))
held m e v false l = ap (le (fin false m e)) tolerance_of_one

size_decides : (x : Float) → Value x → le (abs_of x) tolerance ≡ close x none
unfolding close abs_of le lt eq fits
size_decides nan v = refl
size_decides (inf s) v = ap (le (inf false)) tolerance_is
size_decides (fin s m e) v =
    let z = fin false m e in
    let b = lt one z in
    let large = cond b z one in
    sym (held m e (abs_fits (fin s m e) v) b refl)
    ∙ ap (λ (c : Bool). le z (tolerance ⊗ cond c none large)) (sym (not_above m e b))
    ∙ ap (λ (n : Float). le z (tolerance ⊗ n)) (largest (fin s m e) none large (upper_of large none) v tt refl refl)
    ∙ ap (λ (y : Float). le y (tolerance ⊗ max_of (max_of z none) one)) (sym (same_size s m e v))

pub near_zero : (x : Float) → Value x → le (abs_of x) tolerance ≡ close x positive_zero
near_zero x v = size_decides x v ∙ ap (close x) (sym none_is)
