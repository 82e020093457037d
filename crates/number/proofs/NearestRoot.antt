-- The rounded square root is nearest: the root of s is not beyond the middle between it and any other value of the format, measured by squares.
-- The idea: the rounding keeps a unit u of the root's whole part, and every other value of the format is a multiple of u, or less than the least number that
-- has all the format's digits; `RootMiddles` has the middles between these. Assumes nothing.
use Rattle.std.proofs.Common.{◌≡◌, ℕ, zero, suc, ◌+◌, ◌-◌, ◌*◌, ◌/◌, ◌^◌, ◌<◌, ◌≤◌, Bool, true, false, cond, T, ltb, ℤ, sym, refl, ap, ◌∙◌, subst, le_trans, le_of_eq, lt_of_lt_of_le, le_of_suc-le-suc, lt_of_le_of_lt, add-suc, mul-le-mul_right, zero-lt-suc, mul_assoc, div-lt_iff_lt-mul, mul-le-mul, mul-lt-mul_of_pos_right, mul-pos, one-mul, lt_of_not-le, le-div_iff_mul-le, mul_right_comm, not-le_of_lt, mul-div_cancel, arith, lit≤, pow_pos, pow_mono, pow-add}
use native.Mathlib.Nat.{two-pow-succ}
use native.Mathlib.Nat.{mul-div-mul_right}
use lib.Ieee.{Float, nan, inf, fin, Format, binary32, binary64, prec, emax, low, up, down, size, round, fits}
use lib.Ieee.Digits.{size-lt, size_reaches}
use lib.Ieee.Exact.{HasValue}
use lib.Ieee.Fits.{two, two-le_pos, up_pos, down_pos, round-fits, cond-fits, nan-fits, inf-fits}
use lib.Ieee.Nearest.{closest, closest_same}
use lib.Ieee.Scale.{grid, overflow, round_val}
use Rattle.number.specs.Root.{root_of, rest_of, round_root, sqrt_of, NearestRoot, SqrtNearest}
use Rattle.number.proofs.Rounding.{near}
use Rattle.number.proofs.WholeRoot.{root_le, root_lt, square_lt}
use Rattle.number.proofs.Spacing.{fits_facts, in_units, value_spaced}
use Rattle.number.proofs.RootMiddles.{Rounding, above_by, below_by, under}

-- ---- what `round` does with 2 * r + d halves of the smallest value
halved : (r d : ℕ) → d ≤ 1 → (2 * r + d) / 2 ≡ r
halved r d h = omega arith

swap : (n l u : ℕ) → n * l * (2 * u) ≡ n * (2 * l * u)
swap n l u = omega arith

twice_pos : (k : ℕ) → 0 < 2 * 2 ^ k
twice_pos k = mul-pos (zero-lt-suc 1) (pow_pos k)

grid_half : (f : Format) (r d : ℕ) → d ≤ 1
    → grid f (2 * r + d) (2 * 2 ^ low f) ≡ closest (2 * r + d) (2 * 2 ^ (size r - prec f)) * 2 ^ (size r - prec f)
grid_half f r d D =
    let n = 2 * r + d in
    let l = 2 ^ low f in
    let k = size r - prec f in
    let whole : n * l / (2 * l) ≡ r = mul-div-mul_right n 2 (pow_pos (low f)) ∙ halved r d D in
    ap (λ (x : ℕ). closest (n * l) (2 * l * 2 ^ (size x - prec f)) * 2 ^ (size x - prec f)) whole
    ∙ ap (λ (x : ℕ). x * 2 ^ k)
    (closest_same (n * l) (2 * l * 2 ^ k) n (2 * 2 ^ k) (mul-pos (twice_pos (low f)) (pow_pos k)) (twice_pos k) (swap n l (2 ^ k)))

near_half : (n k : ℕ) → (n ≤ 2 * (closest n (2 * 2 ^ k) * 2 ^ k) + 2 ^ k) × (2 * (closest n (2 * 2 ^ k) * 2 ^ k) ≤ n + 2 ^ k)
near_half n k = go (closest n (2 * 2 ^ k)) (2 ^ k) (near n (2 * 2 ^ k) (twice_pos k))
  where
    go : (q u : ℕ) → (2 * n ≤ 2 * (q * (2 * u)) + 2 * u) × (2 * (q * (2 * u)) ≤ 2 * n + 2 * u)
        → (n ≤ 2 * (q * u) + u) × (2 * (q * u) ≤ n + u)
    go q u e = omega arith

size_gt : (n j : ℕ) → 2 ^ j ≤ n → j < size n
size_gt n j h = lt_of_not-le (λ (g : size n ≤ j). not-le_of_lt (lt_of_lt_of_le (size-lt n) (pow_mono g)) h)

rest_le : (r s : ℕ) → rest_of r s ≤ 1
rest_le r s = go (ltb (r * r) s)
  where
    go : (x : Bool) → cond x 1 0 ≤ 1
    go true = lit≤ tt
    go false = lit≤ tt

all_in_use : (z p : ℕ) → 0 < p → p < z → p - 1 + (z - p) < z
all_in_use z p P h = omega arith

dropped : (z p : ℕ) → p < z → z - p ≡ suc (z - p - 1)
dropped z p h = omega arith

-- From (2 ^ prec) ^ 2 on the root has more digits than the format keeps: at least one is dropped, and the unit is even.
rounding : (f : Format) (s : ℕ) → 2 ^ prec f * 2 ^ prec f ≤ s → let r = root_of s in let k = size r - prec f in
    Rounding s r (closest (2 * r + rest_of r s) (2 * 2 ^ k)) (2 ^ k) (2 ^ (k - 1)) (2 ^ (prec f - 1))
rounding f s large =
    let r = root_of s in
    let p = prec f in
    let k = size r - p in
    let g : p < size r = size_gt r p (le_of_suc-le-suc (square_lt (2 ^ p) (suc r) (lt_of_le_of_lt large (root_lt s)))) in
    let n = near_half (2 * r + rest_of r s) k in
    record {
      even = ap (λ (x : ℕ). 2 ^ x) (dropped (size r) p g) ∙ two-pow-succ (k - 1);
      some = pow_pos (k - 1);
      from = root_le s;
      to = root_lt s;
      base = rw (← pow-add) (size_reaches r (p - 1 + k) (all_in_use (size r) p (two-le_pos p (two f)) g));
      lo = n.1;
      hi = n.0;
    }

-- ---- the theorem
round_root_is : (f : Format) (s : ℕ) → round_root f s ≡ round f false (2 * root_of s + rest_of (root_of s) s) (2 * 2 ^ low f)
unfolding round_root
round_root_is f s = refl

twice_lt : (y r h o : ℕ) → y ≤ 2 * r → r < h → o ≡ h + h → y < o
twice_lt y r h o a b e = omega arith

-- The rounded root is a value of the format.
pub root_fits : (f : Format) (s : ℕ) → T (fits f (round_root f s))
root_fits f s = rw round_root_is (round-fits f false (2 * root_of s + rest_of (root_of s) s) (2 * 2 ^ low f))

-- The rounded root of s is nearest. The first bound says that digits are dropped, the second that the root is below half of where infinity begins.
pub root_nearest : (f : Format) (s : ℕ) → 2 ^ prec f * 2 ^ prec f ≤ s → s < 2 ^ (low f + emax f) * 2 ^ (low f + emax f)
    → NearestRoot f s (round_root f s)
root_nearest f s large small =
    let r = root_of s in
    let n = 2 * r + rest_of r s in
    let k = size r - prec f in
    let Y = closest n (2 * 2 ^ k) * 2 ^ k in
    let o = 2 ^ (low f + emax f) in
    let a = rounding f s large in
    let is : grid f n (2 * 2 ^ low f) ≡ Y = grid_half f r (rest_of r s) (rest_le r s) in
    let twice : overflow f ≡ o + o = ap (λ (x : ℕ). 2 ^ x) (add-suc (low f) (emax f)) ∙ two-pow-succ (low f + emax f) in
    let fine : Y < overflow f =
    twice_lt Y r o (overflow f) (under a (pow_pos (prec f - 1))) (square_lt r o (lt_of_le_of_lt (root_le s) small)) twice in
    record {
      held = root_fits f s;
      units = Y;
      value =
          subst (λ (y : Float). HasValue y false Y (2 ^ low f)) (sym (round_root_is f s))
          (subst (λ (y : ℕ). HasValue (round f false n (2 * 2 ^ low f)) false y (2 ^ low f)) is
          (round_val f n (2 * 2 ^ low f) (subst (λ (y : ℕ). y < overflow f) (sym is) fine)));
      above = λ z Z t v l. above_by a Z (value_spaced f k z Z t v) l;
      below = λ z Z t v l. below_by a Z (value_spaced f k z Z t v) l;
    }

-- ---- a value's square root
wide : (f : Format) → prec f + prec f ≤ low f
wide binary32 = lit≤ tt
wide binary64 = lit≤ tt

tall : (f : Format) → suc (emax f) + low f + low f ≤ low f + emax f + (low f + emax f)
tall binary32 = lit≤ tt
tall binary64 = lit≤ tt

sqrt_is : (f : Format) (m : ℕ) (e : ℤ) → sqrt_of f (fin false (suc m) e) ≡ round_root f (suc m * up e * 2 ^ low f / down e * 2 ^ low f)
unfolding sqrt_of
sqrt_is f m e = refl

-- The square root of every finite value above zero is nearest: such a value is at least 1 and below 2 ^ (emax + 1 + low) smallest values.
pub sqrt_nearest : (f : Format) (m : ℕ) (e : ℤ) → T (fits f (fin false (suc m) e))
    → NearestRoot f (suc m * up e * 2 ^ low f / down e * 2 ^ low f) (sqrt_of f (fin false (suc m) e))
sqrt_nearest f m e t =
    let h = fits_facts f false m e t in
    let l = 2 ^ low f in
    let p = 2 ^ prec f in
    let o = 2 ^ (low f + emax f) in
    let n = suc m * up e * l / down e in
    let some : 1 ≤ n = (le-div_iff_mul-le (down_pos e)).1 (mul-le-mul {n₁ = 1} (mul-pos (zero-lt-suc m) (up_pos e)) h.least) in
    let most : n < 2 ^ suc (emax f) * l =
    (div-lt_iff_lt-mul (down_pos e)).1
    (rw (mul_right_comm (2 ^ suc (emax f)) l (down e)) (mul-lt-mul_of_pos_right h.most (pow_pos (low f)))) in
    let digits : p * p ≤ l = rw (← pow-add) (pow_mono (wide f)) in
    let room : 2 ^ suc (emax f) * l * l ≤ o * o = simp (← pow-add) (pow_mono (tall f)) in
    let large : p * p ≤ n * l = le_trans digits (le_trans (le_of_eq (sym (one-mul l))) (mul-le-mul_right l some)) in
    let small : n * l < o * o = lt_of_lt_of_le (mul-lt-mul_of_pos_right most (pow_pos (low f))) room in
    rw sqrt_is (root_nearest f (n * l) large small)

-- And so the closed statement: the value is suc m * 2 ^ j smallest values.
pub sqrt_is_nearest : SqrtNearest
sqrt_is_nearest f m e t =
    let h = fits_facts f false m e t in
    let (j, w) = in_units (low f) e h.least in
    let n = suc m * 2 ^ j in
    let v : suc m * up e * 2 ^ low f ≡ n * down e = mul_assoc (suc m) (up e) (2 ^ low f) ∙ ap (λ (i : ℕ). suc m * i) w ∙ sym (mul_assoc (suc m) (2 ^ j) (down e)) in
    let u : suc m * up e * 2 ^ low f / down e ≡ n = ap (λ (i : ℕ). i / down e) v ∙ mul-div_cancel n (down_pos e) in
    record {
      units = n;
      value = (refl, v);
      nearest = subst (λ (i : ℕ). NearestRoot f (i * 2 ^ low f) (sqrt_of f (fin false (suc m) e))) u (sqrt_nearest f m e t);
    }

pub sqrt_fits : (f : Format) (x : Float) → T (fits f x) → T (fits f (sqrt_of f x))
unfolding sqrt_of
sqrt_fits f nan t = nan-fits f
sqrt_fits f (inf s) t = cond-fits f s nan (inf false) (nan-fits f) (inf-fits f false)
sqrt_fits f (fin s zero e) t = t
sqrt_fits f (fin s (suc m) e) t =
    let n = suc m * up e * 2 ^ low f / down e * 2 ^ low f in
    cond-fits f s nan (round_root f n) (nan-fits f) (root_fits f n)
