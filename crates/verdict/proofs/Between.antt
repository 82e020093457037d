-- A float between two whole numbers above 0 is m * 2 ^ e, not negative, and its whole part lies between them too. Assumes nothing.
use Rattle.std.proofs.Common.{◌≡◌, ℕ, suc, ◌+◌, ◌*◌, ◌/◌, ◌^◌, ◌<◌, ◌≤◌, Bool, true, false, ◌&&◌, ◌||◌, T, eqb, ltb, ◌⊎◌, pos, refl, ap, inl, inr, true≢false, mul-le-mul_right, div-lt_iff_lt-mul, eq-or-lt_of_le, mul-lt-mul_of_pos_right, mul-pos, le-div_iff_mul-le, le_of_mul-le-mul_right, arith, eqb→eq, ltb→lt, lt→ltb}
use mathlib.Core.Bool.{beq}
use lib.Ieee.{Float, nan, inf, fin, up, down, lt, le, eq, below, level, to_unsigned}
use lib.Ieee.Exact.{HasValue}
use lib.Ieee.Fits.{down_pos, eq→eqb, and_r}
use Rattle.verdict.specs.View.{whole_part}

-- the number x is from a to b
abbrev pub Between : ℕ → ℕ → Float → Type 0
Between a b nan = ⊥
Between a b (inf s) = ⊥
Between a b (fin s m e) = (s ≡ false) × (a * down e ≤ m * up e) × (m * up e ≤ b * down e)

-- ---- comparisons with a whole number

-- k is at most l, and then not above a negative number
at_most : (k l : ℕ) → T (below false k false l || level false k false l) → k ≤ l
at_most k l t = go (ltb k l) (eqb k l) (ltb→lt k l) (eqb→eq k l) t
  where
    go : (x y : Bool) → (T x → k < l) → (T y → k ≡ l) → T (x || y && true) → k ≤ l
    go true y f g t = omega (arith, f tt)
    go false true f g t = omega (arith, g tt)
    go false false f g t = elim t [ ]

not_below : (k l : ℕ) → 0 < k → T (below false k true l || level false k true l) → ⊥
not_below k l h t = go (eqb k 0) (eqb→eq k 0) (and_r (eqb k l) (eqb k 0) t)
  where
    go : (y : Bool) → (T y → k ≡ 0) → T y → ⊥
    go true g t = omega (arith, g tt)
    go false g t = elim t [ ]

-- from (k / i) ≤ (l / j), where k / i is a, to a ≤ l / j; and the other way round
from_below : (k a i l j : ℕ) → 0 < i → k * 1 ≡ a * i → k * j ≤ l * i → a * j ≤ l
from_below k a i l j h e t = le_of_mul-le-mul_right {k = i} (omega (arith, ap (λ (n : ℕ). n * j) e)) h

from_above : (k b i l j : ℕ) → 0 < i → k * 1 ≡ b * i → l * i ≤ k * j → l ≤ b * j
from_above k b i l j h e t = le_of_mul-le-mul_right {k = i} (omega (arith, ap (λ (n : ℕ). n * j) e)) h

pub between : (a b : ℕ) (y z x : Float) → 0 < a → HasValue y false a 1 → HasValue z false b 1 → T (le y x) → T (le x z) → Between a b x
unfolding le lt eq
between a b (fin true k d) z x h v w t u = absurd (true≢false v.0)
between a b nan z x h v w t u = elim v [ ]
between a b (inf _) z x h v w t u = elim v [ ]
between a b (fin false k d) nan x h v w t u = elim w [ ]
between a b (fin false k d) (inf _) x h v w t u = elim w [ ]
between a b (fin false k d) (fin true l g) x h v w t u = absurd (true≢false w.0)
between a b (fin false k d) (fin false l g) nan h v w t u = absurd t
between a b (fin false k d) (fin false l g) (inf true) h v w t u = absurd t
between a b (fin false k d) (fin false l g) (inf false) h v w t u = absurd u
between a b (fin false k d) (fin false l g) (fin true m e) h v w t u =
    absurd (not_below (k * up d * down e) (m * up e * down d)
    (let p = mul-pos (mul-pos h (down_pos d)) (down_pos e) in omega (arith, p, ap (λ (n : ℕ). n * down e) v.1)) t)
between a b (fin false k d) (fin false l g) (fin false m e) h v w t u = (
  refl,
  from_below (k * up d) a (down d) (m * up e) (down e) (down_pos d) v.1 (at_most (k * up d * down e) (m * up e * down d) t),
  from_above (l * up g) b (down g) (m * up e) (down e) (down_pos g) w.1 (at_most (m * up e * down g) (l * up g * down e) u),
)

-- ---- what equals a whole number

level_to : (s : Bool) (k l : ℕ) → 0 < k → T (level s l false k) → (s ≡ false) × (l ≡ k)
level_to s k l h t = go s (eqb l k) (eqb l 0) (eqb→eq l k) (eqb→eq l 0) t
  where
    go : (s y z : Bool) → (T y → l ≡ k) → (T z → l ≡ 0) → T (y && (beq s false || z)) → (s ≡ false) × (l ≡ k)
    go false true z f g t = (refl, f tt)
    go true true true f g t = absurd (omega (arith, f tt, g tt))
    go false false z f g t = elim t [ ]
    go true false z f g t = elim t [ ]
    go true true false f g t = elim t [ ]

pub equal : (n : ℕ) (y x : Float) → 0 < n → HasValue y false n 1 → T (eq x y) → Between n n x
unfolding eq
equal n (fin true k d) x h v t = absurd (true≢false v.0)
equal n nan x h v t = elim v [ ]
equal n (inf _) x h v t = elim v [ ]
equal n (fin false k d) nan h v t = absurd t
equal n (fin false k d) (inf s) h v t = absurd t
equal n (fin false k d) (fin s m e) h v t =
    let p = mul-pos (mul-pos h (down_pos d)) (down_pos e) in
    let r = ap (λ (j : ℕ). j * down e) v.1 in
    let q = level_to s (k * up d * down e) (m * up e * down d) (omega (arith, p, r)) t in
    let i : m * up e * down d ≤ k * up d * down e = omega (arith, q.1) in
    let j : k * up d * down e ≤ m * up e * down d = omega (arith, q.1) in
    (q.0, from_below (k * up d) n (down d) (m * up e) (down e) (down_pos d) v.1 j, from_above (k * up d) n (down d) (m * up e) (down e) (down_pos d) v.1 i)

-- ---- and how it compares

at_most_is : (k l : ℕ) → k ≤ l → T (below false k false l || level false k false l)
at_most_is k l h = go (ltb k l) (eqb k l) (lt→ltb k l) (λ e. eq→eqb e) (eq-or-lt_of_le h)
  where
    go : (x y : Bool) → (k < l → T x) → (k ≡ l → T y) → (k ≡ l) ⊎ (k < l) → T (x || y && true)
    go true y f g w = tt
    go false true f g w = tt
    go false false f g (inl e) = g e
    go false false f g (inr e) = f e

pub above : (a n b : ℕ) (y x : Float) → a ≤ n → HasValue y false a 1 → Between n b x → T (le y x)
unfolding le lt eq
above a n b (fin true k d) x h v w = absurd (true≢false v.0)
above a n b nan x h v w = elim v [ ]
above a n b (inf _) x h v w = elim v [ ]
above a n b (fin false k d) nan h v w = elim w [ ]
above a n b (fin false k d) (inf _) h v w = elim w [ ]
above a n b (fin false k d) (fin true m e) h v w = absurd (true≢false w.0)
above a n b (fin false k d) (fin false m e) h v w =
    at_most_is (k * up d * down e) (m * up e * down d)
    (omega (arith, ap (λ (j : ℕ). j * down e) v.1, mul-le-mul_right (down e * down d) h, mul-le-mul_right (down d) w.1))

pub under : (a n b : ℕ) (y x : Float) → n ≤ b → HasValue y false b 1 → Between a n x → T (le x y)
unfolding le lt eq
under a n b (fin true k d) (fin true m e) h v w = absurd (true≢false v.0)
under a n b nan _ h v w = elim v [ ]
under a n b (inf _) _ h v w = elim v [ ]
under a n b (fin false k d) nan h v w = elim w [ ]
under a n b (fin false k d) (inf _) h v w = elim w [ ]
under a n b (fin true k d) nan h v w = elim w [ ]
under a n b (fin true k d) (inf _) h v w = elim w [ ]
under a n b (fin true k d) (fin false m e) h v w = absurd (true≢false v.0)
under a n b (fin false k d) (fin true m e) h v w = absurd (true≢false w.0)
under a n b (fin false k d) (fin false m e) h v w =
    at_most_is (m * up e * down d) (k * up d * down e)
    (omega (arith, ap (λ (j : ℕ). j * down e) v.1, mul-le-mul_right (down e * down d) h, mul-le-mul_right (down d) w.2))

-- ---- what such a number is

module _ (a b : ℕ) (room : b < 2 ^ 64) where
  pub whole_part_lem : (x : Float) → Between a b x → (a ≤ whole_part x) × (whole_part x ≤ b)
  unfolding to_unsigned
  whole_part_lem (fin true m e) h = absurd (true≢false h.0)
  whole_part_lem nan h = elim h [ ]
  whole_part_lem (inf _) h = elim h [ ]
  whole_part_lem (fin false m e) h =
      let q = m * up e / down e in
      let l : a ≤ q = (le-div_iff_mul-le (down_pos e)).1 h.1 in
      let r : q < suc b = (div-lt_iff_lt-mul (down_pos e)).1 (omega (arith, h.2, down_pos e)) in
      (omega arith, omega arith)

  -- the whole part can be taken
  pub in_range : (x : Float) → Between a b x → T (lt (fin true 1 (pos 0)) x) × T (lt x (fin false 1 (pos 64)))
  unfolding lt
  in_range (fin true m e) h = absurd (true≢false h.0)
  in_range nan h = elim h [ ]
  in_range (inf _) h = elim h [ ]
  in_range (fin false m e) h = (
    lt→ltb 0 (1 * 2 ^ 0 * down e + m * up e * 1) (omega (arith, down_pos e)),
    lt→ltb (m * up e * 1) (1 * 2 ^ 64 * down e) (omega (arith, h.2, mul-lt-mul_of_pos_right room (down_pos e))),
  )
