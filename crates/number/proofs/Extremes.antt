-- What `min_of` and `max_of` choose, by the tests that the code makes: equal numbers are the same but for the sign of a zero, and of others the order alone
-- decides. Assumes nothing.
use Rattle.std.proofs.Common.{◌≡◌, ℕ, zero, suc, ◌*◌, ◌^◌, ◌<◌, Bool, true, false, cond, not, ◌&&◌, ◌||◌, T, eqb, ℤ, pos, negsuc, sym, refl, ap, ◌∙◌, subst, zero-lt-suc, mul-pos, one-mul, mul-one, arith, eqb→eq, pow_pos}
use mathlib.Core.Bool.{beq}
use native.Mathlib.Nat.{two-pow-succ, eq_of_mul-eq-mul_right}
use lib.Dec.{eqb_refl}
use lib.Ieee.{Float, nan, inf, fin, binary64, up, down, lt, eq, le, level, is_nan, fits}
use lib.Ieee.Fits.{up_pos, down_pos, and_i, and_l, and_r}
use Rattle.number.specs.Arithmetic.{lower_of, upper_of, negative, zero_of, upper_of, precedes, min_of, max_of}
use Rattle.number.specs.Extremes.{Value, ZeroRule}
use Rattle.number.proofs.Formats.{value_unique}
use Rattle.number.proofs.Places.{or_false, place}

-- ---- zeros

pub zero_rule : ZeroRule
unfolding min_of max_of is_nan lt eq
zero_rule = record { least = least; greatest = greatest }
  where
    least : (s t : Bool) → min_of (zero_of s) (zero_of t) ≡ zero_of (s || t)
    least true true = refl
    least true false = refl
    least false true = refl
    least false false = refl

    greatest : (s t : Bool) → max_of (zero_of s) (zero_of t) ≡ zero_of (s && t)
    greatest true true = refl
    greatest true false = refl
    greatest false true = refl
    greatest false false = refl

-- ---- equal numbers

both_none : (b : Bool) → (b && false) ≡ false
both_none true = refl
both_none false = refl

not_zero : (k : ℕ) → 2 ^ suc k ≡ 1 → ⊥
not_zero k h = let p = pow_pos k in omega (arith, two-pow-succ k)

-- the exponent of a zero
zero_exponent : (s : Bool) (e : ℤ) → Value (fin s zero e) → e ≡ pos 0
unfolding fits
zero_exponent s (pos zero) v = refl
zero_exponent s (pos (suc k)) v = absurd (not_zero k (sym (mul-one (2 ^ suc k)) ∙ eqb→eq (2 ^ suc k * 1) 1 v))
zero_exponent s (negsuc k) v = absurd (not_zero k (sym (one-mul (2 ^ suc k)) ∙ eqb→eq (1 * 2 ^ suc k) 1 v))

pub no_digits : (m u d : ℕ) → 0 < u → 0 < d → m * u * d ≡ 0 → m ≡ 0
no_digits zero u d U D h = refl
no_digits (suc m) u d U D h = absurd (omega (arith, mul-pos (mul-pos (zero-lt-suc m) U) D))

pub is_zero : (s : Bool) (m : ℕ) (e : ℤ) → Value (fin s m e) → m ≡ 0 → fin s m e ≡ zero_of s
is_zero s zero e v h = ap (fin s zero) (zero_exponent s e v)
is_zero s (suc m) e v h = absurd (omega arith)

-- the same value, or two zeros
pub data Alike : Float → Float → Type 0 where
  same : {x y : Float} → x ≡ y → Alike x y
  zeros : {x y : Float} (s t : Bool) → x ≡ zero_of s → y ≡ zero_of t → Alike x y

same_sign : (s t : Bool) → T (beq s t) → s ≡ t
same_sign true true h = refl
same_sign true false h = absurd h
same_sign false true h = absurd h
same_sign false false h = refl

pub alike : (x y : Float) → Value x → Value y → T (eq x y) → Alike x y
unfolding eq is_nan
alike nan y v w h = absurd h
alike (inf s) nan v w h = absurd h
alike (inf s) (inf t) v w h = same (ap inf (same_sign s t h))
alike (inf s) (fin t n d) v w h = absurd h
alike (fin s m e) nan v w h = absurd h
alike (fin s m e) (inf t) v w h = absurd h
alike (fin s m e) (fin t n d) v w h =
    let k = m * up e * down d in
    let l = n * up d * down e in
    signs (beq s t) refl (eqb→eq k l (and_l (eqb k l) (beq s t || eqb k 0) h)) (and_r (eqb k l) (beq s t || eqb k 0) h)
  where
    weighed : (a n w d e l : ℕ) → 0 < e → a * d ≡ n * e → a * l ≡ w * e → n * l ≡ w * d
    weighed a n w d e l E p q = eq_of_mul-eq-mul_right e E (n * l) (w * d) (omega (arith, ap (λ (i : ℕ). i * l) p, ap (λ (i : ℕ). i * d) q))

    signs : (b : Bool) → beq s t ≡ b → m * up e * down d ≡ n * up d * down e → T (b || eqb (m * up e * down d) 0) → Alike (fin s m e) (fin t n d)
    signs true b k h =
        let P = place binary64 (fin s m e) v refl in
        same (value_unique binary64 (fin s m e) (fin t n d) s P.weight v w (refl, P.is.0)
        (sym (same_sign s t (subst T (sym b) tt)), weighed (m * up e) (n * up d) P.weight (down d) (down e) (2 ^ 1074) (down_pos e) k P.is.0))
    signs false b k h =
        let z = eqb→eq (m * up e * down d) 0 h in
        zeros s t (is_zero s m e v (no_digits m (up e) (down d) (up_pos e) (down_pos d) z)) (is_zero t n d w (no_digits n (up d) (down e) (up_pos d) (down_pos e) (sym k ∙ z)))

-- neither is a NaN
pub equal_numbers : (x y : Float) → eq x y ≡ true → (is_nan x ≡ false) × (is_nan y ≡ false)
unfolding eq is_nan
equal_numbers nan y h = absurd (subst T (sym h) tt)
equal_numbers (inf s) nan h = absurd (subst T (sym h) tt)
equal_numbers (inf s) (inf t) h = (refl, refl)
equal_numbers (inf s) (fin t n d) h = (refl, refl)
equal_numbers (fin s m e) nan h = absurd (subst T (sym h) tt)
equal_numbers (fin s m e) (inf t) h = (refl, refl)
equal_numbers (fin s m e) (fin t n d) h = (refl, refl)

-- what is chosen of two that are no NaN is none
one_of : (b c : Bool) (x y : Float) → is_nan x ≡ false → is_nan y ≡ false → is_nan (cond b y (cond c y x)) ≡ false
one_of true c x y p q = q
one_of false true x y p q = q
one_of false false x y p q = p

pub min_number : (x y : Float) → is_nan x ≡ false → is_nan y ≡ false → is_nan (min_of x y) ≡ false
unfolding min_of
min_number x y = one_of (is_nan x) (precedes y x) x y

pub max_number : (x y : Float) → is_nan x ≡ false → is_nan y ≡ false → is_nan (max_of x y) ≡ false
unfolding max_of
max_number x y = one_of (is_nan x) (precedes x y) x y

-- ---- numbers that are not equal

equal_back : (k l : ℕ) → T (eqb k l) → T (eqb l k)
equal_back k l h = subst (λ (i : ℕ). T (eqb l i)) (sym (eqb→eq k l h)) (eqb_refl l)

level_back : (s t : Bool) (k l : ℕ) → T (level s k t l) → T (level t l s k)
level_back s t k l h =
    let e = and_l (eqb k l) (beq s t || eqb k 0) h in
    and_i (eqb l k) (beq t s || eqb l 0) (equal_back k l e)
    (subst (λ (i : ℕ). T (beq t s || eqb i 0)) (eqb→eq k l e) (turned s t (and_r (eqb k l) (beq s t || eqb k 0) h)))
  where
    turned : (s t : Bool) → T (beq s t || eqb k 0) → T (beq t s || eqb k 0)
    turned true true h = h
    turned true false h = h
    turned false true h = h
    turned false false h = h

equal_turned : (x y : Float) → T (eq y x) → T (eq x y)
unfolding eq
equal_turned nan nan h = h
equal_turned nan (inf t) h = h
equal_turned nan (fin t n d) h = h
equal_turned (inf s) nan h = h
equal_turned (inf true) (inf true) h = h
equal_turned (inf true) (inf false) h = h
equal_turned (inf false) (inf true) h = h
equal_turned (inf false) (inf false) h = h
equal_turned (inf s) (fin t n d) h = h
equal_turned (fin s m e) nan h = h
equal_turned (fin s m e) (inf t) h = h
equal_turned (fin s m e) (fin t n d) h = level_back t s (n * up d * down e) (m * up e * down d) h

unequal_turned : (x y : Float) → eq x y ≡ false → eq y x ≡ false
unequal_turned x y h = go (eq y x) (equal_turned x y)
  where
    go : (b : Bool) → (T b → T (eq x y)) → b ≡ false
    go true f = absurd (subst T h (f tt))
    go false f = refl

by_order : (x y : Float) → eq x y ≡ false → precedes x y ≡ lt x y
unfolding precedes
by_order x y h = rw h (ap (λ (b : Bool). lt x y || b) (both_none (negative x && not (negative y))) ∙ or_false (lt x y))

-- A test t that chooses between y and f, which is y itself where n holds, and x elsewhere.
chosen : (t : Float → Bool) (x y f : Float) (n b : Bool) → f ≡ cond n y x → t f ≡ b → cond b y f ≡ cond n y (cond (t x) y x)
chosen t x y f true true e l = refl
chosen t x y f true false e l = e
chosen t x y f false b e l = sym (ap (λ (z : Bool). cond z y f) l) ∙ ap (λ (z : Float). cond (t z) y z) e

module _ (x y f : Float) (h : eq x y ≡ false) (e : f ≡ cond (is_nan x) y x) where
  pub min_from : lower_of f y ≡ min_of x y
  unfolding min_of
  min_from = chosen (λ z. lt y z) x y f (is_nan x) (lt y f) e refl ∙ rw (by_order y x (unequal_turned x y h))

  pub max_from : upper_of f y ≡ max_of x y
  unfolding max_of
  max_from = chosen (λ z. lt z y) x y f (is_nan x) (lt f y) e refl ∙ rw (by_order x y h)

-- what comes before a number is at most it, and what does not is not less
pub precedes_le : (x y : Float) → T (precedes x y) → T (le x y)
unfolding precedes le
precedes_le x y h = go (lt x y) (negative x && not (negative y)) (eq x y) h
  where
    go : (b c d : Bool) → T (b || (c && d)) → T (b || d)
    go true c d t = tt
    go false true d t = t
    go false false d t = absurd t

pub not_precedes : (x y : Float) → T (not (precedes x y)) → T (not (lt x y))
unfolding precedes
not_precedes x y h = go (lt x y) (negative x && not (negative y) && eq x y) h
  where
    go : (b c : Bool) → T (not (b || c)) → T (not b)
    go true c t = t
    go false c t = tt

-- above a number that is not negative one comparison finds the larger
pub upper_positive : (x y : Float) → is_nan x ≡ false → negative x ≡ false → upper_of x y ≡ max_of x y
unfolding max_of precedes
upper_positive x y n s = rw (n, s, or_false (lt x y))
