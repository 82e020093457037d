-- The order of the numbers, -0 before +0: each number has a place in it, `precedes` compares the places, and no two values of a format have one place.
-- The idea: in the format's smallest values a magnitude is a whole number, its weight, below that of infinity. The positive numbers come after the
-- negative ones by their weights, the negative ones by theirs turned round. Assumes nothing.
use Rattle.std.proofs.Common.{◌≡◌, ℕ, zero, suc, ◌+◌, ◌-◌, ◌*◌, ◌^◌, ◌<◌, ◌≤◌, Bool, true, false, not, ◌&&◌, ◌||◌, T, eqb, ltb, sym, refl, ap, ◌∙◌, subst, mul_assoc, lt_of_mul-lt-mul_right, mul-lt-mul_of_pos_right, mul-pos, arith, ltb→lt, lt→ltb, pow_pos, pow-add, le-ltb, lt-ltb}
use mathlib.Core.Bool.{beq}
use lib.Ieee.{Float, nan, inf, fin, Format, low, emax, up, down, below, level, lt, eq, fits, is_nan}
use lib.Ieee.Fits.{down_pos}
use Rattle.number.specs.Arithmetic.{negative, precedes}
use Rattle.number.proofs.Formats.{value_unique, bound}
use Rattle.number.proofs.Spacing.{fits_facts, in_units}

-- ---- tests of natural numbers

pub same_test : (b c : Bool) → (T b → T c) → (T c → T b) → b ≡ c
same_test true true f g = refl
same_test true false f g = absurd (f tt)
same_test false true f g = absurd (g tt)
same_test false false f g = refl

pub or_false : (b : Bool) → (b || false) ≡ b
or_false true = refl
or_false false = refl

-- two zeros of different signs, or at least one number that is none
apart : (k l : ℕ) → (ltb 0 (k + l) || (eqb k l && eqb k 0)) ≡ true
apart zero zero = refl
apart (suc k) l = rw (lt-ltb 0 (suc k + l) (omega arith))
apart zero (suc l) = rw (lt-ltb 0 (0 + suc l) (omega arith))

-- ---- places by weights

-- where the weight of infinity is i
abbrev placed : ℕ → Bool → ℕ → ℕ
placed i true w = i - w
placed i false w = suc i + w

-- with both zeros at one place
abbrev levelled : ℕ → Bool → ℕ → ℕ
levelled i true w = i - w
levelled i false w = i + w

-- the kit's comparison of two magnitudes k and l with their signs, where these are a and b smallest values
module _ (k l u a b v i : ℕ) (U : 0 < u) (W : 0 < v) (p : k * u ≡ a * v) (q : l * u ≡ b * v) (A : a < i) (B : b < i) where
  forth : (ltb k l) ≡ ltb a b
  forth = same_test (ltb k l) (ltb a b)
      (λ t. lt→ltb a b (lt_of_mul-lt-mul_right v (omega (arith, mul-lt-mul_of_pos_right (ltb→lt k l t) U))))
      (λ t. lt→ltb k l (lt_of_mul-lt-mul_right u (omega (arith, mul-lt-mul_of_pos_right (ltb→lt a b t) W))))

  back : (ltb l k) ≡ ltb b a
  back = same_test (ltb l k) (ltb b a)
      (λ t. lt→ltb b a (lt_of_mul-lt-mul_right v (omega (arith, mul-lt-mul_of_pos_right (ltb→lt l k t) U))))
      (λ t. lt→ltb l k (lt_of_mul-lt-mul_right u (omega (arith, mul-lt-mul_of_pos_right (ltb→lt b a t) W))))

  compared : (s t : Bool) → (below s k t l || (s && not t && level s k t l)) ≡ ltb (placed i s a) (placed i t b)
  compared false false = or_false (ltb k l) ∙ forth ∙ same_test (ltb a b) (ltb (suc i + a) (suc i + b))
      (λ t. let h = ltb→lt a b t in lt→ltb (suc i + a) (suc i + b) (omega arith))
      (λ t. let h = ltb→lt (suc i + a) (suc i + b) t in lt→ltb a b (omega arith))
  compared false true = sym (le-ltb (suc i + a) (i - b) (omega arith))
  compared true false = apart k l ∙ sym (lt-ltb (i - a) (suc i + b) (omega arith))
  compared true true = or_false (ltb l k) ∙ back ∙ same_test (ltb b a) (ltb (i - a) (i - b))
      (λ t. let h = ltb→lt b a t in lt→ltb (i - a) (i - b) (omega arith))
      (λ t. let h = ltb→lt (i - a) (i - b) t in lt→ltb b a (omega arith))

  ranked : (s t : Bool) → below s k t l ≡ ltb (levelled i s a) (levelled i t b)
  ranked false false = forth ∙ same_test (ltb a b) (ltb (i + a) (i + b))
      (λ t. let h = ltb→lt a b t in lt→ltb (i + a) (i + b) (omega arith))
      (λ t. let h = ltb→lt (i + a) (i + b) t in lt→ltb a b (omega arith))
  ranked false true = sym (le-ltb (i + a) (i - b) (omega arith))
  ranked true false = same_test (ltb 0 (k + l)) (ltb (i - a) (i + b))
      (λ t. let h : 0 < a + b = lt_of_mul-lt-mul_right v (omega (arith, mul-lt-mul_of_pos_right (ltb→lt 0 (k + l) t) U)) in lt→ltb (i - a) (i + b) (omega arith))
      (λ t. let h : 0 < a + b = let g = ltb→lt (i - a) (i + b) t in omega arith in
      lt→ltb 0 (k + l) (lt_of_mul-lt-mul_right u (omega (arith, mul-lt-mul_of_pos_right h W))))
  ranked true true = back ∙ same_test (ltb b a) (ltb (i - a) (i - b))
      (λ t. let h = ltb→lt b a t in lt→ltb (i - a) (i - b) (omega arith))
      (λ t. let h = ltb→lt (i - a) (i - b) t in lt→ltb b a (omega arith))

-- ---- the place of a number

-- the weight of infinity, above that of every finite number
abbrev endless : Format → ℕ
endless f = 2 ^ (low f + suc (emax f))

abbrev Weighs : Format → Float → ℕ → Type 0
Weighs f nan w = ⊥
Weighs f (inf s) w = w ≡ endless f
Weighs f (fin s m e) w = (m * up e * 2 ^ low f ≡ w * down e) × (w < endless f)

pub record Place (f : Format) (x : Float) : Type 0 where
  pub weight : ℕ
  pub is : Weighs f x weight

abbrev pub at : (f : Format) (x : Float) → Place f x → ℕ
at f x P = placed (endless f) (negative x) P.weight

-- each number that is a value of the format has one
pub place : (f : Format) (x : Float) → T (fits f x) → is_nan x ≡ false → Place f x
unfolding is_nan
place f nan t n = absurd (subst T n tt)
place f (inf s) t n = record { weight = endless f; is = refl }
place f (fin s zero e) t n = record { weight = 0; is = (omega arith, pow_pos (low f + suc (emax f))) }
place f (fin s (suc m) e) t n =
    let h = fits_facts f s m e t in
    let (j, w) = in_units (low f) e h.least in
    let v : suc m * up e * 2 ^ low f ≡ suc m * 2 ^ j * down e =
    mul_assoc (suc m) (up e) (2 ^ low f) ∙ ap (λ (i : ℕ). suc m * i) w ∙ sym (mul_assoc (suc m) (2 ^ j) (down e)) in
    record {
      weight = suc m * 2 ^ j;
      is = (v, rw (pow-add 2 (low f) (suc (emax f))) (bound (suc m) (up e) (down e) (2 ^ j) (2 ^ low f) (2 ^ suc (emax f)) (pow_pos (low f)) v h.most));
    }

module _ (i a b : ℕ) where
  infinities : (s t : Bool) → a ≡ i → b ≡ i → (s && not t || (s && not t && beq s t)) ≡ ltb (placed i s a) (placed i t b)
  infinities false false p q = sym (le-ltb (suc i + a) (suc i + b) (omega arith))
  infinities false true p q = sym (le-ltb (suc i + a) (i - b) (omega arith))
  infinities true false p q = sym (lt-ltb (i - a) (suc i + b) (omega arith))
  infinities true true p q = sym (le-ltb (i - a) (i - b) (omega arith))

  from_infinity : (s t : Bool) → a ≡ i → b < i → (s || (s && not t && false)) ≡ ltb (placed i s a) (placed i t b)
  from_infinity false false p q = sym (le-ltb (suc i + a) (suc i + b) (omega arith))
  from_infinity false true p q = sym (le-ltb (suc i + a) (i - b) (omega arith))
  from_infinity true false p q = sym (lt-ltb (i - a) (suc i + b) (omega arith))
  from_infinity true true p q = sym (lt-ltb (i - a) (i - b) (omega arith))

  to_infinity : (s t : Bool) → a < i → b ≡ i → (not t || (s && not t && false)) ≡ ltb (placed i s a) (placed i t b)
  to_infinity false false p q = sym (lt-ltb (suc i + a) (suc i + b) (omega arith))
  to_infinity false true p q = sym (le-ltb (suc i + a) (i - b) (omega arith))
  to_infinity true false p q = sym (lt-ltb (i - a) (suc i + b) (omega arith))
  to_infinity true true p q = sym (le-ltb (i - a) (i - b) (omega arith))

-- over a common denominator
pub over : (k u w e d : ℕ) → k * u ≡ w * e → k * d * u ≡ w * (e * d)
over k u w e d h = omega (arith, ap (λ (i : ℕ). i * d) h)

pub under : (k u w e d : ℕ) → k * u ≡ w * e → k * d * u ≡ w * (d * e)
under k u w e d h = omega (arith, ap (λ (i : ℕ). i * d) h)

-- the first comes before the second where its place does
pub precedes_is : (f : Format) (x y : Float) (P : Place f x) (Q : Place f y) → precedes x y ≡ ltb (at f x P) (at f y Q)
unfolding precedes lt eq
precedes_is f nan y P Q = absurd P.is
precedes_is f (inf s) nan P Q = absurd Q.is
precedes_is f (inf s) (inf t) P Q = infinities (endless f) P.weight Q.weight s t P.is Q.is
precedes_is f (inf s) (fin t n d) P Q = from_infinity (endless f) P.weight Q.weight s t P.is Q.is.1
precedes_is f (fin s m e) nan P Q = absurd Q.is
precedes_is f (fin s m e) (inf t) P Q = to_infinity (endless f) P.weight Q.weight s t P.is.1 Q.is
precedes_is f (fin s m e) (fin t n d) P Q =
    compared (m * up e * down d) (n * up d * down e) (2 ^ low f) P.weight Q.weight (down e * down d) (endless f) (pow_pos (low f)) (mul-pos (down_pos e) (down_pos d))
    (over (m * up e) (2 ^ low f) P.weight (down e) (down d) P.is.0) (under (n * up d) (2 ^ low f) Q.weight (down d) (down e) Q.is.0) P.is.1 Q.is.1 s t

-- and is less where its level is
abbrev pub level_of : (f : Format) (x : Float) → Place f x → ℕ
level_of f x P = levelled (endless f) (negative x) P.weight

module _ (i a b : ℕ) where
  infinite_levels : (s t : Bool) → 0 < i → a ≡ i → b ≡ i → (s && not t) ≡ ltb (levelled i s a) (levelled i t b)
  infinite_levels false false I p q = sym (le-ltb (i + a) (i + b) (omega arith))
  infinite_levels false true I p q = sym (le-ltb (i + a) (i - b) (omega arith))
  infinite_levels true false I p q = sym (lt-ltb (i - a) (i + b) (omega arith))
  infinite_levels true true I p q = sym (le-ltb (i - a) (i - b) (omega arith))

  level_from_infinity : (s t : Bool) → a ≡ i → b < i → s ≡ ltb (levelled i s a) (levelled i t b)
  level_from_infinity false false p q = sym (le-ltb (i + a) (i + b) (omega arith))
  level_from_infinity false true p q = sym (le-ltb (i + a) (i - b) (omega arith))
  level_from_infinity true false p q = sym (lt-ltb (i - a) (i + b) (omega arith))
  level_from_infinity true true p q = sym (lt-ltb (i - a) (i - b) (omega arith))

  level_to_infinity : (s t : Bool) → a < i → b ≡ i → not t ≡ ltb (levelled i s a) (levelled i t b)
  level_to_infinity false false p q = sym (lt-ltb (i + a) (i + b) (omega arith))
  level_to_infinity false true p q = sym (le-ltb (i + a) (i - b) (omega arith))
  level_to_infinity true false p q = sym (lt-ltb (i - a) (i + b) (omega arith))
  level_to_infinity true true p q = sym (le-ltb (i - a) (i - b) (omega arith))

pub lt_is : (f : Format) (x y : Float) (P : Place f x) (Q : Place f y) → lt x y ≡ ltb (level_of f x P) (level_of f y Q)
unfolding lt
lt_is f nan y P Q = absurd P.is
lt_is f (inf s) nan P Q = absurd Q.is
lt_is f (inf s) (inf t) P Q = infinite_levels (endless f) P.weight Q.weight s t (pow_pos (low f + suc (emax f))) P.is Q.is
lt_is f (inf s) (fin t n d) P Q = level_from_infinity (endless f) P.weight Q.weight s t P.is Q.is.1
lt_is f (fin s m e) nan P Q = absurd Q.is
lt_is f (fin s m e) (inf t) P Q = level_to_infinity (endless f) P.weight Q.weight s t P.is.1 Q.is
lt_is f (fin s m e) (fin t n d) P Q =
    ranked (m * up e * down d) (n * up d * down e) (2 ^ low f) P.weight Q.weight (down e * down d) (endless f) (pow_pos (low f)) (mul-pos (down_pos e) (down_pos d))
    (over (m * up e) (2 ^ low f) P.weight (down e) (down d) P.is.0) (under (n * up d) (2 ^ low f) Q.weight (down d) (down e) Q.is.0) P.is.1 Q.is.1 s t

weight_most : (f : Format) (x : Float) (w : ℕ) → Weighs f x w → w ≤ endless f
weight_most f nan w h = absurd h
weight_most f (inf s) w h = omega arith
weight_most f (fin s m e) w h = let l = h.1 in omega arith

same_place : (i a b : ℕ) (s t : Bool) → a ≤ i → b ≤ i → placed i s a ≡ placed i t b → (s ≡ t) × (a ≡ b)
same_place i a b false false A B e = (refl, omega arith)
same_place i a b false true A B e = absurd (omega arith)
same_place i a b true false A B e = absurd (omega arith)
same_place i a b true true A B e = (refl, omega arith)

same_weight : (f : Format) (x y : Float) (w : ℕ) → T (fits f x) → T (fits f y) → negative x ≡ negative y → Weighs f x w → Weighs f y w → x ≡ y
same_weight f nan y w t r e p q = absurd p
same_weight f (inf a) nan w t r e p q = absurd q
same_weight f (inf a) (inf b) w t r e p q = ap inf e
same_weight f (inf a) (fin b n d) w t r e p q = absurd (let l = q.1 in omega arith)
same_weight f (fin a m e) nan w t r s p q = absurd q
same_weight f (fin a m e) (inf b) w t r s p q = absurd (let l = p.1 in omega arith)
same_weight f (fin a m e) (fin b n d) w t r s p q = value_unique f (fin a m e) (fin b n d) a w t r (refl, p.0) (sym s, q.0)

-- no two values have one place
pub place_unique : (f : Format) (x y : Float) (P : Place f x) (Q : Place f y) → T (fits f x) → T (fits f y) → at f x P ≡ at f y Q → x ≡ y
place_unique f x y P Q t r e =
    let h = same_place (endless f) P.weight Q.weight (negative x) (negative y) (weight_most f x P.weight P.is) (weight_most f y Q.weight Q.is) e in
    same_weight f x y P.weight t r h.0 P.is (subst (Weighs f y) (sym h.1) Q.is)

-- what has no later place has no higher level
pub place_level : (f : Format) (x y : Float) (P : Place f x) (Q : Place f y) → at f x P ≤ at f y Q → level_of f x P ≤ level_of f y Q
place_level f x y P Q h =
    go (endless f) P.weight Q.weight (negative x) (negative y) (weight_most f x P.weight P.is) (weight_most f y Q.weight Q.is) h
  where
    go : (i a b : ℕ) (s t : Bool) → a ≤ i → b ≤ i → placed i s a ≤ placed i t b → levelled i s a ≤ levelled i t b
    go i a b false false A B h = omega arith
    go i a b false true A B h = absurd (omega arith)
    go i a b true false A B h = omega arith
    go i a b true true A B h = omega arith
