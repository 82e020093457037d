-- The comparisons of floats are an order: `le` passes through a number between, `lt` is told apart from `le` turned round, and what lies between finite numbers is finite.
-- The idea: a finite number is a size with a sign, a difference p - q of which one is 0, over c; two such are in order just where p c' + q' c is at most p' c + q c',
-- which is a sentence of whole numbers. Assumes nothing.
use Rattle.std.proofs.Common.{◌≡◌, ℕ, ◌+◌, ◌*◌, ◌<◌, ◌≤◌, Bool, true, false, not, ◌&&◌, ◌||◌, T, eqb, ltb, sym, refl, ap, subst, mul-le-mul_right, le_of_mul-le-mul_right, arith, eqb→eq, ltb→lt, ltb-false, ltb-true, eq-eqb}
use lib.Ieee.{Float, nan, inf, fin, up, down, level, below, lt, eq, le, neg, is_nan}
use lib.Ieee.Fits.{down_pos, and_l, and_r}
use lib.Ieee.Scale.{finite}

-- ---- sizes with signs, as differences

-- what a size with its sign has above zero, and below it
abbrev pub over_zero : Bool → ℕ → ℕ
over_zero false n = n
over_zero true n = 0

abbrev pub under_zero : Bool → ℕ → ℕ
under_zero false n = 0
under_zero true n = n

-- X / dx with the sign s is at most Y / dy with the sign t
abbrev pub InOrder : Bool → ℕ → ℕ → Bool → ℕ → ℕ → Type 0
InOrder s X dx t Y dy = over_zero s X * dy + under_zero t Y * dx ≤ over_zero t Y * dx + under_zero s X * dy

-- the test `le` of two finite numbers, whose sizes are brought to one denominator
abbrev compared : Bool → ℕ → Bool → ℕ → Bool
compared s A t B = below s A t B || level s A t B

-- ---- what the tests of whole numbers say

-- `le` of whole numbers, either way round, as the test of two floats with one sign computes it
from_tests : (k l : ℕ) → T (ltb k l || (eqb k l && true)) → k ≤ l
from_tests k l = go (ltb k l) refl
  where
    go : (b : Bool) → ltb k l ≡ b → T (b || (eqb k l && true)) → k ≤ l
    go true e t = let h = ltb-true k l e in omega arith
    go false e t = let h = eqb→eq k l (and_l (eqb k l) true t) in omega arith

from_tests_back : (k l : ℕ) → T (ltb l k || (eqb k l && true)) → l ≤ k
from_tests_back k l = go (ltb l k) refl
  where
    go : (b : Bool) → ltb l k ≡ b → T (b || (eqb k l && true)) → l ≤ k
    go true e t = let h = ltb-true l k e in omega arith
    go false e t = let h = eqb→eq k l (and_l (eqb k l) true t) in omega arith

to_tests : (k l : ℕ) → k ≤ l → T (ltb k l || (eqb k l && true))
to_tests k l h = go (ltb k l) refl
  where
    go : (b : Bool) → ltb k l ≡ b → T (b || (eqb k l && true))
    go true e = tt
    go false e = let g = ltb-false k l e in rw (eq-eqb k l (omega arith)) tt

to_tests_back : (k l : ℕ) → l ≤ k → T (ltb l k || (eqb k l && true))
to_tests_back k l h = go (ltb l k) refl
  where
    go : (b : Bool) → ltb l k ≡ b → T (b || (eqb k l && true))
    go true e = tt
    go false e = let g = ltb-false l k e in rw (eq-eqb k l (omega arith)) tt

-- across zero a number that is not below another one is a zero, as the other is
both_zero : (k l : ℕ) → T (eqb k l && (false || eqb k 0)) → k + l ≡ 0
both_zero k l t =
    let p = eqb→eq k l (and_l (eqb k l) (false || eqb k 0) t) in
    let q = eqb→eq k 0 (and_r (eqb k l) (false || eqb k 0) t) in
    omega arith

across : (k l : ℕ) → T (ltb 0 (k + l) || (eqb k l && (false || eqb k 0)))
across k l = go (ltb 0 (k + l)) refl
  where
    go : (b : Bool) → ltb 0 (k + l) ≡ b → T (b || (eqb k l && (false || eqb k 0)))
    go true e = tt
    go false e = let g = ltb-false 0 (k + l) e in rw (eq-eqb k l (omega arith), eq-eqb k 0 (omega arith)) tt

zeros : (k l : ℕ) → k + l ≡ 0 → T (eqb k l && (false || eqb k 0))
zeros k l h = rw (eq-eqb k l (omega arith), eq-eqb k 0 (omega arith)) tt

-- ---- the tests of finite numbers and the order of their differences

-- the test says that they are in order
pub test_order : (s t : Bool) (X dx Y dy : ℕ) → T (compared s (X * dy) t (Y * dx)) → InOrder s X dx t Y dy
test_order false false X dx Y dy h = let g = from_tests (X * dy) (Y * dx) h in omega arith
test_order true true X dx Y dy h = let g = from_tests_back (X * dy) (Y * dx) h in omega arith
test_order true false X dx Y dy h = omega arith
test_order false true X dx Y dy h = let g = both_zero (X * dy) (Y * dx) h in omega arith

-- where they are in order the test holds
pub order_test : (s t : Bool) (X dx Y dy : ℕ) → InOrder s X dx t Y dy → T (compared s (X * dy) t (Y * dx))
order_test false false X dx Y dy h = to_tests (X * dy) (Y * dx) (omega arith)
order_test true true X dx Y dy h = to_tests_back (X * dy) (Y * dx) (omega arith)
order_test true false X dx Y dy h = across (X * dy) (Y * dx)
order_test false true X dx Y dy h = zeros (X * dy) (Y * dx) (omega arith)

-- of two that are strictly in order the other order does not hold
strictly : (s t : Bool) (X dx Y dy : ℕ) → T (below s (X * dy) t (Y * dx)) → InOrder t Y dy s X dx → ⊥
strictly false false X dx Y dy h k = let g = ltb→lt (X * dy) (Y * dx) h in omega arith
strictly true true X dx Y dy h k = let g = ltb→lt (Y * dx) (X * dy) h in omega arith
strictly true false X dx Y dy h k = let g = ltb→lt 0 (X * dy + Y * dx) h in omega arith
strictly false true X dx Y dy h k = absurd h

-- of two that are not strictly in order it does
otherwise : (s t : Bool) (X dx Y dy : ℕ) → below s (X * dy) t (Y * dx) ≡ false → InOrder t Y dy s X dx
otherwise false false X dx Y dy h = let g = ltb-false (X * dy) (Y * dx) h in omega arith
otherwise true true X dx Y dy h = let g = ltb-false (Y * dx) (X * dy) h in omega arith
otherwise true false X dx Y dy h = let g = ltb-false 0 (X * dy + Y * dx) h in omega arith
otherwise false true X dx Y dy h = omega arith

-- two differences in order, and the second and a third, are in order from the first to the third
in_turn : (p q c p' q' c' p'' q'' c'' : ℕ) → 0 < c' → p * c' + q' * c ≤ p' * c + q * c' → p' * c'' + q'' * c' ≤ p'' * c' + q' * c''
    → p * c'' + q'' * c ≤ p'' * c + q * c''
in_turn p q c p' q' c' p'' q'' c'' C h k =
    le_of_mul-le-mul_right (omega (arith, mul-le-mul_right c'' h, mul-le-mul_right c k)) C

-- ---- the order of floats

-- x ≤ y and y ≤ z give x ≤ z
pub le_through : (x y z : Float) → T (le x y) → T (le y z) → T (le x z)
unfolding le lt eq
le_through nan y z h k = absurd h
le_through (inf true) nan z h k = absurd h
le_through (inf true) (inf true) z h k = k
le_through (inf true) (inf false) nan h k = absurd k
le_through (inf true) (inf false) (inf true) h k = absurd k
le_through (inf true) (inf false) (inf false) h k = tt
le_through (inf true) (inf false) (fin u o f) h k = absurd k
le_through (inf true) (fin t n d) nan h k = absurd k
le_through (inf true) (fin t n d) (inf true) h k = absurd k
le_through (inf true) (fin t n d) (inf false) h k = tt
le_through (inf true) (fin t n d) (fin u o f) h k = tt
le_through (inf false) nan z h k = absurd h
le_through (inf false) (inf true) z h k = absurd h
le_through (inf false) (inf false) z h k = k
le_through (inf false) (fin t n d) z h k = absurd h
le_through (fin s m e) nan z h k = absurd h
le_through (fin s m e) (inf true) z h k = absurd h
le_through (fin s m e) (inf false) nan h k = absurd k
le_through (fin s m e) (inf false) (inf true) h k = absurd k
le_through (fin s m e) (inf false) (inf false) h k = tt
le_through (fin s m e) (inf false) (fin u o f) h k = absurd k
le_through (fin s m e) (fin t n d) nan h k = absurd k
le_through (fin s m e) (fin t n d) (inf true) h k = absurd k
le_through (fin s m e) (fin t n d) (inf false) h k = tt
le_through (fin s m e) (fin t n d) (fin u o f) h k =
    order_test s u (m * up e) (down e) (o * up f) (down f)
    (in_turn (over_zero s (m * up e)) (under_zero s (m * up e)) (down e) (over_zero t (n * up d)) (under_zero t (n * up d)) (down d)
    (over_zero u (o * up f)) (under_zero u (o * up f)) (down f) (down_pos d)
    (test_order s t (m * up e) (down e) (n * up d) (down d) h) (test_order t u (n * up d) (down d) (o * up f) (down f) k))

-- not both x < y and y ≤ x
pub lt_not_le : (x y : Float) → T (lt x y) → T (le y x) → ⊥
unfolding le lt eq
lt_not_le nan y h k = absurd h
lt_not_le (inf s) nan h k = absurd h
lt_not_le (inf true) (inf true) h k = absurd h
lt_not_le (inf true) (inf false) h k = absurd k
lt_not_le (inf false) (inf t) h k = absurd h
lt_not_le (inf true) (fin t n d) h k = absurd k
lt_not_le (inf false) (fin t n d) h k = absurd h
lt_not_le (fin s m e) nan h k = absurd h
lt_not_le (fin s m e) (inf true) h k = absurd h
lt_not_le (fin s m e) (inf false) h k = absurd k
lt_not_le (fin s m e) (fin t n d) h k = strictly s t (m * up e) (down e) (n * up d) (down d) h (test_order t s (n * up d) (down d) (m * up e) (down e) k)

-- of finite numbers, y ≤ x where not x < y
pub not_lt_le : (x y : Float) → T (finite x) → T (finite y) → lt x y ≡ false → T (le y x)
unfolding le lt eq
not_lt_le nan y p q h = absurd p
not_lt_le (inf s) y p q h = absurd p
not_lt_le (fin s m e) nan p q h = absurd q
not_lt_le (fin s m e) (inf t) p q h = absurd q
not_lt_le (fin s m e) (fin t n d) p q h = order_test t s (n * up d) (down d) (m * up e) (down e) (otherwise s t (m * up e) (down e) (n * up d) (down d) h)

-- what is less is at most, and so is what is equal
pub lt_le : (x y : Float) → T (lt x y) → T (le x y)
unfolding le
lt_le x y h = first (lt x y) (eq x y) h
  where
    first : (a b : Bool) → T a → T (a || b)
    first true b t = tt
    first false b t = absurd t

pub eq_le : (x y : Float) → T (eq x y) → T (le x y)
unfolding le
eq_le x y h = second (lt x y) (eq x y) h
  where
    second : (a b : Bool) → T b → T (a || b)
    second true b t = tt
    second false b t = t

-- and a comparison is turned round
below_turned : (s t : Bool) (k l : ℕ) → below (not s) k (not t) l ≡ below t l s k
below_turned false false k l = refl
below_turned false true k l = let e : k + l ≡ l + k = omega arith in ap (λ (n : ℕ). ltb 0 n) e
below_turned true false k l = refl
below_turned true true k l = refl

pub neg_lt : (x y : Float) → lt (neg x) (neg y) ≡ lt y x
unfolding lt neg
neg_lt nan nan = refl
neg_lt nan (inf t) = refl
neg_lt nan (fin t n d) = refl
neg_lt (inf s) nan = refl
neg_lt (inf true) (inf true) = refl
neg_lt (inf true) (inf false) = refl
neg_lt (inf false) (inf true) = refl
neg_lt (inf false) (inf false) = refl
neg_lt (inf s) (fin t n d) = refl
neg_lt (fin s m e) nan = refl
neg_lt (fin s m e) (inf true) = refl
neg_lt (fin s m e) (inf false) = refl
neg_lt (fin s m e) (fin t n d) = below_turned s t (m * up e * down d) (n * up d * down e)

-- what lies between finite numbers is finite
pub between_finite : (a x b : Float) → T (finite a) → T (finite b) → T (le a x) → T (le x b) → T (finite x)
unfolding le lt eq
between_finite a nan b p q h k = absurd k
between_finite nan (inf t) b p q h k = absurd p
between_finite (inf s) (inf t) b p q h k = absurd p
between_finite (fin s m e) (inf true) b p q h k = absurd h
between_finite (fin s m e) (inf false) nan p q h k = absurd q
between_finite (fin s m e) (inf false) (inf t) p q h k = absurd q
between_finite (fin s m e) (inf false) (fin t n d) p q h k = absurd k
between_finite a (fin t n d) b p q h k = tt

-- a test that cannot hold fails
pub refuted : (b : Bool) → (T b → ⊥) → b ≡ false
refuted true f = absurd (f tt)
refuted false f = refl

-- ---- the order of numbers that are no NaN, infinities among them

pub not_less : (x y : Float) → is_nan x ≡ false → is_nan y ≡ false → lt x y ≡ false → T (le y x)
unfolding lt le eq is_nan
not_less nan y p q h = absurd (subst T p tt)
not_less (inf s) nan p q h = absurd (subst T q tt)
not_less (inf true) (inf true) p q h = tt
not_less (inf true) (inf false) p q h = absurd (subst T h tt)
not_less (inf false) (inf true) p q h = tt
not_less (inf false) (inf false) p q h = tt
not_less (inf true) (fin t n d) p q h = absurd (subst T h tt)
not_less (inf false) (fin t n d) p q h = tt
not_less (fin s m e) nan p q h = absurd (subst T q tt)
not_less (fin s m e) (inf true) p q h = tt
not_less (fin s m e) (inf false) p q h = absurd (subst T h tt)
not_less (fin s m e) (fin t n d) p q h = not_lt_le (fin s m e) (fin t n d) tt tt h

pub less_is_number : (x y : Float) → T (lt x y) → (is_nan x ≡ false) × (is_nan y ≡ false)
unfolding lt is_nan
less_is_number nan y t = absurd t
less_is_number (inf s) nan t = absurd t
less_is_number (inf s) (inf u) t = (refl, refl)
less_is_number (inf s) (fin u n d) t = (refl, refl)
less_is_number (fin s m e) nan t = absurd t
less_is_number (fin s m e) (inf u) t = (refl, refl)
less_is_number (fin s m e) (fin u n d) t = (refl, refl)

-- less than another is not what the other is less than
pub less_one_way : (x y : Float) → lt x y ≡ true → lt y x ≡ false
less_one_way x y h = refuted (lt y x) (λ t. lt_not_le y x t (lt_le x y (subst T (sym h) tt)))

-- what is not less than a number is not less than what that is not less than
pub not_less_through : (x y z : Float) → is_nan y ≡ false → lt x y ≡ false → lt y z ≡ false → lt x z ≡ false
not_less_through x y z n p q = refuted (lt x z) (λ t.
    let k = less_is_number x z t in
    lt_not_le x z t (le_through z y x (not_less y z n k.1 q) (not_less x y k.0 n p)))
