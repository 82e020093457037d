-- Arithmetic on floats that are whole numbers is exact as long as the result is of size at most 2 ^ prec,
-- and their comparisons, their smaller and their larger are the integers'.
-- The idea: `Whole x z` is `At x p q 1` for any two natural numbers with z = p - q, and the laws of `At` carry over.
use mathlib.Core.Path.{◌≡◌, refl, ap, subst}
use mathlib.Core.Logic.Iff
use mathlib.Core.Logic.{◌↔◌}
use Prim.Native.Nat.{ℕ, suc, ◌+◌, ◌*◌, ◌^◌, ◌≤◌, ◌<◌}
use native.Mathlib.Nat.{mul-pos, mul-one, eq_of_mul-eq-mul_right, zero-lt-suc}
use native.Mathlib.Omega.{arith}
use mathlib.Core.Bool.{Bool, true, false, cond}
use lib.Dec.{T, eqb, eqb→eq}
use lib.IntN.{ℤ, pos, negsuc, neg_ℤ, nat_abs, ◌+ℤ◌, ◌-ℤ◌, ◌*ℤ◌}
use lib.Signed.{◌≤ℤ◌, ◌<ℤ◌}
use lib.Ieee.{Float, nan, inf, fin, Format, binary64, prec, up, down, unlike, round, of_int, add, sub, mul, div, neg, lt, eq, le, is_nan}
use lib.Ieee.Fits.{down_pos}
use lib.Ieee.Exact.{HasValue}
use lib.Ieee.Back.{round_whole}
use lib.Ieee.Scale.{round_same}
use Rattle.number.specs.Arithmetic.{◌⊘◌, abs_of, min_of, max_of}
use Rattle.number.specs.Grid.{signed}
use Rattle.farmgrid.specs.Whole.{Whole}
use Rattle.whole.proofs.Integer.{hi, lo, Of, of_self, of_pos, of_neg, of_sum, of_minus, of_times, of_eq, eq_of, by_test, le_is, lt_is, eq_is, abs_is, abs_neg, abs_times, minℤ, maxℤ, min_left, min_right, max_left, max_right}
use Rattle.farmgrid.proofs.Numbers.Value.{At, Minus, Within, at_of, of_at, neg_at, add_at, sub_at, mul_at}
use Rattle.farmgrid.proofs.Numbers.Compare.{lt_at, le_at, eq_at, min_at, max_at, at_not_nan}

-- a float is the integer z = p - q exactly where its value is (p - q) / 1
pub whole_at_lem : {x : Float} {p q : ℕ} {z : ℤ} → Of p q z → Whole x z ↔ At x p q 1
whole_at_lem {x = nan} o = (λ h. absurd h.is, λ h. absurd h.is)
whole_at_lem {x = inf s} o = (λ h. absurd h.is, λ h. absurd h.is)
whole_at_lem {x = fin false m e} o =
    let l = of_pos (m * up e) in
    let r = of_times o (of_pos (down e)) in
    (λ h. record { is = omega (arith, eq_of l r h.is) }, λ h. record { is = of_eq l r (omega (arith, h.is)) })
whole_at_lem {x = fin true m e} o =
    let l = of_neg (of_pos (m * up e)) in
    let r = of_times o (of_pos (down e)) in
    (λ h. record { is = omega (arith, eq_of l r h.is) }, λ h. record { is = of_eq l r (omega (arith, h.is)) })

value : {x : Float} {z : ℤ} → Whole x z → At x (hi z) (lo z) 1
value {x} {z} h = (whole_at_lem (of_self z)).0 h

within : {p q b : ℕ} {z : ℤ} → Of p q z → nat_abs z ≤ b → Within b p q
within {z = z} o h = omega (arith, abs_is z, o.is)

-- ---- The float sum, difference and product of two whole numbers is the exact one, where that is of size at most 2 ^ prec.
-- A negation is always exact.
module _ (f : Format) {x y : Float} {a b : ℤ} (g : Whole x a) (h : Whole y b) where
  pub add_whole : nat_abs (a +ℤ b) ≤ 2 ^ prec f → Whole (add f x y) (a +ℤ b)
  add_whole w = let o = of_sum (of_self a) (of_self b) in (whole_at_lem o).1 (add_at f (value g) (value h) (within o w))

  pub sub_whole : nat_abs (a -ℤ b) ≤ 2 ^ prec f → Whole (sub f x y) (a -ℤ b)
  sub_whole w = let o = of_minus (of_self a) (of_self b) in (whole_at_lem o).1 (sub_at f (value g) (value h) (within o w))

  pub mul_whole : nat_abs (a *ℤ b) ≤ 2 ^ prec f → Whole (mul f x y) (a *ℤ b)
  mul_whole w = let o = of_times (of_self a) (of_self b) in (whole_at_lem o).1 (mul_at f (value g) (value h) (within o w))

pub neg_whole : {x : Float} {a : ℤ} → Whole x a → Whole (neg x) (neg_ℤ a)
neg_whole {x} {a} g = (whole_at_lem (of_neg (of_self a))).1 (neg_at (value g))

-- ---- the comparisons of two whole floats are the integers'
one : 0 < 1
one = zero-lt-suc 0

module _ {x y : Float} {a b : ℤ} (g : Whole x a) (h : Whole y b) where
  pub lt_whole : T (lt x y) ↔ (a <ℤ b)
  lt_whole = Iff.trans (lt_at one (value g) (value h)) (Iff.symm (lt_is a b))

  pub le_whole : T (le x y) ↔ (a ≤ℤ b)
  le_whole = Iff.trans (le_at one (value g) (value h)) (Iff.symm (le_is a b))

  pub eq_whole : T (eq x y) ↔ (a ≡ b)
  eq_whole = Iff.trans (eq_at one (value g) (value h)) (eq_is a b, eq_of (of_self a) (of_self b))

-- the smaller of two whole floats is the smaller integer, and the larger the larger, whatever the signs of zeros
module _ {x y : Float} {a b : ℤ} (g : Whole x a) (h : Whole y b) where
  pub min_whole : Whole (min_of x y) (minℤ a b)
  min_whole = min_at (λ z. Whole z (minℤ a b)) one (value g) (value h)
      (λ t. rw (min_right ((le_whole h g).0 t)) h) (λ t. rw (min_left ((le_whole g h).0 t)) g)

  pub max_whole : Whole (max_of x y) (maxℤ a b)
  max_whole = max_at (λ z. Whole z (maxℤ a b)) one (value g) (value h)
      (λ t. rw (max_right ((le_whole g h).0 t)) h) (λ t. rw (max_left ((le_whole h g).0 t)) g)

-- a whole float is no NaN
pub whole_not_nan : {x : Float} {z : ℤ} → Whole x z → is_nan x ≡ false
whole_not_nan h = at_not_nan (value h)

-- ---- a whole float by its sign and its size, as the kit's `HasValue` has them; a zero has either sign
of_signed : (s : Bool) (k : ℕ) → Of (cond s 0 k) (cond s k 0) (signed s k)
of_signed false k = of_pos k
of_signed true k = of_neg (of_pos k)

pub abs_signed : (s : Bool) (k : ℕ) → nat_abs (signed s k) ≡ k
abs_signed false k = refl
abs_signed true k = abs_neg (pos k)

pub from_value : {x : Float} (s : Bool) (k : ℕ) → HasValue x s k 1 → Whole x (signed s k)
from_value {x} s k v = (whole_at_lem (of_signed s k)).1 (at_of s k v (own s))
  where
    own : (s : Bool) → Minus s k (cond s 0 k) (cond s k 0)
    own false = omega arith
    own true = omega arith

pub record Parts (x : Float) (z : ℤ) : Type 0 where
  pub sign : Bool
  pub size : HasValue x sign (nat_abs z) 1
  pub both : signed sign (nat_abs z) ≡ z

pub to_value : {x : Float} {z : ℤ} → Whole x z → Parts x z
to_value {x} {z} h = let v = of_at (value h) in subst (Parts x) (same v.0 v.1 v.3) (parts v.0 v.1 v.2)
  where
    same : (s : Bool) (k : ℕ) → Minus s k (hi z) (lo z) → signed s k ≡ z
    same false k g = of_eq (of_pos k) (of_self z) (omega arith)
    same true k g = of_eq (of_neg (of_pos k)) (of_self z) (omega arith)

    parts : (s : Bool) (k : ℕ) → HasValue x s k 1 → Parts x (signed s k)
    parts s k v = record { sign = s; size = rw (abs_signed s k) v; both = ap (signed s) (abs_signed s k) }

-- the float of an integer is that integer
pub of_whole : (f : Format) (z : ℤ) → nat_abs z ≤ 2 ^ prec f → Whole (of_int f z) z
unfolding of_int
of_whole f (pos n) h = from_value false n (round_whole f false n h)
of_whole f (negsuc n) h = from_value true (suc n) (round_whole f true (suc n) h)

-- the magnitude of a whole float is the integer's
pub abs_whole : {x : Float} {z : ℤ} → Whole x z → Whole (abs_of x) (pos (nat_abs z))
unfolding abs_of
abs_whole {x} {z} h = let v = to_value h in from_value false (nat_abs z) (drop x v.sign (nat_abs z) v.size)
  where
    drop : (x : Float) (s : Bool) (k : ℕ) → HasValue x s k 1 → HasValue (abs_of x) false k 1
    drop nan s k v = v
    drop (inf t) s k v = v
    drop (fin t m e) s k v = (refl, v.1)

-- ---- the quotient of two whole floats is the fraction of their sizes, rounded
pub div_value : (f : Format) (x y : Float) (s t : Bool) (k l : ℕ) → 0 < l → HasValue x s k 1 → HasValue y t l 1
    → div f x y ≡ round f (unlike s t) k l
unfolding div
div_value f nan y s t k l L v w = absurd v
div_value f (inf i) y s t k l L v w = absurd v
div_value f (fin i m e) nan s t k l L v w = absurd w
div_value f (fin i m e) (inf j) s t k l L v w = absurd w
div_value f (fin i m e) (fin j n d) s t k l L v w =
    let a = m * up e * down d in
    let b = n * up d * down e in
    let u = unlike i j in
    let some : 0 < n * up d = omega (arith, mul-pos L (down_pos d), w.1) in
    let none : T (eqb n 0) → ⊥ = λ r. omega (arith, ap (λ (z : ℕ). z * up d) (eqb→eq n 0 r)) in
    let cross : a * l ≡ k * b = omega (arith, ap (λ (z : ℕ). z * (down d * l)) v.1, ap (λ (z : ℕ). z * (k * down e)) w.1) in
    rw (← v.0, ← w.0) (by_test (λ z. cond z (cond (eqb m 0) nan (inf u)) (round f u a b) ≡ round f u k l) (eqb n 0)
    (λ r. absurd (none r)) (λ r. round_same f u a b k l (mul-pos some (down_pos e)) L cross))

-- ±n * l = a * ±l gives ±n = a
cancel : (a : ℤ) (s t : Bool) (n l : ℕ) → 0 < l → signed s (n * l) ≡ a *ℤ signed t l → signed (unlike s t) n ≡ a
cancel a s t n l L e = go s t (eq_of (of_signed s (n * l)) (of_times (of_self a) (of_signed t l)) e)
  where
    above : n * l + lo a * l ≡ hi a * l → pos n ≡ a
    above r = of_eq (of_pos n) (of_self a) (omega (arith, eq_of_mul-eq-mul_right l L (n + lo a) (hi a) (omega arith)))

    under : n * l + hi a * l ≡ lo a * l → neg_ℤ (pos n) ≡ a
    under r = of_eq (of_neg (of_pos n)) (of_self a) (omega (arith, eq_of_mul-eq-mul_right l L (n + hi a) (lo a) (omega arith)))

    go : (s t : Bool)
        → cond s 0 (n * l) + (hi a * cond t l 0 + lo a * cond t 0 l) ≡ hi a * cond t 0 l + lo a * cond t l 0 + cond s (n * l) 0
        → signed (unlike s t) n ≡ a
    go false false r = above (omega arith)
    go false true r = under (omega arith)
    go true false r = under (omega arith)
    go true true r = above (omega arith)

times_one : (a : ℤ) → a *ℤ pos 1 ≡ a
times_one a = of_eq (of_times (of_self a) (of_pos 1)) (of_self a) (omega arith)

times_minus_one : (a : ℤ) → neg_ℤ a *ℤ negsuc 0 ≡ a
times_minus_one a = of_eq (of_times (of_neg (of_self a)) (of_self (negsuc 0))) (of_self a) (omega arith)

-- where the exact quotient a of a * b by b is of size at most 2 ^ prec, the float quotient is it
pub div_whole : (f : Format) {x y : Float} {a b : ℤ} → Whole x (a *ℤ b) → Whole y b → 0 < nat_abs b → nat_abs a ≤ 2 ^ prec f
    → Whole (div f x y) a
div_whole f {x} {y} {a} {b} g h B w =
    let v = to_value g in
    let v' = to_value h in
    let u = unlike v.sign v'.sign in
    let k = nat_abs a in
    let l = nat_abs b in
    let e : signed u k ≡ a = cancel a v.sign v'.sign k l B (rw (v'.both, ← (abs_times a b)) v.both) in
    let q = div_value f x y v.sign v'.sign (nat_abs (a *ℤ b)) l B v.size v'.size in
    let r = round_same f u (k * l) l k 1 B one (mul-one (k * l)) in
    rw (q, abs_times a b, r) (subst (Whole (round f u k 1)) e (from_value u k (round_whole f u k w)))

-- x / 1 is x, and x / -1 is -x
pub over_one : {x y : Float} {a : ℤ} → Whole x a → Whole y (pos 1) → nat_abs a ≤ 2 ^ 53 → Whole (x ⊘ y) a
over_one {x} {y} {a} g h w = div_whole binary64 (rw (times_one a) g) h one w

pub over_minus_one : {x y : Float} {a : ℤ} → Whole x a → Whole y (negsuc 0) → nat_abs a ≤ 2 ^ 53 → Whole (x ⊘ y) (neg_ℤ a)
over_minus_one {x} {y} {a} g h w = div_whole binary64 (rw (times_minus_one a) g) h one (rw (abs_neg a) w)
