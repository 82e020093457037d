-- Zeros that are rounded to and added: of two zeros the sum is -0 just where both are, a zero added to another number leaves its fraction as it is, whatever the
-- zero's sign, and a sum of two values is -0 just where both are. The idea: a sum of two values is a whole number of the format's smallest value, so that only 0
-- is rounded to a zero. Assumes nothing.
use Rattle.std.proofs.Common.{◌≡◌, ℕ, zero, suc, ◌+◌, ◌-◌, ◌*◌, ◌^◌, ◌<◌, ◌≤◌, Bool, true, false, cond, ◌&&◌, T, ltb, ℤ, pos, sym, refl, ap, ◌∙◌, subst, zero-lt-suc, mul_comm, mul-pos, arith, pow_pos, ltb-true, le-ltb, lt-ltb}
use mathlib.Core.Bool.{beq}
use native.Mathlib.Nat.{mul-sub}
use lib.Count.{count_trailing_zeros}
use lib.Ieee.{Float, nan, inf, fin, Format, binary32, binary64, low, prec, emax, up, down}
use lib.Ieee.{lt, eq, le, add, sum, is_nan, round, units, odd, size, span, climb}
use lib.Ieee.Fits.{up_pos, down_pos, round_is}
use lib.Ieee.Order.{round_mono}
use lib.Ieee.Scale.{round_same}
use Rattle.number.specs.Arithmetic.{◌⊕◌, negative, zero_of}
use Rattle.number.specs.Extremes.{Value, NegativeZeroSum}
use Rattle.number.proofs.Extremes.{no_digits, is_zero}
use Rattle.number.proofs.Places.{place, over, under}

-- ---- rounding to a zero

zero_rounded : (f : Format) (s : Bool) → round f s 0 1 ≡ zero_of s
unfolding round units odd size span climb count_trailing_zeros
zero_rounded binary32 true = refl
zero_rounded binary32 false = refl
zero_rounded binary64 true = refl
zero_rounded binary64 false = refl

pub round_zero : (f : Format) (s : Bool) (n c : ℕ) → 0 < c → n ≡ 0 → round f s n c ≡ zero_of s
round_zero f s n c C e = round_same f s n c 0 1 C (zero-lt-suc 0) (omega arith) ∙ zero_rounded f s

-- ---- a sum with a zero

-- of two zeros, by the fractions that the kit adds
zero_sum : (f : Format) (s t : Bool) (a b c : ℕ) → 0 < c → a ≡ 0 → b ≡ 0 → sum f s a t b c ≡ zero_of (s && t)
unfolding sum
zero_sum f true true a b c C p q = round_zero f true (a + b) c C (omega arith)
zero_sum f false false a b c C p q = round_zero f false (a + b) c C (omega arith)
zero_sum f false true a b c C p q = rw (le-ltb a b (omega arith)) (round_zero f false (a - b) c C (omega arith))
zero_sum f true false a b c C p q = rw (le-ltb a b (omega arith), le-ltb b a (omega arith)) (round_zero f false (a - b) c C (omega arith))

-- of a number and a zero, either first: its own fraction is rounded
module _ (f : Format) (s : Bool) (k e c a b : ℕ) (E : 0 < e) (C : 0 < c) (A : 0 < a) (h : a * e ≡ k * c) (z : b ≡ 0) where
  kept : (n : ℕ) → n ≡ a → round f s n c ≡ round f s k e
  kept n p = round_same f s n c k e C E (rw p h)

  zero_after : (t : Bool) → sum f s a t b c ≡ round f s k e
  unfolding sum
  zero_after t = go s t refl
    where
      go : (r t : Bool) → s ≡ r → cond (beq r t) (round f r (a + b) c) (cond (ltb a b) (round f t (b - a) c) (round f (r && ltb b a) (a - b) c)) ≡ round f s k e
      go true true p = rw (← p) (kept (a + b) (omega arith))
      go false false p = rw (← p) (kept (a + b) (omega arith))
      go false true p = rw (le-ltb a b (omega arith), ← p) (kept (a - b) (omega arith))
      go true false p = rw (le-ltb a b (omega arith), lt-ltb b a (omega arith), ← p) (kept (a - b) (omega arith))

  zero_before : (t : Bool) → sum f t b s a c ≡ round f s k e
  unfolding sum
  zero_before t = go s t refl
    where
      go : (r t : Bool) → s ≡ r → cond (beq t r) (round f t (b + a) c) (cond (ltb b a) (round f r (a - b) c) (round f (t && ltb a b) (b - a) c)) ≡ round f s k e
      go true true p = rw (← p) (kept (b + a) (omega arith))
      go false false p = rw (← p) (kept (b + a) (omega arith))
      go false true p = rw (lt-ltb b a (omega arith), ← p) (kept (a - b) (omega arith))
      go true false p = rw (lt-ltb b a (omega arith), ← p) (kept (a - b) (omega arith))

pub number_after : (f : Format) (s t : Bool) (m : ℕ) (e d : ℤ) → add f (fin t zero d) (fin s (suc m) e) ≡ round f s (suc m * up e) (down e)
unfolding add
number_after f s t m e d =
    zero_before f s (suc m * up e) (down e) (down d * down e) (suc m * up e * down d) (0 * up d * down e) (down_pos e) (mul-pos (down_pos d) (down_pos e))
    (mul-pos (mul-pos (zero-lt-suc m) (up_pos e)) (down_pos d)) (over (suc m * up e) (down e) (down d)) (omega arith) t
  where
    over : (k e d : ℕ) → k * d * e ≡ k * (d * e)
    over k e d = omega arith

pub number_before : (f : Format) (s t : Bool) (m : ℕ) (e d : ℤ) → add f (fin s (suc m) e) (fin t zero d) ≡ round f s (suc m * up e) (down e)
unfolding add
number_before f s t m e d =
    zero_after f s (suc m * up e) (down e) (down e * down d) (suc m * up e * down d) (0 * up d * down e) (down_pos e) (mul-pos (down_pos e) (down_pos d))
    (mul-pos (mul-pos (zero-lt-suc m) (up_pos e)) (down_pos d)) (over (suc m * up e) (down e) (down d)) (omega arith) t
  where
    over : (k e d : ℕ) → k * d * e ≡ k * (e * d)
    over k e d = omega arith

pub both_zeros : (f : Format) (s t : Bool) (e d : ℤ) → add f (fin s zero e) (fin t zero d) ≡ zero_of (s && t)
unfolding add
both_zeros f s t e d = zero_sum f s t (0 * up e * down d) (0 * up d * down e) (down e * down d) (mul-pos (down_pos e) (down_pos d)) (omega arith) (omega arith)

-- ---- a sum that is -0

-- what is rounded to -0 is negative, and without its sign it is rounded to 0
turned_units : (f : Format) (s : Bool) (q k : ℕ) → units f s q k ≡ zero_of true → (s ≡ true) × (units f false q k ≡ zero_of false)
unfolding units odd
turned_units f s q k h = go (ltb (q * 2 ^ k) (2 ^ (low f + suc (emax f)))) q h
  where
    go : (b : Bool) (q : ℕ) → cond b (odd (suc (prec f)) s q k (low f)) (inf s) ≡ zero_of true
        → (s ≡ true) × (cond b (odd (suc (prec f)) false q k (low f)) (inf false) ≡ zero_of false)
    go true zero h = (ap negative h, refl)
    go true (suc q) h = (ap negative h, cc)
    go false q h = let z : ◌≡◌ {A = ℕ} 0 1 = cc in absurd (omega arith)

turned_round : (f : Format) (s : Bool) (n c : ℕ) → round f s n c ≡ zero_of true → (s ≡ true) × (round f false n c ≡ zero_of false)
turned_round f s n c h = let r = turned_units f s _ _ (sym (round_is f s n c) ∙ h) in (r.0, round_is f false n c ∙ r.1)

smallest : T (le (round binary64 false 1 (2 ^ 1074)) (zero_of false)) → ⊥
unfolding le lt eq round units odd size span climb count_trailing_zeros
smallest t = t

-- a number of smallest values that is rounded to 0 is 0
none_left : (n c w : ℕ) → 0 < c → n * 2 ^ 1074 ≡ w * c → round binary64 false n c ≡ zero_of false → n ≡ 0
none_left zero c w C h e = refl
none_left (suc n) c zero C h e = absurd (some n (2 ^ 1074) c (pow_pos 1074) h)
  where
    some : (n l c : ℕ) → 0 < l → suc n * l ≡ 0 * c → ⊥
    some n l c L h = omega (arith, mul-pos (zero-lt-suc n) L)
none_left (suc n) c (suc w) C h e =
    absurd (smallest (subst (λ (x : Float). T (le (round binary64 false 1 (2 ^ 1074)) x)) e
    (round_mono binary64 1 (2 ^ 1074) (suc n) c (pow_pos 1074) C (rw h (reaches c w)))))
  where
    reaches : (c w : ℕ) → 1 * c ≤ suc w * c
    reaches c w = omega arith

none_rounded : (s : Bool) (n c w : ℕ) → 0 < c → n * 2 ^ 1074 ≡ w * c → round binary64 s n c ≡ zero_of true → (s ≡ true) × (n ≡ 0)
none_rounded s n c w C h e = let r = turned_round binary64 s n c e in (r.0, none_left n c w C h r.1)

sub_times : (a b c : ℕ) → (a - b) * c ≡ a * c - b * c
sub_times a b c = mul_comm (a - b) c ∙ mul-sub c a b ∙ (λ i. mul_comm c a i - mul_comm c b i)

-- the fractions that the kit adds, each a number of smallest values
module _ (a b c v w : ℕ) (C : 0 < c) (p : a * 2 ^ 1074 ≡ v * c) (q : b * 2 ^ 1074 ≡ w * c) where
  total : (a + b) * 2 ^ 1074 ≡ (v + w) * c
  total = added (2 ^ 1074) p q
    where
      added : (l : ℕ) → a * l ≡ v * c → b * l ≡ w * c → (a + b) * l ≡ (v + w) * c
      added l p q = omega arith

  less : (b - a) * 2 ^ 1074 ≡ (w - v) * c
  less = sub_times b a (2 ^ 1074) ∙ taken (2 ^ 1074) p q ∙ sym (sub_times w v c)
    where
      taken : (l : ℕ) → a * l ≡ v * c → b * l ≡ w * c → b * l - a * l ≡ w * c - v * c
      taken l p q = rw (p, q)

both_negative : (s t : Bool) (a b c v w : ℕ) → 0 < c → a * 2 ^ 1074 ≡ v * c → b * 2 ^ 1074 ≡ w * c → sum binary64 s a t b c ≡ zero_of true
    → (s ≡ true) × (t ≡ true) × (a ≡ 0) × (b ≡ 0)
unfolding sum
both_negative false false a b c v w C p q h = let r = none_rounded false (a + b) c (v + w) C (total a b c v w C p q) h in absurd (subst T (sym r.0) tt)
both_negative true true a b c v w C p q h =
    let r = none_rounded true (a + b) c (v + w) C (total a b c v w C p q) h in (refl, refl, (sums a b r.1).0, (sums a b r.1).1)
  where
    sums : (a b : ℕ) → a + b ≡ 0 → (a ≡ 0) × (b ≡ 0)
    sums a b e = (omega arith, omega arith)
both_negative false true a b c v w C p q h = go (ltb a b) refl h
  where
    go : (u : Bool) → ltb a b ≡ u → cond u (round binary64 true (b - a) c) (round binary64 false (a - b) c) ≡ zero_of true → (false ≡ true) × (true ≡ true) × (a ≡ 0) × (b ≡ 0)
    go true e h = let l = ltb-true a b e in let r = (none_rounded true (b - a) c (w - v) C (less a b c v w C p q) h).1 in absurd (omega arith)
    go false e h = absurd (subst T (sym (none_rounded false (a - b) c (v - w) C (less b a c w v C q p) h).0) tt)
both_negative true false a b c v w C p q h = go (ltb a b) (ltb b a) refl h
  where
    go : (u r : Bool) → ltb b a ≡ r → cond u (round binary64 false (b - a) c) (round binary64 r (a - b) c) ≡ zero_of true → (true ≡ true) × (false ≡ true) × (a ≡ 0) × (b ≡ 0)
    go true r e h = absurd (subst T (sym (none_rounded false (b - a) c (w - v) C (less a b c v w C p q) h).0) tt)
    go false true e h = let l = ltb-true b a e in let r = (none_rounded true (a - b) c (v - w) C (less b a c w v C q p) h).1 in absurd (omega arith)
    go false false e h = absurd (subst T (sym (none_rounded false (a - b) c (v - w) C (less b a c w v C q p) h).0) tt)

finite_sum : (x y : Float) → Value x → Value y → x ⊕ y ≡ zero_of true → (x ≡ zero_of true) × (y ≡ zero_of true)
unfolding add is_nan
finite_sum nan y v w h = let z : ◌≡◌ {A = ℕ} 0 1 = cc in absurd (omega arith)
finite_sum (inf s) nan v w h = let z : ◌≡◌ {A = ℕ} 0 1 = cc in absurd (omega arith)
finite_sum (inf s) (inf t) v w h = absurd (go (beq s t) h)
  where
    go : (b : Bool) → cond b (inf s) nan ≡ zero_of true → ⊥
    go true h = let z : ◌≡◌ {A = ℕ} 0 1 = cc in omega arith
    go false h = let z : ◌≡◌ {A = ℕ} 0 1 = cc in omega arith
finite_sum (inf s) (fin t n d) v w h = let z : ◌≡◌ {A = ℕ} 0 1 = cc in absurd (omega arith)
finite_sum (fin s m e) nan v w h = let z : ◌≡◌ {A = ℕ} 0 1 = cc in absurd (omega arith)
finite_sum (fin s m e) (inf t) v w h = let z : ◌≡◌ {A = ℕ} 0 1 = cc in absurd (omega arith)
finite_sum (fin s m e) (fin t n d) v w h =
    let P = place binary64 (fin s m e) v refl in
    let Q = place binary64 (fin t n d) w refl in
    let a = m * up e * down d in
    let b = n * up d * down e in
    let r = both_negative s t a b (down e * down d) P.weight Q.weight (mul-pos (down_pos e) (down_pos d))
    (over (m * up e) (2 ^ 1074) P.weight (down e) (down d) P.is.0) (under (n * up d) (2 ^ 1074) Q.weight (down d) (down e) Q.is.0) h in (
      is_zero s m e v (no_digits m (up e) (down d) (up_pos e) (down_pos d) r.2) ∙ ap zero_of r.0,
      is_zero t n d w (no_digits n (up d) (down e) (up_pos d) (down_pos e) r.3) ∙ ap zero_of r.1,
    )

pub negative_zero_sum : NegativeZeroSum
negative_zero_sum x y v w = (finite_sum x y v w, λ h. rw (h.0, h.1) (both_zeros binary64 true true (pos 0) (pos 0)))
