-- A float's value as a difference of two natural numbers over a third: `At x p q c` says that x is finite and is
-- (p - q) / c, and either zero is 0 / c. Proved: the value of a negation, and of a sum, a difference and a product of
-- whole numbers (c = 1) where the result is of size at most 2 ^ prec.
-- The idea: each of these hands `round` a fraction that is a whole number of that size, and `round` keeps it.
use mathlib.Core.Path.{◌≡◌, refl, ap, ◌∙◌}
use Prim.Native.Nat.{ℕ, ◌+◌, ◌-◌, ◌*◌, ◌^◌, ◌≤◌, ◌<◌}
use native.Mathlib.Nat.{mul-pos, mul-sub, mul_comm, mul-one, le_of_mul-le-mul_right, zero-lt-suc}
use native.Mathlib.Omega.{arith}
use mathlib.Core.Bool.{Bool, true, false, cond}
use lib.Dec.{ltb, ltb→lt, nltb→le}
use lib.Ieee.{Float, nan, inf, fin, Format, prec, up, down, unlike, round, sum, add, sub, mul, neg}
use lib.Ieee.Fits.{down_pos}
use lib.Ieee.Exact.{HasValue}
use lib.Ieee.Back.{round_whole}
use lib.Ieee.Scale.{round_same}
use Rattle.whole.proofs.Integer.{by_test}

-- k with the sign s is p - q
abbrev pub Minus : Bool → ℕ → ℕ → ℕ → Type 0
Minus false k p q = k + q ≡ p
Minus true k p q = k + p ≡ q

-- ±m * 2 ^ e is (p - q) / c
abbrev pub Valued : Float → ℕ → ℕ → ℕ → Type 0
Valued nan p q c = ⊥
Valued (inf s) p q c = ⊥
Valued (fin s m e) p q c = Minus s (m * up e * c) (p * down e) (q * down e)

pub record At (x : Float) (p q c : ℕ) : Type 0 where
  pub is : Valued x p q c

-- p - q is of size at most b
abbrev pub Within : ℕ → ℕ → ℕ → Type 0
Within b p q = (p ≤ q + b) × (q ≤ p + b)

-- ---- signed differences
minus_same : (s : Bool) (k p q p' q' : ℕ) → p + q' ≡ p' + q → Minus s k p q → Minus s k p' q'
minus_same false k p q p' q' e h = omega arith
minus_same true k p q p' q' e h = omega arith

minus_size : (s : Bool) (k p q b : ℕ) → Minus s k p q → Within b p q → k ≤ b
minus_size false k p q b h w = omega arith
minus_size true k p q b h w = omega arith

minus_scale : (s : Bool) (k p q c : ℕ) → Minus s k p q → Minus s (k * c) (p * c) (q * c)
minus_scale false k p q c h = omega (arith, ap (λ (i : ℕ). i * c) h)
minus_scale true k p q c h = omega (arith, ap (λ (i : ℕ). i * c) h)

-- a difference of two multiples of c is a multiple of c
minus_part : (s : Bool) (k p q c : ℕ) → 0 < c → Minus s k (p * c) (q * c) → (w : ℕ) × (k ≡ w * c) × Minus s w p q
minus_part false k p q c C h =
    let l : q ≤ p = le_of_mul-le-mul_right {k = c} (omega arith) C in (p - q, omega (arith, mul-sub c p q), omega arith)
minus_part true k p q c C h =
    let l : p ≤ q = le_of_mul-le-mul_right {k = c} (omega arith) C in (q - p, omega (arith, mul-sub c q p), omega arith)

minus_times : (s t : Bool) (a b p q p' q' : ℕ) → Minus s a p q → Minus t b p' q'
    → Minus (unlike s t) (a * b) (p * p' + q * q') (p * q' + q * p')
minus_times false false a b p q p' q' g g' = rw (← g, ← g') (omega arith)
minus_times false true a b p q p' q' g g' = rw (← g, ← g') (omega arith)
minus_times true false a b p q p' q' g g' = rw (← g, ← g') (omega arith)
minus_times true true a b p q p' q' g g' = rw (← g, ← g') (omega arith)

-- from the denominator e to a multiple v = e * d of it
pub minus_over : (s : Bool) (n c p q e d v : ℕ) → v ≡ e * d → Minus s (n * c) (p * e) (q * e) → Minus s (n * d * c) (p * v) (q * v)
minus_over false n c p q e d v r h = rw r (omega (arith, ap (λ (i : ℕ). i * d) h))
minus_over true n c p q e d v r h = rw r (omega (arith, ap (λ (i : ℕ). i * d) h))

-- ---- the value by its sign and its size, as the kit has it
pub at_of : {x : Float} (s : Bool) (k : ℕ) {p q c : ℕ} → HasValue x s k c → Minus s k p q → At x p q c
at_of {x = nan} s k v g = absurd v
at_of {x = inf t} s k v g = absurd v
at_of {x = fin t m e} s k {p} {q} {c} v g = record { is = rw (v.0, v.1) (minus_scale s k p q (down e) g) }

pub of_at : {x : Float} {p q c : ℕ} → At x p q c → (s : Bool) × (k : ℕ) × HasValue x s k c × Minus s k p q
of_at {x = nan} h = absurd h.is
of_at {x = inf t} h = absurd h.is
of_at {x = fin t m e} {p} {q} {c} h = let r = minus_part t (m * up e * c) p q (down e) (down_pos e) h.is in (t, r.0, (refl, r.1), r.2)

-- (p - q) / c is (p * d - q * d) / (c * d)
pub at_scale : {x : Float} {p q c : ℕ} (d : ℕ) → At x p q c → At x (p * d) (q * d) (c * d)
at_scale {x = nan} d h = absurd h.is
at_scale {x = inf t} d h = absurd h.is
at_scale {x = fin false m e} d h = record { is = omega (arith, ap (λ (i : ℕ). i * d) h.is) }
at_scale {x = fin true m e} d h = record { is = omega (arith, ap (λ (i : ℕ). i * d) h.is) }

-- ---- the operations
pub neg_at : {x : Float} {p q c : ℕ} → At x p q c → At (neg x) q p c
unfolding neg
neg_at {x = nan} h = absurd h.is
neg_at {x = inf t} h = absurd h.is
neg_at {x = fin false m e} h = record { is = h.is }
neg_at {x = fin true m e} h = record { is = h.is }

-- a fraction that is a whole number rounds to it
rounded : (f : Format) (s : Bool) (k p q c : ℕ) → 0 < c → Within (2 ^ prec f) p q → Minus s k (p * c) (q * c) → At (round f s k c) p q 1
rounded f s k p q c C w h =
    let r = minus_part s k p q c C h in
    let e = round_same f s k c r.0 1 C (zero-lt-suc 0) (mul-one k ∙ r.1) in
    at_of s r.0 (rw e (round_whole f s r.0 (minus_size s r.0 p q (2 ^ prec f) r.2 w))) r.2

-- the kit's sum of two fractions over c: whatever the signs, it is their sum that is rounded
module _ (f : Format) (a b c p q p' q' : ℕ) (R : Float → Type 0)
    (ok : (s : Bool) (k : ℕ) → Minus s k (p + p') (q + q') → R (round f s k c)) where
  sum_is : (s t : Bool) → Minus s (a * 1) p q → Minus t (b * 1) p' q' → R (sum f s a t b c)
  unfolding sum
  sum_is false false g h = ok false (a + b) (omega arith)
  sum_is true true g h = ok true (a + b) (omega arith)
  sum_is false true g h = by_test (λ u. R (cond u (round f true (b - a) c) (round f false (a - b) c))) (ltb a b)
      (λ t. ok true (b - a) (omega (arith, ltb→lt a b t)))
      (λ t. ok false (a - b) (omega (arith, nltb→le a b t)))
  sum_is true false g h = by_test (λ u. R (cond u (round f false (b - a) c) (round f (ltb b a) (a - b) c))) (ltb a b)
      (λ t. ok false (b - a) (omega (arith, ltb→lt a b t)))
      (λ t. by_test (λ u. R (round f u (a - b) c)) (ltb b a)
      (λ r. ok true (a - b) (omega (arith, ltb→lt b a r)))
      (λ r. ok false (a - b) (omega (arith, nltb→le b a r, nltb→le a b t))))

module _ (f : Format) {x y : Float} {p q p' q' : ℕ} (g : At x p q 1) (h : At y p' q' 1) where
  -- the sum and the product of two whole numbers, where it is of size at most 2 ^ prec
  pub add_at : Within (2 ^ prec f) (p + p') (q + q') → At (add f x y) (p + p') (q + q') 1
  unfolding add
  add_at w = go x y g h
    where
      go : (x y : Float) → At x p q 1 → At y p' q' 1 → At (add f x y) (p + p') (q + q') 1
      go nan y g h = absurd g.is
      go (inf s) y g h = absurd g.is
      go (fin s m e) nan g h = absurd h.is
      go (fin s m e) (inf t) g h = absurd h.is
      go (fin s m e) (fin t n d) g h =
          let v = down e * down d in
          let G = minus_over s (m * up e) 1 p q (down e) (down d) v refl g.is in
          let H = minus_over t (n * up d) 1 p' q' (down d) (down e) v (mul_comm (down e) (down d)) h.is in
          sum_is f (m * up e * down d) (n * up d * down e) v (p * v) (q * v) (p' * v) (q' * v)
          (λ z. At z (p + p') (q + q') 1)
          (λ u k r. rounded f u k (p + p') (q + q') v (mul-pos (down_pos e) (down_pos d)) w
          (minus_same u k (p * v + p' * v) (q * v + q' * v) ((p + p') * v) ((q + q') * v) (omega arith) r))
          s t G H

  pub mul_at : Within (2 ^ prec f) (p * p' + q * q') (p * q' + q * p') → At (mul f x y) (p * p' + q * q') (p * q' + q * p') 1
  unfolding mul
  mul_at w = go x y g h
    where
      go : (x y : Float) → At x p q 1 → At y p' q' 1 → At (mul f x y) (p * p' + q * q') (p * q' + q * p') 1
      go nan y g h = absurd g.is
      go (inf s) y g h = absurd g.is
      go (fin s m e) nan g h = absurd h.is
      go (fin s m e) (inf t) g h = absurd h.is
      go (fin s m e) (fin t n d) g h =
          let a = m * up e in
          let b = n * up d in
          let i = down e in
          let j = down d in
          rounded f (unlike s t) (a * b) (p * p' + q * q') (p * q' + q * p') (i * j) (mul-pos (down_pos e) (down_pos d)) w
          (minus_same (unlike s t) (a * b) (p * i * (p' * j) + q * i * (q' * j)) (p * i * (q' * j) + q * i * (p' * j))
          ((p * p' + q * q') * (i * j)) ((p * q' + q * p') * (i * j)) (omega arith)
          (minus_times s t a b (p * i) (q * i) (p' * j) (q' * j) (rw mul-one at g.is) (rw mul-one at h.is)))

pub sub_at : (f : Format) {x y : Float} {p q p' q' : ℕ} → At x p q 1 → At y p' q' 1 → Within (2 ^ prec f) (p + q') (q + p')
    → At (sub f x y) (p + q') (q + p') 1
unfolding sub
sub_at f g h w = add_at f g (neg_at h) w
