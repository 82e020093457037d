-- `round` where it is known how many digits it drops, and the nearest whole number of a fraction that is known only to lie between two others.
-- Assumes nothing.
use Rattle.std.proofs.Common.{◌≡◌, ℕ, zero, suc, ◌+◌, ◌-◌, ◌*◌, ◌/◌, ◌%◌, ◌^◌, ◌<◌, ◌≤◌, Bool, not, T, eqb, sym, refl, ap, ◌∙◌, subst, le_of_eq, lt_of_lt_of_le, mul-le-mul_right, mod-lt, zero-lt-suc, div-lt_iff_lt-mul, one-mul, div-add-mod', le-div_iff_mul-le, arith, lit<, eqb→eq, leb→le, pow_pos, pow_mono, shl_exact}
use Prim.Native.Nat.{compare, Ordering}
use native.Mathlib.Nat.{pow-succ'}
use native.Mathlib.Decide.{dec_lt}
use lib.Dec.{is_le, compare_is_eq, nleb→lt, eqb_refl}
use lib.Arith.{digits_div, digits_mod, lt_of_le-ne}
use lib.Ieee.{Format, binary32, binary64, prec, low, size, nearest, units, round}
use lib.Ieee.Digits.{size-le}
use lib.Ieee.Fits.{round_is}
use lib.Ieee.Nearest.{closest}
use Rattle.number.proofs.Pack.{size_is}

-- ---- what `compare` answers
pub compare_lt : (a b : ℕ) → a < b → compare a b ≡ Ordering.lt
compare_lt a b h = go (compare a b) (nleb→lt a b) (eqb→eq a b)
  where
    go : (o : Ordering) → (T (not (is_le o)) → b < a) → (T (compare_is_eq o) → a ≡ b) → o ≡ Ordering.lt
    go Ordering.lt g e = refl
    go Ordering.eq g e = absurd (let z = e tt in omega arith)
    go Ordering.gt g e = absurd (let z = g tt in omega arith)

pub compare_gt : (a b : ℕ) → b < a → compare a b ≡ Ordering.gt
compare_gt a b h = go (compare a b) (leb→le a b)
  where
    go : (o : Ordering) → (T (is_le o) → a ≤ b) → o ≡ Ordering.gt
    go Ordering.lt g = absurd (let z = g tt in omega arith)
    go Ordering.eq g = absurd (let z = g tt in omega arith)
    go Ordering.gt g = refl

pub compare_eq : (a b : ℕ) → a ≡ b → compare a b ≡ Ordering.eq
compare_eq a b h = go (compare a b) (subst (λ (i : ℕ). T (eqb a i)) h (eqb_refl a))
  where
    go : (o : Ordering) → T (compare_is_eq o) → o ≡ Ordering.eq
    go Ordering.lt g = absurd g
    go Ordering.eq g = refl
    go Ordering.gt g = absurd g

-- ---- `closest a b` is within a half of a / b
abbrev Cmp : Ordering → ℕ → ℕ → Type 0
Cmp Ordering.lt a b = a < b
Cmp Ordering.eq a b = a ≡ b
Cmp Ordering.gt a b = b < a

cmp : (a b : ℕ) → Cmp (compare a b) a b
cmp a b = go (compare a b) (leb→le a b) (nleb→lt a b) (eqb→eq a b) (λ (e : a ≡ b). subst (λ (x : ℕ). T (eqb a x)) e (eqb_refl a))
  where
    go : (o : Ordering) → (T (is_le o) → a ≤ b) → (T (not (is_le o)) → b < a) → (T (compare_is_eq o) → a ≡ b) → (a ≡ b → T (compare_is_eq o)) → Cmp o a b
    go Ordering.lt h k e n = lt_of_le-ne (h tt) n
    go Ordering.eq h k e n = e tt
    go Ordering.gt h k e n = k tt

within_half : (q r b : ℕ) (o : Ordering) → r < b → Cmp o (r * 2) b
    → (2 * (q * b + r) ≤ 2 * (nearest q o * b) + b) × (2 * (nearest q o * b) ≤ 2 * (q * b + r) + b)
within_half q r b Ordering.lt h c = omega arith
within_half q r b Ordering.eq h c = let m : q % 2 * b ≤ 1 * b = mul-le-mul_right b (omega arith) in omega arith
within_half q r b Ordering.gt h c = omega arith

pub near : (a b : ℕ) → 0 < b → (2 * a ≤ 2 * (closest a b * b) + b) × (2 * (closest a b * b) ≤ 2 * a + b)
near a b B =
    let h = within_half (a / b) (a % b) b (compare (a % b * 2) b) (mod-lt a B) (cmp (a % b * 2) b) in
    let e = div-add-mod' a b in
    omega arith

-- ---- the nearest whole number to a / b, where a is q * b + r
pub closest_split : (q r b : ℕ) (o : Ordering) → r < b → compare (r * 2) b ≡ o → closest (q * b + r) b ≡ nearest q o
closest_split q r b o h e =
    ap (λ (i : ℕ). nearest i (compare ((q * b + r) % b * 2) b)) (digits_div q h)
    ∙ ap (λ (i : ℕ). nearest q (compare (i * 2) b)) (digits_mod q h)
    ∙ ap (nearest q) e

-- less than a half is nothing
pub closest_zero : (a b : ℕ) → a * 2 < b → closest a b ≡ 0
closest_zero a b h =
    ap (λ (i : ℕ). closest i b) (plus b a) ∙ closest_split 0 a b Ordering.lt (omega arith) (compare_lt (a * 2) b h)
  where
    plus : (b a : ℕ) → a ≡ 0 * b + a
    plus b a = omega arith

-- what lies strictly between 2 * r and 2 * (r + 1), in units of 2 ^ -2 of what is kept, rounds as 2 * r + 1 does
pub closest_between : (r t a : ℕ) → 0 < t → 2 * r * t < a → a < 2 * suc r * t → closest a (4 * t) ≡ closest (2 * r + 1) 4
closest_between r t a t0 l h = go (r / 2) (r % 2) (omega arith) (omega arith)
  where
    low_half : (q d : ℕ) → a ≡ q * (4 * t) + d → d < 2 * t → closest a (4 * t) ≡ q
    low_half q d e g = ap (λ (i : ℕ). closest i (4 * t)) e ∙ closest_split q d (4 * t) Ordering.lt (omega arith) (compare_lt (d * 2) (4 * t) (omega arith))

    high_half : (q d : ℕ) → a ≡ q * (4 * t) + d → 2 * t < d → d < 4 * t → closest a (4 * t) ≡ suc q
    high_half q d e g k = ap (λ (i : ℕ). closest i (4 * t)) e ∙ closest_split q d (4 * t) Ordering.gt k (compare_gt (d * 2) (4 * t) (omega arith))

    go : (q g : ℕ) → r ≡ q * 2 + g → g < 2 → closest a (4 * t) ≡ closest (2 * r + 1) 4
    go q zero e s =
        let f : r * t ≡ (q * 2 + 0) * t = ap (λ (i : ℕ). i * t) e in
        low_half q (a - q * (4 * t)) (omega arith) (omega arith)
        ∙ sym (ap (λ (i : ℕ). closest i 4) {x = 2 * r + 1} {y = q * 4 + 1} (omega arith) ∙ closest_split q 1 4 Ordering.lt (omega arith) refl)
    go q (suc zero) e s =
        let f : r * t ≡ (q * 2 + 1) * t = ap (λ (i : ℕ). i * t) e in
        high_half q (a - q * (4 * t)) (omega arith) (omega arith) (omega arith)
        ∙ sym (ap (λ (i : ℕ). closest i 4) {x = 2 * r + 1} {y = q * 4 + 3} (omega arith) ∙ closest_split q 3 4 Ordering.gt (omega arith) refl)
    go q (suc (suc g)) e s = absurd (omega arith)

-- Adding less than a half, by one unit if what is kept is even, and cutting off rounds to the nearest, a tie to the even one.
halves : (q r h : ℕ) → 0 < h → r < 2 * h → (q * (2 * h) + r + (h - 1) + q % 2) / (2 * h) ≡ nearest q (compare (r * 2) (2 * h))
halves q r h H R = elim (dec_lt r h) [
  | yes l ↦ down (omega arith) ∙ sym (ap (nearest q) (compare_lt (r * 2) (2 * h) (omega arith)))
  | no n ↦ elim (dec_lt h r) [
    | yes g ↦ upward (omega arith) ∙ sym (ap (nearest q) (compare_gt (r * 2) (2 * h) (omega arith)))
    | no m ↦ tie (q % 2) refl (omega arith) (omega arith) ∙ sym (ap (nearest q) (compare_eq (r * 2) (2 * h) (omega arith)))
  ]
]
  where
    down : r + (h - 1) + q % 2 < 2 * h → (q * (2 * h) + r + (h - 1) + q % 2) / (2 * h) ≡ q
    down l = ap (λ (i : ℕ). i / (2 * h)) (sum (q * (2 * h)) r (h - 1) (q % 2)) ∙ digits_div q l
      where
        sum : (a b c d : ℕ) → a + b + c + d ≡ a + (b + c + d)
        sum a b c d = omega arith

    upward : 2 * h ≤ r + (h - 1) + q % 2 → (q * (2 * h) + r + (h - 1) + q % 2) / (2 * h) ≡ suc q
    upward g = ap (λ (i : ℕ). i / (2 * h)) carry ∙ digits_div (suc q) (omega arith)
      where
        carry : q * (2 * h) + r + (h - 1) + q % 2 ≡ suc q * (2 * h) + (r + (h - 1) + q % 2 - 2 * h)
        carry = omega arith

    tie : (o : ℕ) → q % 2 ≡ o → o < 2 → r ≡ h → (q * (2 * h) + r + (h - 1) + q % 2) / (2 * h) ≡ q + q % 2
    tie zero e s z = down (omega arith) ∙ omega arith
    tie (suc zero) e s z = upward (omega arith) ∙ omega arith
    tie (suc (suc o)) e s z = absurd (omega arith)

-- the bit of a half, where d digits are cut off
pub twice_half : (d : ℕ) → 0 < d → 2 ^ d ≡ 2 * 2 ^ (d - 1)
twice_half d D = ap (λ (i : ℕ). 2 ^ i) (whole d D) ∙ pow-succ' 2 (d - 1)
  where
    whole : (i : ℕ) → 0 < i → i ≡ suc (i - 1)
    whole i h = omega arith

pub half_bit : (d : ℕ) → 0 < d → d < 64 → 1 * 2 ^ (d - 1) % 2 ^ 64 ≡ 2 ^ (d - 1)
half_bit d a b = shl_exact 1 (d - 1) 64 (lit< tt) (omega arith) ∙ one-mul (2 ^ (d - 1))

pub half_bit_le : (d : ℕ) → 0 < d → d < 64 → 1 * 2 ^ (d - 1) % 2 ^ 64 ≤ 2 ^ 62
half_bit_le d a b = subst (λ (i : ℕ). i ≤ 2 ^ 62) (sym (half_bit d a b)) (pow_mono {i = d - 1} {j = 62} (omega arith))

pub nearest_shift : (m d : ℕ) → 0 < d → (m + (2 ^ (d - 1) - 1) + m / 2 ^ d % 2) / 2 ^ d ≡ closest m (2 ^ d)
nearest_shift m d D = go (2 ^ d) (2 ^ (d - 1)) (twice_half d D) (pow_pos (d - 1))
  where
    go : (u h : ℕ) → u ≡ 2 * h → 0 < h → (m + (h - 1) + m / u % 2) / u ≡ closest m u
    go u h e H =
        let R : m % u < u = mod-lt m (omega arith) in
        ap (λ (i : ℕ). (i + (h - 1) + m / u % 2) / u) (sym (div-add-mod' m u))
        ∙ subst (λ (v : ℕ). m % u < v → (m / u * v + m % u + (h - 1) + m / u % 2) / v ≡ nearest (m / u) (compare (m % u * 2) v)) (sym e) (halves (m / u) (m % u) h H) R

-- ---- `round` drops k digits of a fraction whose whole part, in smallest values, has prec + k of them; at k = 0 it may have fewer
drops : (p n c k : ℕ) → 0 < p → 0 < c → (0 < k → 2 ^ (p - 1 + k) * c ≤ n) → n < 2 ^ (p + k) * c → size (n / c) - p ≡ k
drops p n c zero P C a b = none (size (n / c)) (size-le (n / c) (p + 0) ((div-lt_iff_lt-mul C).1 b))
  where
    none : (z : ℕ) → z ≤ p + 0 → z - p ≡ 0
    none z h = omega arith
drops p n c (suc k) P C a b =
    left (size (n / c)) (size_is (n / c) (p - 1 + suc k) ((le-div_iff_mul-le C).1 (a (zero-lt-suc k)))
    (lt_of_lt_of_le ((div-lt_iff_lt-mul C).1 b) (le_of_eq (ap (λ (i : ℕ). 2 ^ i) (next p k P)))))
  where
    next : (i j : ℕ) → 0 < i → i + suc j ≡ suc (i - 1 + suc j)
    next i j h = omega arith

    left : (z : ℕ) → z ≡ suc (p - 1 + suc k) → z - p ≡ suc k
    left z e = omega arith

digits_pos : (f : Format) → 0 < prec f
digits_pos binary32 = zero-lt-suc 23
digits_pos binary64 = zero-lt-suc 52

pub round_at : (f : Format) (s : Bool) (a c k : ℕ) → 0 < c → (0 < k → 2 ^ (prec f - 1 + k) * c ≤ a * 2 ^ low f) → a * 2 ^ low f < 2 ^ (prec f + k) * c
    → round f s a c ≡ units f s (closest (a * 2 ^ low f) (c * 2 ^ k)) k
round_at f s a c k C lo hi =
    round_is f s a c
    ∙ ap (λ (i : ℕ). units f s (closest (a * 2 ^ low f) (c * 2 ^ i)) i) (drops (prec f) (a * 2 ^ low f) c k (digits_pos f) C lo hi)
