-- `root_of n` is the whole part of n's square root: its square is at most n, and the next square is above n.
-- By induction on the binary digits, two at a time: with r the root of n / 4, that of n is 2 * r or 2 * r + 1.
use Rattle.std.proofs.Common.{◌≡◌, ℕ, zero, suc, ◌+◌, ◌*◌, ◌/◌, ◌^◌, ◌<◌, ◌≤◌, Bool, true, false, cond, not, T, leb, sym, ap, ◌∙◌, le_trans, le_of_eq, lt_of_lt_of_le, le_of_suc-le-suc, lt_of_le_of_lt, mul-le-mul_right, zero-lt-suc, div-lt_iff_lt-mul, mul-le-mul, le_antisymm, mul-lt-mul_of_pos_right, mul-pos, pow-suc, lt_of_not-le, not-le_of_lt, arith, lit≤, leb→le}
use native.Mathlib.Nat.{pow-le-pow_left}
use lib.Dec.{nleb→lt}
use lib.Ieee.{size}
use lib.Ieee.Digits.{size-lt}
use Rattle.number.specs.Root.{root_in, root_of}

-- r is the whole part of n's square root
abbrev IsRoot : ℕ → ℕ → Type 0
IsRoot n r = (r * r ≤ n) × (n < suc r * suc r)

-- one more digit of the root
digit : (n r : ℕ) → IsRoot (n / 4) r → IsRoot n (cond (leb ((2 * r + 1) * (2 * r + 1)) n) (2 * r + 1) (2 * r))
digit n r h = go (leb x n) (leb→le x n) (nleb→lt x n)
  where
    x : ℕ
    x = (2 * r + 1) * (2 * r + 1)

    go : (b : Bool) → (T b → x ≤ n) → (T (not b) → n < x) → IsRoot n (cond b (2 * r + 1) (2 * r))
    go true l g = let l' : (2 * r + 1) * (2 * r + 1) ≤ n = l tt in omega arith
    go false l g = let g' : n < (2 * r + 1) * (2 * r + 1) = g tt in omega arith

none : (n : ℕ) → n < 1 → IsRoot n 0
none n h = omega arith

in_root : (k n : ℕ) → n < 4 ^ k → IsRoot n (root_in k n)
unfolding root_in
in_root zero n h = none n h
in_root (suc k) n h = digit n (root_in k (n / 4)) (in_root k (n / 4) ((div-lt_iff_lt-mul (zero-lt-suc 3)).1 (lt_of_lt_of_le h (le_of_eq (pow-suc 4 k)))))

is_root : (n : ℕ) → IsRoot n (root_of n)
unfolding root_of
is_root n = in_root (size n) n (lt_of_lt_of_le (size-lt n) (pow-le-pow_left (lit≤ tt) (size n)))

pub root_le : (n : ℕ) → root_of n * root_of n ≤ n
root_le n = (is_root n).0

pub root_lt : (n : ℕ) → n < suc (root_of n) * suc (root_of n)
root_lt n = (is_root n).1

-- the smaller square has the smaller root
pub square_lt : (a b : ℕ) → a * a < b * b → a < b
square_lt a b h = lt_of_not-le (λ (g : b ≤ a). not-le_of_lt h (mul-le-mul g g))

-- a number has one whole root
pub root_unique : (n r : ℕ) → r * r ≤ n → n < suc r * suc r → root_of n ≡ r
root_unique n r l g = le_antisymm
    (le_of_suc-le-suc (square_lt (root_of n) (suc r) (lt_of_le_of_lt (root_le n) g)))
    (le_of_suc-le-suc (square_lt r (suc (root_of n)) (lt_of_le_of_lt l (root_lt n))))

squares : (a t : ℕ) → a * t * (a * t) ≡ a * a * (t * t)
squares a t = omega arith

below_next : (a : ℕ) → a * a < suc a * suc a
below_next a = omega arith

-- With n scaled by t * t the root lies between the scaled neighbours, and that of a square is scaled by t.
pub root_scaled : (n r t : ℕ) → 0 < t → r * r ≤ n → n < suc r * suc r
    → (r * t ≤ root_of (n * (t * t))) × (root_of (n * (t * t)) < suc r * t) × (n ≡ r * r → root_of (n * (t * t)) ≡ r * t)
root_scaled n r t p l g =
    let lo : r * t * (r * t) ≤ n * (t * t) = le_trans (le_of_eq (squares r t)) (mul-le-mul_right (t * t) l) in
    let hi : n * (t * t) < suc r * t * (suc r * t) =
    lt_of_lt_of_le (mul-lt-mul_of_pos_right g (mul-pos p p)) (le_of_eq (sym (squares (suc r) t))) in (
      le_of_suc-le-suc (square_lt (r * t) (suc (root_of (n * (t * t)))) (lt_of_le_of_lt lo (root_lt (n * (t * t))))),
      square_lt (root_of (n * (t * t))) (suc r * t) (lt_of_le_of_lt (root_le (n * (t * t))) hi),
      λ e. root_unique (n * (t * t)) (r * t) lo
          (lt_of_le_of_lt (le_of_eq (ap (λ (x : ℕ). x * (t * t)) e ∙ sym (squares r t))) (below_next (r * t))),
    )
