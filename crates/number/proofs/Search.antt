-- The search for a root, bit by bit: `AfterBit` of `specs/Search.antt` holds after the first bit, one bit more keeps it, and after the last bit the whole root is
-- found. The idea: (root + h)² = root² + (2 * root + h) * h, so that what a bit h adds to the square is what the remainder loses. Assumes nothing.
use Rattle.std.proofs.Common.{◌≡◌, ℕ, zero, suc, ◌+◌, ◌-◌, ◌*◌, ◌/◌, ◌^◌, ◌<◌, ◌≤◌, Bool, true, false, cond, not, T, ltb, leb, eqb, lt→ltb, zero-lt-suc, sym, refl, ap, ◌∙◌, subst, le_trans, le_of_eq, le-add_right, lt_of_le_of_lt, zero-mul, mul-one, mul-div_cancel, arith, leb→le, pow_pos}
use native.Mathlib.Nat.{pow-succ'}
use Rattle.std.proofs.lemmas.Bool.Decides.{nat_tests}
use Rattle.std.specs.Int.{from_bool}
use lib.Dec.{nleb→lt}
use lib.Ieee.Bits.{is_true}
use Rattle.number.specs.Root.{root_of, rest_of}
use Rattle.number.specs.Search.{RootSoFar, AfterBit, RootFound, used_of, kept_of, skipped_of, tried_of}
use Rattle.number.specs.declared.root.PartialRoot.{PartialRoot}
use Rattle.number.specs.declared.root.WholeRoot.{WholeRoot}
use Rattle.number.proofs.RootRounding.{rest_none, rest_some}
use Rattle.number.proofs.WholeRoot.{root_unique, square_lt}

-- ---- the number as far as used
-- a number of units of b is used whole, and of units of its half too
all_used : (q b : ℕ) → 0 < b → used_of (q * b) b ≡ q * b
all_used q b B = ap (λ (i : ℕ). i * b) (mul-div_cancel q B)

used_whole : (n b q : ℕ) → 0 < b → n ≡ q * b → used_of n b ≡ n
used_whole n b q B e = ap (λ (i : ℕ). used_of i b) e ∙ all_used q b B ∙ sym e

searched : (n b root remainder digits q : ℕ) → 0 < b → n ≡ q * b → root ≡ digits * b → root * root + remainder * b ≡ n → remainder < 2 * root + b
    → RootSoFar n b root remainder
searched n b root remainder digits q B u r e l = record {
  digits = digits;
  root_is = r;
  used = e ∙ sym (used_whole n b q B u);
  unused = used_whole n b q B u;
  most = l;
}

pub whole : {n b root remainder : ℕ} → RootSoFar n b root remainder → root * root + remainder * b ≡ n
whole s = s.used ∙ s.unused

-- ---- the first bit
pub first : (number : ℕ) → 2 ^ 53 ≤ number → number < 2 ^ 55
    → AfterBit (number * 2 ^ 53) (2 ^ 53) (record { trial = 5 * 2 ^ 53; left = 4 * (number - 2 ^ 53) })
first number l g = record {
  power = 53;
  bit = refl;
  root = 2 ^ 53;
  remainder = number - 2 ^ 53;
  searched = searched _ _ _ _ 1 number (pow_pos 53) refl refl (omega arith) (omega arith);
  trial = refl;
  left = refl;
}

-- ---- one bit more, h, after the bit b
module _ (n b h root remainder : ℕ) (B : b ≡ 2 * h) (H : 0 < h) (s : RootSoFar n b root remainder) where
  halves : root ≡ s.digits * (2 * h)
  halves = s.root_is ∙ ap (λ (i : ℕ). s.digits * i) B

  units : n ≡ n / b * 2 * h
  units = sym s.unused ∙ ap (λ (i : ℕ). n / b * i) B ∙ omega arith

  square : root * root + remainder * (2 * h) ≡ n
  square = ap (λ (i : ℕ). root * root + remainder * i) (sym B) ∙ whole s

  -- the bit is kept: (root + h)² = root² + (2 * root + h) * h
  kept : 2 * root + h ≤ 2 * remainder → RootSoFar n h (root + h) (2 * remainder - (2 * root + h))
  kept l = searched n h (root + h) (2 * remainder - (2 * root + h)) (2 * s.digits + 1) (n / b * 2) H units (let e = halves in omega arith)
      (squares (2 * remainder - (2 * root + h)) (omega arith)) (let m = s.most in omega arith)
    where
      squares : (d : ℕ) → d + (2 * root + h) ≡ 2 * remainder → (root + h) * (root + h) + d * h ≡ n
      squares d f = let e = ap (λ (i : ℕ). i * h) f in let w = square in omega arith

  -- it is not
  passed : 2 * remainder < 2 * root + h → RootSoFar n h root (2 * remainder)
  passed l = searched n h root (2 * remainder) (2 * s.digits) (n / b * 2) H units (let e = halves in omega arith) (let w = square in omega arith) (omega arith)

-- what holds after the bit b holds after the next, as the code holds it
pub next : (n b : ℕ) (s : PartialRoot) → 1 < b → AfterBit n b s → AfterBit n (b / 2) (tried_of s b)
next n b s h a = go a.power a.bit
  where
    go : (k : ℕ) → b ≡ 2 ^ k → AfterBit n (b / 2) (tried_of s b)
    go zero f = absurd (omega arith)
    go (suc k) f = by (leb s.trial s.left) (leb→le s.trial s.left) (nleb→lt s.trial s.left)
      where
        twice : b ≡ 2 * 2 ^ k
        twice = f ∙ pow-succ' 2 k

        half : b / 2 ≡ 2 ^ k
        half = omega arith

        by : (z : Bool) → (T z → s.trial ≤ s.left) → (T (not z) → s.left < s.trial) → AfterBit n (b / 2) (cond z (kept_of s b) (skipped_of s b))
        by true l g = record {
          power = k;
          bit = half;
          root = a.root + b / 2;
          remainder = 2 * a.remainder - (2 * a.root + b / 2);
          searched = kept n b (b / 2) a.root a.remainder (omega arith) (omega (arith, pow_pos k)) a.searched (omega (arith, a.trial, a.left, l tt));
          trial = omega (arith, a.trial);
          left = omega (arith, a.trial, a.left, l tt);
        }
        by false l g = record {
          power = k;
          bit = half;
          root = a.root;
          remainder = 2 * a.remainder;
          searched = passed n b (b / 2) a.root a.remainder (omega arith) (omega (arith, pow_pos k)) a.searched (omega (arith, a.trial, a.left, g tt));
          trial = omega (arith, a.trial);
          left = omega (arith, a.left);
        }

-- the root so far is below k where n is below k * k
pub root_below : (n b root remainder k : ℕ) → RootSoFar n b root remainder → n < k * k → root < k
root_below n b root remainder k s l =
    square_lt root k (lt_of_le_of_lt (le_trans (le-add_right (root * root) (remainder * b)) (le_of_eq (whole s))) l)

-- ---- the last bit, or nothing left
pub exact : (n b root remainder q : ℕ) → RootSoFar n b root remainder → q ≡ root → remainder ≡ 0 → RootFound n (record { root = q; inexact = false })
exact n b root remainder q s e z = record { remainder = 0; searched = searched n 1 q 0 q n (omega arith) (sym (mul-one n)) (sym (mul-one q)) square (omega arith); inexact = refl }
  where
    square : q * q + 0 * 1 ≡ n
    square =
        ap (λ (i : ℕ). i * i + 0 * 1) e
        ∙ sym (ap (λ (i : ℕ). root * root + i) {x = remainder * b} {y = 0 * 1} (ap (λ (i : ℕ). i * b) z ∙ zero-mul b))
        ∙ whole s

-- four times the remainder is 0 just where nothing is left
left_is : (remainder left : ℕ) → left ≡ 4 * remainder → not (eqb left 0) ≡ ltb 0 remainder
left_is remainder left e = grind (arith, nat_tests)

pub last : (n b root remainder q left : ℕ) → RootSoFar n b root remainder → q ≡ root → b ≡ 1 → left ≡ 4 * remainder
    → RootFound n (record { root = q; inexact = not (eqb left 0) })
last n b root remainder q left s e f l = record {
  remainder = remainder;
  searched = subst (λ (i : ℕ). RootSoFar n i q remainder) f (subst (λ (i : ℕ). RootSoFar n b i remainder) (sym e) s);
  inexact = left_is remainder left l;
}

-- ---- what is found is the whole root
module _ (n : ℕ) (r : WholeRoot) (f : RootFound n r) where
  least : r.root * r.root + f.remainder ≡ n
  least = let w = whole f.searched in omega arith

  pub found_root : r.root ≡ root_of n
  found_root = let e = least in let m = f.searched.most in sym (root_unique n r.root (omega arith) (omega arith))

  pub found_rest : from_bool r.inexact ≡ rest_of (root_of n) n
  found_rest = ap from_bool f.inexact ∙ go f.remainder least ∙ ap (λ (i : ℕ). rest_of i n) found_root
    where
      go : (m : ℕ) → r.root * r.root + m ≡ n → from_bool (ltb 0 m) ≡ rest_of r.root n
      go zero e = sym (rest_none r.root n (omega arith))
      go (suc m) e = ap from_bool (is_true (ltb 0 (suc m)) (lt→ltb 0 (suc m) (zero-lt-suc m))) ∙ sym (rest_some r.root n (omega arith))
