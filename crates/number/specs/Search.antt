-- The search for the whole part of a square root, bit by bit from the highest, with a running remainder. Definitions only.
-- Values are whole numbers: n is the number searched, b the bit just tried, a power of two, and the root so far is so many times b. The code searches
-- n = number * 2 ^ 53 from the bit 2 ^ 53 on, so that the digits of n below its first bit are zeros. Assumes nothing.
use Rattle.std.specs.Prelude.{◌≡◌, ℕ, ◌+◌, ◌-◌, ◌*◌, ◌/◌, ◌^◌, ◌<◌, cond, nat_le, nat_lt}
use Rattle.number.specs.declared.root.PartialRoot.{PartialRoot}
use Rattle.number.specs.declared.root.WholeRoot.{WholeRoot}

-- The number searched, as far as used after the bit b: its binary digits from the place of b upwards. The first bit uses those of `number`, and every bit
-- after it one digit more, a zero.
abbrev pub used_of : ℕ → ℕ → ℕ
used_of n b = n / b * b

-- The search for the root of n after the bit b: the root so far and the remainder, which counts units of b, the place of the last digit used.
pub record RootSoFar (n b root remainder : ℕ) : Type 0 where
  pub digits : ℕ
  pub root_is : root ≡ digits * b
  -- the remainder is "the number searched, as far as used, less the square of the root so far"
  pub used : root * root + remainder * b ≡ used_of n b
  -- and the digits that are not used yet are zeros
  pub unused : used_of n b ≡ n
  -- b once more would be too much, by (root + b)² = root² + (2 * root + b) * b
  pub most : remainder < 2 * root + b

-- What the code holds after the bit b: four times the remainder, and what that has to reach for the next bit, b / 2, to fit.
pub record AfterBit (n b : ℕ) (s : PartialRoot) : Type 0 where
  pub power : ℕ
  pub bit : b ≡ 2 ^ power
  pub root : ℕ
  pub remainder : ℕ
  pub searched : RootSoFar n b root remainder
  pub trial : s.trial ≡ 4 * root + b
  pub left : s.left ≡ 4 * remainder

-- The next bit, b / 2, is tried: with r the root so far it fits if 2 * remainder, in units of b / 2, reaches 2 * r + b / 2. The remainder is "updated with the
-- bit just tried and never from the whole trial's square". Where the bit fits the next trial is 4 * (r + b / 2) + b / 2,
abbrev pub kept_of : PartialRoot → ℕ → PartialRoot
kept_of s b = record { trial = s.trial - b / 2 + 2 * b; left = 2 * (s.left - s.trial) }

-- and where it does not, 4 * r + b / 2.
abbrev pub skipped_of : PartialRoot → ℕ → PartialRoot
skipped_of s b = record { trial = s.trial - b / 2; left = 2 * s.left }

abbrev pub tried_of : PartialRoot → ℕ → PartialRoot
tried_of s b = cond (nat_le s.trial s.left) (kept_of s b) (skipped_of s b)

-- The step from s to r by the bit after b. Whatever number is searched, what holds after a bit holds after the next.
pub record Tried (s : PartialRoot) (b : ℕ) (r : PartialRoot) : Type 0 where
  pub is : r ≡ tried_of s b
  pub next : (n : ℕ) → 1 < b → AfterBit n b s → AfterBit n (b / 2) r

-- What is found after the last bit, 1: inexact where there is a remainder.
pub record RootFound (n : ℕ) (r : WholeRoot) : Type 0 where
  pub remainder : ℕ
  pub searched : RootSoFar n 1 r.root remainder
  pub inexact : r.inexact ≡ nat_lt 0 remainder
