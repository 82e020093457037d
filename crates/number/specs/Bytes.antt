-- Numbers in lent bytes, the low byte of each first. Definitions only.
use Rattle.std.specs.Prelude.{ℕ, zero, suc, ◌+◌, ◌*◌, cond, List, [], ◌∷◌, length, take, drop, from_bits, nat_le, Float}
use Rattle.std.specs.Float.{binary64}

-- the whole number that bytes stand for, the lowest first
unfoldable pub little_endian : List ℕ → ℕ
little_endian [] = 0
little_endian (b ∷ bs) = b + 256 * little_endian bs

-- the whole number of n bytes from place i on; 0 where they are not all there
unfoldable pub word_at : ℕ → List ℕ → ℕ → ℕ
unfolding little_endian
word_at n b i = cond (nat_le (i + n) (length b)) (little_endian (take n (drop i b))) 0

-- the number of binary64 whose pattern stands in 8 bytes from place i on: some NaN, where it is a NaN's
abbrev pub f64_at : List ℕ → ℕ → Float
f64_at b i = from_bits binary64 (word_at 8 b i)

-- n such numbers, one behind the other
unfoldable pub numbers_at : List ℕ → ℕ → ℕ → List Float
unfolding word_at
numbers_at b i zero = []
numbers_at b i (suc n) = f64_at b i ∷ numbers_at b (i + 8) n

-- what a slice holds after numbers were put into it from bytes: as many as it has room for, from place i on, if the bytes hold them
abbrev pub loaded : List ℕ → ℕ → List Float → List Float
loaded b i out = cond (nat_le (i + 8 * length out) (length b)) (numbers_at b i (length out)) out
