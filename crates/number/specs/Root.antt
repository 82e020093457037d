-- squareRoot of IEEE 754, clause 5.4.1, rounded to nearest, ties to even, over whole numbers. Definitions only.
-- In units of its format's smallest value, 2 ^ -low, a number x is n units, and its root is the root of n * 2 ^ low units.
use Rattle.std.specs.Prelude.{ℕ, zero, suc, ◌+◌, ◌*◌, ◌/◌, ◌^◌, ◌<◌, ◌≤◌, false, cond, T, ℤ, nat_le, nat_lt, Float}
use Rattle.std.specs.Float.{nan, inf, fin, Format}
use Rattle.std.specs.Float.Ieee.{low, up, down, size, round, fits}
use Rattle.std.specs.Float.Ieee.Exact.{HasValue}

-- The whole part of n's square root, for an n below 4 ^ k: two binary digits of n give one of the root.
unfoldable pub root_in : ℕ → ℕ → ℕ
root_in zero n = 0
root_in (suc k) n = let r = root_in k (n / 4) in cond (nat_le ((2 * r + 1) * (2 * r + 1)) n) (2 * r + 1) (2 * r)

unfoldable pub root_of : ℕ → ℕ
unfolding root_in
root_of n = root_in (size n) n

-- 1 where r is less than the root of n, and 0 where it is the root
abbrev pub rest_of : ℕ → ℕ → ℕ
rest_of r n = cond (nat_lt (r * r) n) 1 0

-- The root of s whole units squared, rounded once. With r its whole part it is r, or lies strictly between r and r + 1.
-- No value of the format, and no number half way between two of them, lies there, so r and a half stands for every such root.
unfoldable pub round_root : Format → ℕ → Float
unfolding root_of round
round_root f s = let r = root_of s in round f false (2 * r + rest_of r s) (2 * 2 ^ low f)

-- Zeros keep their sign, +infinity stays, and what is below zero has no root.
unfoldable pub sqrt_of : Format → Float → Float
unfolding round_root
sqrt_of f nan = nan
sqrt_of f (inf s) = cond s nan (inf false)
sqrt_of f (fin s zero e) = fin s zero e
sqrt_of f (fin s (suc m) e) = cond s nan (round_root f (suc m * up e * 2 ^ low f / down e * 2 ^ low f))

-- y is a value of the format nearest to the root of s whole units squared: measured by squares, the root is not beyond the middle between y and any other value z.
pub record NearestRoot (f : Format) (s : ℕ) (y : Float) : Type 0 where
  pub held : T (fits f y)
  pub units : ℕ
  pub value : HasValue y false units (2 ^ low f)
  pub above : (z : Float) (Z : ℕ) → T (fits f z) → HasValue z false Z (2 ^ low f) → units < Z → 4 * s ≤ (units + Z) * (units + Z)
  pub below : (z : Float) (Z : ℕ) → T (fits f z) → HasValue z false Z (2 ^ low f) → Z < units → (units + Z) * (units + Z) ≤ 4 * s

-- x is so many of its format's smallest values, and no value of the format is nearer to its root than its square root is.
pub record RootNearest (f : Format) (x : Float) : Type 0 where
  pub units : ℕ
  pub value : HasValue x false units (2 ^ low f)
  pub nearest : NearestRoot f (units * 2 ^ low f) (sqrt_of f x)

-- So it is of every finite value above zero, in every format.
abbrev pub SqrtNearest : Type 0
SqrtNearest = (f : Format) (m : ℕ) (e : ℤ) → T (fits f (fin false (suc m) e)) → RootNearest f (fin false (suc m) e)
