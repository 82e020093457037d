-- The numbers that the code writes out in decimal. Definitions only.
use Rattle.std.specs.Prelude.{ℕ, ◌*◌, ◌-◌, ◌^◌, false, Float}
use Rattle.std.specs.Float.{binary64}
use Rattle.std.specs.Float.Ieee.{round}

-- n / d, rounded once
abbrev pub rounded : ℕ → ℕ → Float
rounded n d = round binary64 false n d

abbrev pub positive_zero : Float
positive_zero = rounded 0 1

abbrev pub one : Float
one = rounded 1 1

abbrev pub half : Float
half = rounded 1 2

-- "the larger of length and 1e-10"
abbrev pub min_length : Float
min_length = rounded 1 (10 ^ 10)

-- "1e-12 for `inverse`"
abbrev pub singular_determinant : Float
singular_determinant = rounded 1 (10 ^ 12)

-- the largest number of binary32
abbrev pub largest32 : Float
largest32 = rounded ((2 ^ 24 - 1) * 2 ^ 104) 1
