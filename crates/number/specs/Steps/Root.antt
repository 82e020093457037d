-- The digits of a rounded root, by those of the number. Definitions only. Values are whole numbers. Assumes nothing.
use Rattle.std.specs.Prelude.{ℕ, ◌+◌, ◌*◌, ◌%◌, ◌^◌}
use Rattle.std.specs.Float.Ieee.Nearest.{closest}
use Rattle.number.specs.Root.{root_of, rest_of}

-- the 53 digits of the rounded root of m * 2 ^ (w - 52) smallest values, by a root of 54 digits and what is left
abbrev pub root_digits : ℕ → ℕ → ℕ
root_digits m w = let n = m * 2 ^ (1 + w % 2) * 2 ^ 53 in closest (2 * root_of n + rest_of (root_of n) n) 4
