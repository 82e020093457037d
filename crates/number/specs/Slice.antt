-- Lent slices as lists of numbers. Definitions only.
-- The numbers are values: a NaN that is read, stored or copied is some NaN there.
use Rattle.std.specs.Prelude.{ℕ, ◌+◌, Bool, cond, List, ◌++◌, length, take, drop, ◌==◌, nat_le, slice_index_or, Float}
use Rattle.std.specs.Float.{nan}
use Rattle.std.specs.Float.Ieee.Scale.{finite}
use Rattle.number.specs.Every.{every}

-- the number at a place, and past the end a NaN
abbrev pub at : List Float → ℕ → Float
at s i = slice_index_or s i nan

-- none is a NaN or an infinity
abbrev pub all_finite : List Float → Bool
all_finite s = every finite s

-- what a slice holds after the numbers v were stored into it: those, if it has room for just as many
abbrev pub stored : List Float → List Float → List Float
stored v out = cond (length v == length out) v out

-- what it holds after they were stored into it from place n on: those there and its own before and after, if it has room for them
abbrev pub stored_at : List Float → ℕ → List Float → List Float
stored_at v n out = cond (nat_le (n + length v) (length out)) (take n out ++ v ++ drop (n + length v) out) out
