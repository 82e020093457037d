-- The lengths that an operation asks for: of its four inputs, then of its result. Definitions only.
use Rattle.std.specs.Prelude.{ℕ, ◌+◌, ◌-◌, ◌%◌, ◌^◌, Bool, cond, List, nat_lt, slice_index, slice_set}

-- how many numbers the inputs have together
abbrev pub input_numbers : List ℕ → ℕ
input_numbers n = slice_index n 0 + slice_index n 1 + slice_index n 2 + slice_index n 3

-- a slice is lent: no lone number, and not nothing
abbrev pub is_lent : List ℕ → ℕ → Bool
is_lent n i = nat_lt 1 (slice_index n i)

-- with a number less or more at a place, as a byte
abbrev pub shorter : List ℕ → ℕ → List ℕ
shorter n i = slice_set n i (slice_index n i - 1)

abbrev pub longer : List ℕ → ℕ → List ℕ
longer n i = slice_set n i ((slice_index n i + 1) % 2 ^ 8)

-- "1, then 2": an input of a wrong length, then a result of one
abbrev pub refusal_at : ℕ → ℕ
refusal_at i = cond (nat_lt i 4) 1 2
