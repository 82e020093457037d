-- Several records of one length in a slice, one behind another. Definitions only.
use Rattle.std.specs.Prelude.{ℕ, ◌*◌, ◌/◌, ◌%◌, Bool, ◌&&◌, List, length, take, drop, ◌==◌, nat_lt, Float}
use Rattle.number.specs.Tabulate.{tabulate}

-- record i, of those of k numbers
abbrev pub record_at : ℕ → List Float → ℕ → List Float
record_at k s i = take k (drop (i * k) s)

-- the first n of them
abbrev pub records : ℕ → ℕ → List Float → List (List Float)
records k n s = tabulate (record_at k s) n

-- how many a slice has, and all of them
abbrev pub record_count : ℕ → List Float → ℕ
record_count k s = length s / k

abbrev pub records_of : ℕ → List Float → List (List Float)
records_of k s = records k (record_count k s) s

-- a slice of whole records
abbrev pub is_whole : ℕ → List Float → Bool
is_whole k s = length s % k == 0

-- and of one at least
abbrev pub are_records : ℕ → List Float → Bool
are_records k s = nat_lt 0 (length s) && is_whole k s
