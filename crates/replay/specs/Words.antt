-- The words of a record, 8 bytes each, the lowest first. Definitions only.
use Rattle.std.specs.Prelude.{ℕ, min, List, ◌++◌, length, drop, Float}
use Rattle.number.specs.Bytes.{numbers_at}

-- n of 192 words as numbers in place of the first n of a list, as many as there is room for
abbrev pub put_words : ℕ → List ℕ → List Float → List Float
put_words n b l = let k = min (min n 192) (length l) in numbers_at b 0 k ++ drop k l
