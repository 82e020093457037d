-- Lone numbers and verdicts as a record has them: numbers of a slice. Definitions only.
use Rattle.std.specs.Prelude.{Bool, true, false, List, from_bits, slice_set, Float}
use Rattle.std.specs.Float.{binary64}
use Rattle.number.specs.Answer.{Reply, Outcome, refused, outcome, refuse, write}

-- a lone number stands first in the slice, if that has room; a refusal preserves the slice
abbrev pub put_number : Outcome Float → List Float → Reply Float
put_number (refused n) out = refuse n out
put_number (outcome x) out = write (slice_set out 0 x)

-- a yes is the word 1, a no the word 0
abbrev pub as_number : Outcome Bool → Outcome Float
as_number (refused n) = refused n
as_number (outcome true) = outcome (from_bits binary64 1)
as_number (outcome false) = outcome (from_bits binary64 0)
