-- Floats that are whole numbers of the farm grid, and those numbers. Definitions only.
use Rattle.std.specs.Prelude.{Bool, ◌&&◌, List, map, ℤ, Float}
use Rattle.std.specs.Float.{binary64}
use Rattle.std.specs.Float.Ieee.{eq, of_int, to_signed}
use Rattle.number.specs.Limits.{distance_limit}
use Rattle.number.specs.Every.{every}
use Rattle.whole.specs.SegmentCall.{within}

-- a number without its fraction: 0 for a NaN, and at most 2 ^ 63 in size
abbrev pub truncated : Float → ℤ
truncated x = to_signed 63 x

-- The number x is whole, and no larger than the largest limit of the grid. A −0 is 0 here, since the comparison takes zeros of either sign alike.
abbrev pub is_whole_number : Float → Bool
is_whole_number x = within distance_limit (truncated x) && eq x (of_int binary64 (truncated x))

abbrev pub are_whole_numbers : List Float → Bool
are_whole_numbers s = every is_whole_number s

abbrev pub whole_numbers : List Float → List ℤ
whole_numbers s = map truncated s
