-- When an answer is the one recorded. Definitions only.
use Rattle.std.specs.Prelude.{Bool, true, false, not, ◌&&◌, ◌||◌, List, [], ◌∷◌, ◌==◌, from_bits, to_bits, Float}
use Rattle.std.specs.Float.{binary64}
use Rattle.std.specs.Float.Ieee.{eq}

-- a zero of either sign; the pattern 0 is the positive one
abbrev pub is_zero : Float → Bool
is_zero x = eq x (from_bits binary64 0)

-- Equal bits, or both NaN, all of which have one pattern here, or both zero where the signs of zeros do not count.
unfoldable pub same : Bool → Float → Float → Bool
same signed x y = to_bits binary64 x == to_bits binary64 y || ((not signed && is_zero x) && is_zero y)

-- number by number, and equally many
abbrev pub all_same : Bool → List Float → List Float → Bool
all_same signed [] [] = true
all_same signed (x ∷ a) (y ∷ b) = same signed x y && all_same signed a b
all_same signed [] (y ∷ b) = false
all_same signed (x ∷ a) [] = false
