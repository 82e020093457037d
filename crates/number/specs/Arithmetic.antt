-- binary64 arithmetic as the contracts write it: ⊕, ⊖, ⊗ and ⊘ are the four operations of IEEE 754, clause 5.4.1, each rounded once to nearest, ties to even.
-- Definitions only.
-- A zero has its sign, and each definition says which. A NaN is one value, without sign or payload (std's Float.Ieee): its bits are free, and where a
-- definition gives a NaN, the result may be any NaN.
use Rattle.std.specs.Prelude.{Bool, false, cond, not, ◌&&◌, ◌||◌, pos, is_nan, Float}
use Rattle.std.specs.Float.{nan, inf, fin, binary64}
use Rattle.std.specs.Float.Ieee.{add, sub, mul, div, lt, eq}

infixl 65 ◌⊕◌ ◌⊖◌
infixl 70 ◌⊗◌ ◌⊘◌
abbrev pub ◌⊕◌ : Float → Float → Float
x ⊕ y = add binary64 x y

abbrev pub ◌⊖◌ : Float → Float → Float
x ⊖ y = sub binary64 x y

abbrev pub ◌⊗◌ : Float → Float → Float
x ⊗ y = mul binary64 x y

abbrev pub ◌⊘◌ : Float → Float → Float
x ⊘ y = div binary64 x y

-- the magnitude; a NaN stays a NaN
unfoldable pub abs_of : Float → Float
abs_of nan = nan
abs_of (inf s) = inf false
abs_of (fin s m e) = fin false m e

-- ---- the smaller and the larger of two numbers: minimumNumber and maximumNumber of IEEE 754-2019, clause 9.6

-- has the sign of the negative numbers, as -0 does; a NaN has none
abbrev pub negative : Float → Bool
negative nan = false
negative (inf s) = s
negative (fin s m e) = s

-- the zero of a sign: -0 where it is true
abbrev pub zero_of : Bool → Float
zero_of s = fin s 0 (pos 0)

-- the smaller and the larger by one comparison, which tells neither two zeros apart nor a NaN
abbrev pub lower_of : Float → Float → Float
lower_of x y = cond (lt y x) y x

abbrev pub upper_of : Float → Float → Float
upper_of x y = cond (lt x y) y x

-- x < y, or x is -0 and y is +0, which `lt` does not tell apart
unfoldable pub precedes : Float → Float → Bool
precedes x y = lt x y || (negative x && not (negative y) && eq x y)

-- "Minimum of two zeros must return the negative one if either is negative; maximum must return the positive one if either is positive." One NaN is passed
-- over, two give NaN.
unfoldable pub min_of : Float → Float → Float
unfolding precedes
min_of x y = cond (is_nan x) y (cond (precedes y x) y x)

unfoldable pub max_of : Float → Float → Float
unfolding precedes
max_of x y = cond (is_nan x) y (cond (precedes x y) y x)
