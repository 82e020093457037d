-- What the private functions promise one another on the way to a united, a common or a moved range. No public contract and no definition of one speaks of it.
-- Definitions only.
use Rattle.std.specs.Prelude.{◌≡◌, Bool, true, false, not, ◌&&◌, ℕ, ◌^◌, eqb, Float}
use Rattle.std.specs.Float.{binary64}
use Rattle.std.specs.Float.Ieee.{eq, le, is_nan, to_bits}
use Rattle.number.specs.Extremes.{Value}
use Rattle.matrix.specs.declared.vec.Vec3d.{Vec3d}
use Rattle.matrix.specs.declared.range.Range3d.{Range3d}
use Rattle.matrix.specs.Vec.{axis}

-- ---- without a NaN

abbrev pub Numbers : Float → Float → Type 0
Numbers x y = (is_nan x ≡ false) × (is_nan y ≡ false)

-- along each axis
abbrev pub NumbersAlong : Vec3d → Vec3d → Type 0
NumbersAlong u v = Numbers u.x v.x × Numbers u.y v.y × Numbers u.z v.z

-- a number is equal to itself, and a NaN to nothing
abbrev pub both_numbers : Float → Float → Bool
both_numbers x y = eq x x && eq y y

abbrev pub numbers_along : Range3d → ℕ → Bool
numbers_along r i = both_numbers (axis r.min i) (axis r.max i)

unfoldable pub all_numbers : Range3d → Range3d → Bool
all_numbers a b = numbers_along a 2 && (numbers_along b 2 && (numbers_along a 0 && numbers_along a 1 && numbers_along b 0 && numbers_along b 1))

abbrev pub ordered_along : Range3d → ℕ → Bool
ordered_along r i = le (axis r.min i) (axis r.max i)

unfoldable pub all_ordered : Range3d → Bool
all_ordered r = ordered_along r 0 && (ordered_along r 1 && ordered_along r 2)

-- ---- a moved range

-- another number than -0, by its bits
abbrev pub no_negative_zero : Float → Bool
no_negative_zero x = not (eqb (to_bits binary64 x) (2 ^ 63))

abbrev pub no_negative_zeros : Vec3d → Bool
no_negative_zeros v = no_negative_zero v.x && no_negative_zero v.y && no_negative_zero v.z

-- its numbers are values, as every f64 is
abbrev pub VecValues : Vec3d → Type 0
VecValues v = Value v.x × Value v.y × Value v.z

unfoldable pub signs_settled : Range3d → Vec3d → Bool
signs_settled r t = (numbers_along r 0 && numbers_along r 1 && numbers_along r 2) && no_negative_zeros t

-- what the test tells
pub record Settling (told : Bool) (r : Range3d) (t : Vec3d) : Type 0 where
  pub is : told ≡ signs_settled r t
  pub values : told ≡ true → VecValues t
