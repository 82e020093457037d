-- What the smaller and the larger of numbers do not depend on, and what two zeros and a NaN give. Statements; proofs/Extremes and proofs/EitherOrder prove them.
use Rattle.std.specs.Prelude.{◌≡◌, Bool, true, ◌&&◌, ◌||◌, T, ◌↔◌, Float}
use Rattle.std.specs.Float.{nan, binary64}
use Rattle.std.specs.Float.Ieee.{fits}
use Rattle.number.specs.Arithmetic.{◌⊕◌, zero_of, min_of, max_of}

-- a value of binary64, as every f64 is: a number with its sign, zeros and infinities among them, or a NaN
abbrev pub Value : Float → Type 0
Value x = T (fits binary64 x)

-- "Minimum of two zeros must return the negative one if either is negative; maximum must return the positive one if either is positive."
pub record ZeroRule : Type 0 where
  pub least : (s t : Bool) → min_of (zero_of s) (zero_of t) ≡ zero_of (s || t)
  pub greatest : (s t : Bool) → max_of (zero_of s) (zero_of t) ≡ zero_of (s && t)

-- A NaN is passed over, in either place, so that two give NaN.
pub record NanRule (f : Float → Float → Float) : Type 0 where
  pub first : (y : Float) → f nan y ≡ y
  pub second : (x : Float) → f x nan ≡ x

-- Two numbers have one smaller and one larger in either order, and three in either grouping: the same value, with its sign.
pub record OrderFree (f : Float → Float → Float) : Type 0 where
  pub commutative : (x y : Float) → Value x → Value y → f x y ≡ f y x
  pub associative : (x y z : Float) → Value x → Value y → Value z → f (f x y) z ≡ f x (f y z)

-- A sum is -0 just where both its numbers are: two zeros of different signs have the sum +0, and so have a number and its negation.
abbrev pub NegativeZeroSum : Type 0
NegativeZeroSum = (x y : Float) → Value x → Value y → (x ⊕ y ≡ zero_of true) ↔ ((x ≡ zero_of true) × (y ≡ zero_of true))
