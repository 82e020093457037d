-- What the numbers of a printed range do not depend on, signs of zeros included, and which zero a bound is. Statements; proofs/EveryOrder and proofs/Signs prove
-- them.
use Rattle.std.specs.Prelude.{◌≡◌, Bool, true, false, ◌&&◌, ◌||◌, ◌↔◌, ℕ, ◌<◌, Float}
use mathlib.Core.List.{List, [], ◌∷◌, ◌++◌, Permᴰ}
use Rattle.std.specs.Float.{nan}
use Rattle.std.specs.Float.Ieee.{neg, is_nan}
use Rattle.number.specs.Arithmetic.{◌⊗◌, zero_of, min_of, max_of}
use Rattle.number.specs.Extremes.{Value}
use Rattle.matrix.specs.declared.vec.Vec3d.{Vec3d}
use Rattle.matrix.specs.declared.matrix.Mat4d.{Mat4d}
use Rattle.matrix.specs.declared.range.Range3d.{Range3d}
use Rattle.matrix.specs.Constants.{rounded, positive_zero}
use Rattle.matrix.specs.Vec.{axis, vec3}
use Rattle.matrix.specs.Matrix.{entry, row_times}
use Rattle.matrix.specs.Range.{range, is_empty, union, intersection, transformed}

-- ---- either order

-- its numbers are values of binary64, as those of every record are
pub record Values (r : Range3d) : Type 0 where
  pub least : (i : ℕ) → Value (axis r.min i)
  pub greatest : (i : ℕ) → Value (axis r.max i)

abbrev pub IntersectionEitherOrder : Type 0
IntersectionEitherOrder = (a b : Range3d) → Values a → Values b → intersection a b ≡ intersection b a

abbrev pub UnionEitherOrder : Type 0
UnionEitherOrder = (a b : Range3d) → Values a → Values b → is_empty a ≡ false → is_empty b ≡ false → union a b ≡ union b a

-- ---- every order and grouping

-- not empty, and without a NaN
pub record Filled (r : Range3d) : Type 0 where
  pub values : Values r
  pub least : (i : ℕ) → i < 3 → is_nan (axis r.min i) ≡ false
  pub greatest : (i : ℕ) → i < 3 → is_nan (axis r.max i) ≡ false
  pub some : is_empty r ≡ false

pub data AllFilled : List Range3d → Type 0 where
  none : AllFilled []
  more : {r : Range3d} {l : List Range3d} → Filled r → AllFilled l → AllFilled (r ∷ l)

-- ranges that are united two at a time: one by itself, or two of these
pub data Grouping : Type 0 where
  one : Range3d → Grouping
  both : Grouping → Grouping → Grouping

-- what comes of them
unfoldable pub united : Grouping → Range3d
united (one r) = r
united (both p q) = union (united p) (united q)

-- those that were united, from left to right
unfoldable pub united_ranges : Grouping → List Range3d
united_ranges (one r) = r ∷ []
united_ranges (both p q) = united_ranges p ++ united_ranges q

-- The same ranges, in any order and any grouping, have one union.
abbrev pub UnionEveryOrder : Type 0
UnionEveryOrder = (p q : Grouping) → Permᴰ (united_ranges p) (united_ranges q) → AllFilled (united_ranges p) → united p ≡ united q

-- from one number to another along each axis
abbrev pub cube_range : Float → Float → Range3d
cube_range low high = range (vec3 (λ i. low)) (vec3 (λ i. high))

-- With a NaN it matters: (NaN to 0) and (5 to NaN), of which neither is empty, have the union (5 to 0), which is. So with (-3 to -1) it comes to (-3 to -1),
-- where the first with the union of the other two comes to (-3 to 0).
pub record NanGrouping : Type 0 where
  pub empty : is_empty (union (cube_range nan positive_zero) (cube_range (rounded 5 1) nan)) ≡ true
  pub first_two : union (union (cube_range nan positive_zero) (cube_range (rounded 5 1) nan)) (cube_range (neg (rounded 3 1)) (neg (rounded 1 1))) ≡ cube_range (neg (rounded 3 1)) (neg (rounded 1 1))
  pub last_two : union (cube_range nan positive_zero) (union (cube_range (rounded 5 1) nan) (cube_range (neg (rounded 3 1)) (neg (rounded 1 1)))) ≡ cube_range (neg (rounded 3 1)) positive_zero

-- ---- a bound that is chosen of two zeros

-- Where along an axis u and v have zeros, of the signs s and t, w has the zero of the sign that comes of them. The sign of -0 is true.
abbrev pub ZerosChosen : (Bool → Bool → Bool) → Vec3d → Vec3d → Vec3d → Type 0
ZerosChosen sign u v w = (i : ℕ) → i < 3 → (s t : Bool) → axis u i ≡ zero_of s → axis v i ≡ zero_of t → axis w i ≡ zero_of (sign s t)

-- "the negative one if either is negative"
abbrev pub NegativeIfEither : Vec3d → Vec3d → Vec3d → Type 0
NegativeIfEither = ZerosChosen ◌||◌

-- "the positive one if either is positive"
abbrev pub PositiveIfEither : Vec3d → Vec3d → Vec3d → Type 0
PositiveIfEither = ZerosChosen ◌&&◌

-- A union's lower bounds are the smaller numbers, and its upper ones the larger.
pub record UnionZeros (a b : Range3d) : Type 0 where
  pub lower : NegativeIfEither a.min b.min (union a b).min
  pub upper : PositiveIfEither a.max b.max (union a b).max

-- of an empty range and another nothing is chosen: the union is one of them as it is
abbrev pub UnionSigns : Type 0
UnionSigns = (a b : Range3d) → is_empty a ≡ false → is_empty b ≡ false → UnionZeros a b

-- An intersection's are the other way about.
pub record IntersectionZeros (a b : Range3d) : Type 0 where
  pub lower : PositiveIfEither a.min b.min (intersection a b).min
  pub upper : NegativeIfEither a.max b.max (intersection a b).max

abbrev pub IntersectionSigns : Type 0
IntersectionSigns = (a b : Range3d) → IntersectionZeros a b

-- ---- a bound that is -0

-- the two products of axis i of a range along axis j of a matrix
abbrev pub products : (Float → Float → Float) → Range3d → Mat4d → ℕ → ℕ → Float
products pick r m j i = pick (axis r.min i ⊗ entry m i j) (axis r.max i ⊗ entry m i j)

-- The translation along axis j is -0, and so is each of the three products chosen.
pub record AllNegativeZero (pick : Float → Float → Float) (r : Range3d) (m : Mat4d) (j : ℕ) : Type 0 where
  pub translation : entry m 3 j ≡ zero_of true
  pub chosen : (i : ℕ) → i < 3 → products pick r m j i ≡ zero_of true

-- A bound of a moved range is -0 just where all that is added up is: the lower one of the smaller products, the upper one of the larger.
pub record NegativeZeroBounds (r : Range3d) (m : Mat4d) (j : ℕ) : Type 0 where
  pub lower : (axis (transformed r m).min j ≡ zero_of true) ↔ AllNegativeZero min_of r m j
  pub upper : (axis (transformed r m).max j ≡ zero_of true) ↔ AllNegativeZero max_of r m j

abbrev pub TransformedSigns : Type 0
TransformedSigns = (r : Range3d) (m : Mat4d) (j : ℕ) → j < 3 → is_empty r ≡ false → Value (entry m 3 j) → NegativeZeroBounds r m j

-- ---- a product

-- No number of a product is -0, for it is added up from +0.
abbrev pub ProductSigns : Type 0
ProductSigns = (row : ℕ → Float) (m : Mat4d) (j : ℕ) → row_times row m j ≡ zero_of true → ⊥
