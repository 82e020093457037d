-- Numbers of 32 bits: those of the grid are read as they were written, and a point that a placement moves stays small. The idea: a bound on the size of each number on
-- the way. Assumes nothing.
use mathlib.Core.Path.{◌≡◌, ap, ◌∙◌}
use Prim.Native.Nat.{ℕ, ◌+◌, ◌*◌, ◌^◌, ◌≤◌}
use native.Mathlib.Nat.{le_trans, lt_of_le_of_lt}
use lib.Dec.{lit<, lit≤}
use lib.IntN.{ℤ, nat_abs, ◌+ℤ◌, ◌*ℤ◌}
use mir.Syntax.{w32}
use mir.Val.{SFits, to_z, of_z}
use Rattle.number.specs.Limits.{grid_limit, distance_limit}
use Rattle.whole.specs.Plane.{dotℤ}
use Rattle.whole.proofs.Registers.{Held, held_fits, read, itself, held_times, held_sum}
use Rattle.exact.specs.Steps.{Vec3i, vec_of, Sized}

-- a number, written and read again
abbrev pub R : ℤ → ℤ
R z = to_z w32 (of_z w32 z)

again : {u z : ℤ} {b : ℕ} → b ≤ 2 ^ 30 → Held u z b → Held (R u) z b
again l h = read w32 h (lt_of_le_of_lt l (lit< tt))

fits : {u z : ℤ} {b : ℕ} → b ≤ 2 ^ 30 → Held u z b → SFits w32 u
fits l h = held_fits w32 h (lt_of_le_of_lt l (lit< tt))

-- what is no larger than the grid's numbers
pub kept : (z : ℤ) → nat_abs z ≤ distance_limit → R z ≡ z
kept z h = (again (lit≤ tt) (itself z h)).is

-- and the answer of a function that is such a number
pub kept_as : (r z : ℤ) → r ≡ z → nat_abs z ≤ distance_limit → R r ≡ z
kept_as r z e h = ap R e ∙ kept z h

-- ---- a point moved along an axis: by a column, and a translation
module _ {u v : Vec3i} (t : ℤ) (U : Sized grid_limit u) (W : Sized 1 v) (S : nat_abs t ≤ grid_limit) where
  times : (x y : ℤ) → nat_abs x ≤ grid_limit → nat_abs y ≤ 1 → Held (R x *ℤ R y) (x *ℤ y) (grid_limit * 1)
  times x y h k = held_times (again (lit≤ tt) (itself x h)) (again (lit≤ tt) (itself y k))

  along_x : Held (R u.x *ℤ R v.x) (u.x *ℤ v.x) (grid_limit * 1)
  along_x = times u.x v.x U.x W.x

  along_y : Held (R u.y *ℤ R v.y) (u.y *ℤ v.y) (grid_limit * 1)
  along_y = times u.y v.y U.y W.y

  along_z : Held (R u.z *ℤ R v.z) (u.z *ℤ v.z) (grid_limit * 1)
  along_z = times u.z v.z U.z W.z

  two : Held (R (R u.x *ℤ R v.x) +ℤ R (R u.y *ℤ R v.y)) (u.x *ℤ v.x +ℤ u.y *ℤ v.y) (grid_limit * 1 + grid_limit * 1)
  two = held_sum (again (lit≤ tt) along_x) (again (lit≤ tt) along_y)

  three : Held (R (R (R u.x *ℤ R v.x) +ℤ R (R u.y *ℤ R v.y)) +ℤ R (R u.z *ℤ R v.z)) (dotℤ (vec_of u) (vec_of v))
      (grid_limit * 1 + grid_limit * 1 + grid_limit * 1)
  three = held_sum (again (lit≤ tt) two) (again (lit≤ tt) along_z)

  four : Held (R (R (R (R u.x *ℤ R v.x) +ℤ R (R u.y *ℤ R v.y)) +ℤ R (R u.z *ℤ R v.z)) +ℤ R t) (dotℤ (vec_of u) (vec_of v) +ℤ t)
      (grid_limit * 1 + grid_limit * 1 + grid_limit * 1 + grid_limit)
  four = held_sum (again (lit≤ tt) three) (again (lit≤ tt) (itself t S))

  pub third_fits : SFits w32 (R u.z *ℤ R v.z)
  third_fits = fits (lit≤ tt) along_z

  pub two_fits : SFits w32 (R (R u.x *ℤ R v.x) +ℤ R (R u.y *ℤ R v.y))
  two_fits = fits (lit≤ tt) two

  pub three_fits : SFits w32 (R (R (R u.x *ℤ R v.x) +ℤ R (R u.y *ℤ R v.y)) +ℤ R (R u.z *ℤ R v.z))
  three_fits = fits (lit≤ tt) three

  pub four_fits : SFits w32 (R (R (R (R u.x *ℤ R v.x) +ℤ R (R u.y *ℤ R v.y)) +ℤ R (R u.z *ℤ R v.z)) +ℤ R t)
  four_fits = fits (lit≤ tt) four

  pub four_is : R (R (R (R (R u.x *ℤ R v.x) +ℤ R (R u.y *ℤ R v.y)) +ℤ R (R u.z *ℤ R v.z)) +ℤ R t) ≡ dotℤ (vec_of u) (vec_of v) +ℤ t
  four_is = (again (lit≤ tt) four).is

  pub moved_small : nat_abs (dotℤ (vec_of u) (vec_of v) +ℤ t) ≤ distance_limit
  moved_small = le_trans four.size (lit≤ tt)
