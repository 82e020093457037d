-- A bracket of a square root: what has a square of at most q is at most the rounded root of q, and what has one of at least q is at least it. The idea: of two values the rounded root is the nearer to the root. Assumes nothing.
use Rattle.std.proofs.Common.{ℕ, zero, suc, ◌+◌, ◌*◌, ◌<◌, ◌≤◌, true, false, T, mul-le-mul_right, arith}
use native.Mathlib.Decide.{dec_lt}
use lib.Ieee.{Float, nan, inf, fin, binary64, fits}
use lib.Ieee.Positive.{positive}
use Rattle.number.specs.Root.{sqrt_of}
use Rattle.number.proofs.NearestRoot.{sqrt_is_nearest}
use Rattle.number.proofs.RoundingError.{unit, Is, of_value, is_value}

-- q and its root in units, and the values of the format on either side of the root
pub record Root (q : Float) : Type 0 where
  pub square : ℕ
  pub is : Is q false square
  pub root : ℕ
  pub root_is : Is (sqrt_of binary64 q) false root
  pub over : (z : Float) (Z : ℕ) → T (fits binary64 z) → Is z false Z → Z * Z ≤ square * unit → Z ≤ root
  pub under : (z : Float) (Z : ℕ) → T (fits binary64 z) → Is z false Z → square * unit ≤ Z * Z → root ≤ Z

-- the square of the middle between two numbers is between theirs
middle : (x y : ℕ) → x < y → (4 * (x * x) < (x + y) * (x + y)) × ((x + y) * (x + y) < 4 * (y * y))
middle x y h = omega (arith, mul-le-mul_right x h, mul-le-mul_right y h)

pub root_of_lem : (q : Float) → T (fits binary64 q) → T (positive q) → Root q
unfolding unit
root_of_lem nan t p = absurd p
root_of_lem (inf s) t p = absurd p
root_of_lem (fin true m e) t p = absurd p
root_of_lem (fin false zero e) t p = absurd p
root_of_lem (fin false (suc m) e) t p =
    let r = sqrt_is_nearest binary64 m e t in
    let n = r.nearest in
    record {
      square = r.units;
      is = of_value r.value;
      root = n.units;
      root_is = of_value n.value;
      over = λ z Z f v h. above n.units Z (r.units * unit) (n.above z Z f (is_value v)) h (dec_lt n.units Z);
      under = λ z Z f v h. below n.units Z (r.units * unit) (n.below z Z f (is_value v)) h (dec_lt Z n.units);
    }
  where
    above : (u z s : ℕ) → (u < z → 4 * s ≤ (u + z) * (u + z)) → z * z ≤ s → Dec (u < z) → z ≤ u
    above u z s n h (yes l) = absurd (omega (arith, n l, middle u z l, h))
    above u z s n h (no l) = omega (arith, l)

    below : (u z s : ℕ) → (z < u → (u + z) * (u + z) ≤ 4 * s) → s ≤ z * z → Dec (z < u) → u ≤ z
    below u z s n h (yes l) = absurd (omega (arith, n l, middle z u l, h))
    below u z s n h (no l) = omega (arith, l)
