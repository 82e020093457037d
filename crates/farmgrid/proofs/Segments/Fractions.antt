-- The order of fractions, by the cross products that the whole-number engine compares. No float occurs. Assumes nothing.
use Prim.Native.Nat.{◌*◌, ◌≤◌, ◌<◌}
use native.Mathlib.Nat.{le_of_lt, not-le_of_lt, mul-le-mul_right, le_of_mul-le-mul_right}
use native.Mathlib.Omega.{arith}
use mathlib.Core.Bool.{not}
use lib.Dec.{T, ltb→lt, nltb→le}
use Rattle.whole.specs.declared.fraction.Fraction.{Fraction}
use Rattle.whole.specs.Segment.{less}

-- from 0 to 1
pub record Proper (f : Fraction) : Type 0 where
  pub some : 0 < f.bottom
  pub part : f.top ≤ f.bottom

-- ---- their order
-- f ≤ g
abbrev pub AtMost : Fraction → Fraction → Type 0
AtMost f g = f.top * g.bottom ≤ g.top * f.bottom

-- what is less is at most
pub at_most_less : (f g : Fraction) → T (less f g) → AtMost f g
at_most_less f g t = le_of_lt (ltb→lt (f.top * g.bottom) (g.top * f.bottom) t)

-- of two fractions one is less, or the other is at most it
pub at_most_other : (f g : Fraction) → T (not (less f g)) → AtMost g f
at_most_other f g t = nltb→le (f.top * g.bottom) (g.top * f.bottom) t

-- and not both
pub not_at_most : (f g : Fraction) → T (less f g) → AtMost g f → ⊥
not_at_most f g t = not-le_of_lt (ltb→lt (f.top * g.bottom) (g.top * f.bottom) t)

-- from f ≤ g and g ≤ h follows f ≤ h
pub at_most_trans : (f g h : Fraction) → 0 < g.bottom → AtMost f g → AtMost g h → AtMost f h
at_most_trans f g h G i j =
    let i' = mul-le-mul_right h.bottom i in
    let j' = mul-le-mul_right f.bottom j in
    le_of_mul-le-mul_right {k = g.bottom} (omega arith) G
