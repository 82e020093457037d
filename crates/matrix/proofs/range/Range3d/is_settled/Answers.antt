-- `Range3d::is_settled` meets its contract by its tests. Assumes nothing.
use mathlib.Core.Path.{◌≡◌, sym, subst}
use mathlib.Core.Bool.{Bool, true, false, ◌&&◌}
use lib.Dec.{T}
use Rattle.matrix.specs.declared.vec.Vec3d.{Vec3d}
use Rattle.matrix.specs.declared.range.Range3d.{Range3d}
use Rattle.matrix.specs.Steps.{numbers_along, no_negative_zeros, signs_settled}
use Rattle.matrix.proofs.range.Range3d.is_settled.Goals as goal

module _ (r : Range3d) (v : Vec3d) (s t u : Bool) (p : s ≡ numbers_along r 0) (q : t ≡ numbers_along r 1) (e : u ≡ numbers_along r 2) where
  some_fails : (s && t && u) ≡ false → false ≡ signs_settled r v
  unfolding signs_settled
  some_fails h = rw (← p, ← q, ← e, h)

  all_hold : (z : Bool) → (s && t && u) ≡ true → z ≡ no_negative_zeros v → z ≡ signs_settled r v
  unfolding signs_settled
  all_hold z h k = rw (← p, ← q, ← e, h) k

pub returns-then-not-are_numbers : goal.returns-then-not-are_numbers
returns-then-not-are_numbers c =
    record {
      is = some_fails _ _ _ _ _ c.are_numbers.ensures c.are_numbers-2.ensures c.are_numbers-3.ensures c.if-not-are_numbers.true;
      values = λ h. absurd (subst T (sym h) tt);
    }

pub returns : goal.returns
returns c =
    record {
      is = all_hold _ _ _ _ _ c.are_numbers.ensures c.are_numbers-2.ensures c.are_numbers-3.ensures _ c.if-not-are_numbers.false c.has_no_negative_zero.ensures.0;
      values = λ h. c.has_no_negative_zero.ensures.1;
    }
