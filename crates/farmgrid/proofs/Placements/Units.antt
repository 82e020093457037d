-- A vector of a single 1 or -1 and two zeros has exactly the length 1.0, and normalising leaves its numbers.
-- The idea: of the values of the format only one is a given whole number other than 0, so that a sum which is the whole
-- number 1 is the float 1.0, and what computes at 1.0 holds of it.
use mathlib.Core.Path.{◌≡◌, refl, sym, ap, ◌∙◌, subst}
use Prim.Native.Nat.{ℕ, ◌≤◌, ◌<◌}
use native.Mathlib.Omega.{arith}
use mathlib.Core.Bool.{Bool, true, false}
use lib.Dec.{T, lit<, lit≤}
use lib.IntN.{ℤ, pos, nat_abs}
use lib.Ieee.{Float, binary64, fits, round, lt, is_nan}
use lib.Ieee.Fits.{add-fits, round-fits}
use lib.Ieee.Exact.{HasValue}
use lib.Ieee.Back.{whole_unique}
use Rattle.number.specs.Arithmetic.{◌⊗◌, ◌⊘◌, max_of}
use Rattle.number.specs.Root.{sqrt_of}
use Rattle.number.specs.Grid.{signed}
use Rattle.whole.specs.Plane.{dotℤ}
use Rattle.farmgrid.specs.Whole.{Whole}
use Rattle.whole.proofs.Integer.{of_pos, of_neg, eq_of}
use Rattle.farmgrid.proofs.Numbers.Exact.{to_value}
use Rattle.farmgrid.proofs.Numbers.Fit.{Fit}
use Rattle.number.proofs.Worked.{root_of_one}
use Rattle.matrix.specs.declared.vec.Vec3d.{Vec3d}
use Rattle.matrix.specs.Constants.{one, min_length}
use Rattle.matrix.specs.Vec.{axis, dot, length_of, normalized}
use Rattle.placed.specs.Placement.{sizes}
use Rattle.farmgrid.specs.Placement.{WholeVec}
use Rattle.matrix.proofs.Literals.{one_bits}
use Rattle.farmgrid.proofs.Placements.Singles.{three, unit_own, Single, single, single_dot}
use Rattle.farmgrid.proofs.Numbers.WholeSums.{one_whole, over_unit, dot_fit, whole_vec3}
use Rattle.farmgrid.proofs.Numbers.WholeSigns.{flip}

-- two floats of the format that are the same whole number, other than 0, are the same
pub whole_same : {x y : Float} {z : ℤ} → T (fits binary64 x) → T (fits binary64 y) → Whole x z → Whole y z → 0 < nat_abs z → x ≡ y
whole_same {x} {y} {z} f g h k l =
    let a = to_value h in
    let b = to_value k in
    let e = same_sign a.sign b.sign (a.both ∙ sym b.both) in
    whole_unique binary64 x y b.sign (nat_abs z) f g (subst (λ (s : Bool). HasValue x s (nat_abs z) 1) e a.size) b.size
  where
    same_sign : (s t : Bool) → signed s (nat_abs z) ≡ signed t (nat_abs z) → s ≡ t
    same_sign false false e = refl
    same_sign false true e = absurd (omega (arith, eq_of (of_pos (nat_abs z)) (of_neg (of_pos (nat_abs z))) e))
    same_sign true false e = absurd (omega (arith, eq_of (of_neg (of_pos (nat_abs z))) (of_pos (nat_abs z)) e))
    same_sign true true e = refl

pub is_one : {x : Float} → T (fits binary64 x) → Whole x (pos 1) → x ≡ one
is_one f h = whole_same f (round-fits binary64 false 1 1) h one_whole (lit< tt)

-- ---- lengths

-- the square of a single 1 or -1 is 1
square_one : {p : ℕ → ℤ} → Single p → dotℤ p p ≡ pos 1
square_one {p} s = single_dot s p ∙ ap (flip s.sign) (s.is s.from s.below ∙ unit_own s.sign s.from s.below) ∙ own s.sign
  where
    own : (s : Bool) → flip s (signed s 1) ≡ pos 1
    own false = refl
    own true = refl

root_one : sqrt_of binary64 one ≡ one
root_one = subst (λ (x : Float). sqrt_of binary64 x ≡ x) one_bits root_of_one

larger_one : max_of one min_length ≡ one
unfolding max_of is_nan lt round
larger_one = refl

module _ {v : Vec3d} {p : ℕ → ℤ} (W : WholeVec v p) (l : sizes p ≡ 1) where
  axes : (i : ℕ) → i < 3 → Fit (axis v i) (p i) 1
  axes i h = record { whole = W.at i h; size = three (λ i. nat_abs (p i) ≤ 1) (omega arith) (omega arith) (omega arith) i h }

  square : dot v v ≡ one
  square = is_one (add-fits binary64 _ _)
      (subst (Whole (dot v v)) (square_one {p = p} (single l)) (dot_fit (lit≤ tt) (axis v) (axis v) p p axes axes).whole)

  pub unit_length : length_of v ≡ one
  unfolding length_of
  unit_length = ap (sqrt_of binary64) square ∙ root_one

  pub unit_normalized : WholeVec (normalized v) p
  unfolding normalized
  unit_normalized = rw (unit_length, larger_one) (whole_vec3 (λ i. axis v i ⊗ (one ⊘ one)) (λ i h.
      over_unit false (W.at i h) one_whole (omega (arith, (axes i h).size))))
