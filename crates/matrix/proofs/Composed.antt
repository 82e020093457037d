-- An inverse of its cofactors, a moved range of its corners and a union, each as the code puts it together. Assumes nothing.
use Rattle.std.specs.Prelude.{None, Option, Some}
use mathlib.Core.Path.{◌≡◌, refl, ap, ap₂, ◌∙◌}
use mathlib.Core.Bool.{Bool, true, false, not, cond}
use Prim.Native.Nat.{ℕ}
use lib.Ieee.{Float, nan, inf, fin, lt}
use Rattle.number.specs.Arithmetic.{◌⊘◌, abs_of, min_of, max_of}
use Rattle.number.specs.Answer.{unless}
use Rattle.matrix.specs.declared.vec.Vec3d.{Vec3d}
use Rattle.matrix.specs.declared.vec.Vec4d.{Vec4d}
use Rattle.matrix.specs.declared.matrix.Mat4d.{Mat4d}
use Rattle.matrix.specs.declared.range.Range3d.{Range3d}
use Rattle.matrix.specs.Vec.{axis, vec4, dot4}
use Rattle.matrix.specs.Matrix.{entry}
use Rattle.matrix.specs.Constants.{one}
use Rattle.matrix.specs.Inverse.{expanded, three_rows, column_cofactor, adjugate, determinant, scaled, over, inverse_above, has_inverse}
use Rattle.matrix.specs.Range.{range, is_empty, joined, union, reached, transformed}
use Rattle.matrix.proofs.Same.{xyzw}

-- ---- an inverse

none_above : (x : Float) → lt x nan ≡ false
unfolding lt
none_above nan = refl
none_above (inf s) = refl
none_above (fin s m e) = refl

-- what is left of the rows of m, where one number of each is left out
abbrev pub left_of : (Vec4d → Vec3d) → Mat4d → ℕ → ℕ → Float
left_of rest m r c = axis (rest (vec4 (entry m r))) c

module _ (m : Mat4d) (rest : Vec4d → Vec3d) (r0 r1 r2 r3 : Vec3d) (p0 : r0 ≡ rest m.r0) (p1 : r1 ≡ rest m.r1) (p2 : r2 ≡ rest m.r2) (p3 : r3 ≡ rest m.r3) where
  pub cofactors_of_rows : (odd : Bool) (x y z w : Float) → x ≡ expanded odd (three_rows r1 r2 r3) → y ≡ expanded (not odd) (three_rows r0 r2 r3)
      → z ≡ expanded odd (three_rows r0 r1 r3) → w ≡ expanded (not odd) (three_rows r0 r1 r2)
      → xyzw x y z w ≡ vec4 (column_cofactor (cond odd 1 0) (left_of rest m))
  cofactors_of_rows true x y z w q s t u = rw (q, s, t, u, p0, p1, p2, p3)
  cofactors_of_rows false x y z w q s t u = rw (q, s, t, u, p0, p1, p2, p3)

-- a NaN is larger than nothing
pub no_number : (epsilon d : Float) (i : Mat4d) → d ≡ nan → None ≡ over epsilon d i
unfolding over abs_of
no_number epsilon d i p = rw (p, none_above epsilon)

-- the first row of m times the first column of i
abbrev first_row_times : Mat4d → Mat4d → Float
first_row_times m i = dot4 (entry m 0) (λ k. entry i k 0)

module _ (epsilon : Float) (m i : Mat4d) (d : Float) (v : Option Mat4d) (p : i ≡ adjugate m) (q : d ≡ first_row_times m i) where
  by_row : d ≡ determinant m
  unfolding determinant adjugate
  by_row = q ∙ ap (first_row_times m) p

  pub inverse_from : v ≡ over epsilon d i → v ≡ inverse_above epsilon m
  unfolding inverse_above
  inverse_from r = r ∙ ap₂ (over epsilon) by_row p

-- whether there is one is the test of the determinant
told : (z : Bool) (x : Mat4d) → z ≡ has_inverse (unless z None (Some x))
told true x = refl
told false x = refl

module _ (epsilon : Float) (m i : Mat4d) (d : Float) (p : i ≡ adjugate m) (q : d ≡ first_row_times m i) where
  pub has_none : d ≡ nan → false ≡ has_inverse (inverse_above epsilon m)
  has_none n = ap has_inverse (inverse_from epsilon m i d None p q (no_number epsilon d i n))

  pub has_one : (a : Float) → a ≡ abs_of d → lt epsilon a ≡ has_inverse (inverse_above epsilon m)
  unfolding over
  has_one a e = ap (lt epsilon) e ∙ told (lt epsilon (abs_of d)) (scaled i (one ⊘ d)) ∙ ap has_inverse (inverse_from epsilon m i d (over epsilon d i) p q refl)

-- ---- a moved range

module _ (r : Range3d) (m : Mat4d) (e : Bool) (p : e ≡ is_empty r) where
  pub stays : e ≡ true → r ≡ transformed r m
  unfolding transformed
  stays t = rw (← p, t)

  pub moves : (q : Range3d) → e ≡ false → q ≡ range (reached min_of r m) (reached max_of r m) → q ≡ transformed r m
  unfolding transformed
  moves q t h = rw (← p, t) h

-- ---- a union

module _ (a b : Range3d) (e : Bool) (p : e ≡ is_empty a) where
  pub yields_second : e ≡ true → b ≡ union a b
  unfolding union
  yields_second t = rw (← p, t)

  module _ (f : Bool) (q : f ≡ is_empty b) (t : e ≡ false) where
    pub yields_first : f ≡ true → a ≡ union a b
    unfolding union
    yields_first u = rw (← p, t, ← q, u)

    pub unites : (r : Range3d) → f ≡ false → r ≡ joined a b → r ≡ union a b
    unfolding union
    unites r u h = rw (← p, t, ← q, u) h
