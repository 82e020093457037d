-- Which zero a bound is. A bound that is chosen of two zeros has the sign of the rule for them; a bound of a moved range is -0 just where all that is added up is;
-- and no number of a product is. The idea: along each axis a union and an intersection choose by the smaller and the larger, and a sum is -0 just where both its
-- numbers are. Assumes nothing.
use mathlib.Core.Path.{◌≡◌, sym, ap, ap₂, ◌∙◌, subst}
use mathlib.Core.Bool.{Bool, true, false, ◌&&◌, ◌||◌}
use mathlib.Core.Logic.{◌↔◌}
use Prim.Native.Nat.{ℕ}
use lib.Dec.{T, lit<}
use lib.Ieee.{Float, binary64, round}
use lib.Ieee.Fits.{mul-fits, add-fits, round-fits}
use Rattle.number.specs.Arithmetic.{◌⊕◌, ◌⊗◌, negative, zero_of, min_of, max_of}
use Rattle.number.specs.Extremes.{Value}
use Rattle.number.proofs.EitherOrder.{min_value, max_value}
use Rattle.number.proofs.Extremes.{zero_rule}
use Rattle.number.proofs.Zeros.{negative_zero_sum}
use Rattle.matrix.specs.declared.vec.Vec3d.{Vec3d}
use Rattle.matrix.specs.declared.matrix.Mat4d.{Mat4d}
use Rattle.matrix.specs.declared.range.Range3d.{Range3d}
use Rattle.matrix.specs.Constants.{positive_zero}
use Rattle.matrix.specs.Vec.{axis, each_axis}
use Rattle.matrix.specs.Matrix.{entry}
use Rattle.matrix.specs.Range.{range, is_empty, sum_from, reach, reached, transformed}
use Rattle.matrix.specs.Signs.{ZerosChosen, NegativeIfEither, PositiveIfEither, products, AllNegativeZero, NegativeZeroBounds}
use Rattle.matrix.specs.Signs.{UnionSigns, IntersectionSigns, TransformedSigns, ProductSigns}
use Rattle.matrix.proofs.Axes.{along}
use Rattle.matrix.proofs.EveryOrder.{union_joins}

-- ---- a bound that is chosen of two zeros

-- what is chosen along each axis follows the rule of the choice
each_chosen : (pick : Float → Float → Float) (sign : Bool → Bool → Bool) → ((s t : Bool) → pick (zero_of s) (zero_of t) ≡ zero_of (sign s t))
    → (u v : Vec3d) → ZerosChosen sign u v (each_axis pick u v)
each_chosen pick sign rule u v =
    along (λ i. (s t : Bool) → axis u i ≡ zero_of s → axis v i ≡ zero_of t → axis (each_axis pick u v) i ≡ zero_of (sign s t)) (go 0) (go 1) (go 2)
  where
    go : (i : ℕ) (s t : Bool) → axis u i ≡ zero_of s → axis v i ≡ zero_of t → pick (axis u i) (axis v i) ≡ zero_of (sign s t)
    go i s t p q = ap₂ pick p q ∙ rule s t

smaller_chosen : (u v : Vec3d) → NegativeIfEither u v (each_axis min_of u v)
smaller_chosen = each_chosen min_of ◌||◌ zero_rule.least

larger_chosen : (u v : Vec3d) → PositiveIfEither u v (each_axis max_of u v)
larger_chosen = each_chosen max_of ◌&&◌ zero_rule.greatest

pub union_signs : UnionSigns
union_signs a b p q =
    let e = sym (union_joins a b p q) in
    record {
      lower = subst (λ (r : Range3d). NegativeIfEither a.min b.min r.min) e (smaller_chosen a.min b.min);
      upper = subst (λ (r : Range3d). PositiveIfEither a.max b.max r.max) e (larger_chosen a.max b.max);
    }

pub intersection_signs : IntersectionSigns
intersection_signs a b = record { lower = larger_chosen a.min b.min; upper = smaller_chosen a.max b.max }

-- ---- a bound that is -0

module _ (pick : Float → Float → Float) (fits : (x y : Float) → Value x → Value y → Value (pick x y)) (r : Range3d) (m : Mat4d) (j : ℕ) (t : Value (entry m 3 j)) where
  abbrev term : ℕ → Float
  term i = products pick r m j i

  term_value : (i : ℕ) → Value (term i)
  term_value i = fits (axis r.min i ⊗ entry m i j) (axis r.max i ⊗ entry m i j) (mul-fits binary64 (axis r.min i) (entry m i j)) (mul-fits binary64 (axis r.max i) (entry m i j))

  abbrev sum3 : Float
  sum3 = entry m 3 j ⊕ term 0 ⊕ term 1 ⊕ term 2

  signs : (sum3 ≡ zero_of true) ↔ AllNegativeZero pick r m j
  signs = (forth, back)
    where
      forth : sum3 ≡ zero_of true → AllNegativeZero pick r m j
      forth h =
          let c = (negative_zero_sum (entry m 3 j ⊕ term 0 ⊕ term 1) (term 2) (add-fits binary64 (entry m 3 j ⊕ term 0) (term 1)) (term_value 2)).0 h in
          let b = (negative_zero_sum (entry m 3 j ⊕ term 0) (term 1) (add-fits binary64 (entry m 3 j) (term 0)) (term_value 1)).0 c.0 in
          let a = (negative_zero_sum (entry m 3 j) (term 0) t (term_value 0)).0 b.0 in
          record { translation = a.0; chosen = along (λ i. term i ≡ zero_of true) a.1 b.1 c.1 }

      back : AllNegativeZero pick r m j → sum3 ≡ zero_of true
      back z =
          let a = (negative_zero_sum (entry m 3 j) (term 0) t (term_value 0)).1 (z.translation, z.chosen 0 (lit< tt)) in
          let b = (negative_zero_sum (entry m 3 j ⊕ term 0) (term 1) (add-fits binary64 (entry m 3 j) (term 0)) (term_value 1)).1 (a, z.chosen 1 (lit< tt)) in
          (negative_zero_sum (entry m 3 j ⊕ term 0 ⊕ term 1) (term 2) (add-fits binary64 (entry m 3 j ⊕ term 0) (term 1)) (term_value 2)).1 (b, z.chosen 2 (lit< tt))

moved : (r : Range3d) (m : Mat4d) → is_empty r ≡ false → transformed r m ≡ range (reached min_of r m) (reached max_of r m)
unfolding transformed
moved r m e = rw e

-- x is what y is, which is -0 just where P holds
carried : {x y : Float} {P : Type 0} → x ≡ y → (y ≡ zero_of true) ↔ P → (x ≡ zero_of true) ↔ P
carried e h = (λ z. h.0 (sym e ∙ z), λ p. e ∙ h.1 p)

pub transformed_signs : TransformedSigns
unfolding reach sum_from
transformed_signs r m j h e = along (λ j. Value (entry m 3 j) → NegativeZeroBounds r m j)
    (λ v. record { lower = carried (low 0) (signs min_of min_value r m 0 v); upper = carried (high 0) (signs max_of max_value r m 0 v) })
    (λ v. record { lower = carried (low 1) (signs min_of min_value r m 1 v); upper = carried (high 1) (signs max_of max_value r m 1 v) })
    (λ v. record { lower = carried (low 2) (signs min_of min_value r m 2 v); upper = carried (high 2) (signs max_of max_value r m 2 v) })
    j h
  where
    low : (j : ℕ) → axis (transformed r m).min j ≡ axis (reached min_of r m) j
    low j = ap (λ (q : Range3d). axis q.min j) (moved r m e)

    high : (j : ℕ) → axis (transformed r m).max j ≡ axis (reached max_of r m) j
    high j = ap (λ (q : Range3d). axis q.max j) (moved r m e)

-- ---- a product

pub positive : positive_zero ≡ zero_of true → ⊥
unfolding round
positive h = subst T (ap negative (sym h)) tt

pub product_signs : ProductSigns
product_signs row m j h =
    let c = last (positive_zero ⊕ term 0 ⊕ term 1 ⊕ term 2) (term 3) (add-fits binary64 (positive_zero ⊕ term 0 ⊕ term 1) (term 2)) (fits 3) h in
    let b = last (positive_zero ⊕ term 0 ⊕ term 1) (term 2) (add-fits binary64 (positive_zero ⊕ term 0) (term 1)) (fits 2) c in
    let a = last (positive_zero ⊕ term 0) (term 1) (add-fits binary64 positive_zero (term 0)) (fits 1) b in
    positive (last positive_zero (term 0) (round-fits binary64 false 0 1) (fits 0) a)
  where
    term : ℕ → Float
    term k = row k ⊗ entry m k j

    fits : (k : ℕ) → Value (term k)
    fits k = mul-fits binary64 (row k) (entry m k j)

    last : (x y : Float) → Value x → Value y → x ⊕ y ≡ zero_of true → x ≡ zero_of true
    last x y v w e = ((negative_zero_sum x y v w).0 e).0
