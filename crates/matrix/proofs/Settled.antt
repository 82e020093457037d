-- Where one comparison for each choice settles a moved range: a sum that starts from another number than -0 does not see the sign of a zero that is added. The idea: such
-- a sum is never -0 itself, and a zero added to it leaves it as it is, whatever the zero's sign. Assumes nothing.
use mathlib.Core.Path.{◌≡◌, refl, sym, ap, ap₂, ◌∙◌, subst}
use mathlib.Core.Bool.{Bool, true, false, not, cond, ◌&&◌}
use Prim.Native.Nat.{ℕ, zero, suc, ◌^◌}
use lib.IntN.{ℤ}
use lib.Dec.{T, eqb}
use lib.Ieee.{Float, nan, inf, fin, binary64, add, lt, is_nan, to_bits}
use lib.Ieee.Fits.{mul-fits, add-fits}
use Rattle.number.specs.Arithmetic.{◌⊕◌, ◌⊗◌, zero_of, lower_of, upper_of, min_of, max_of}
use Rattle.number.specs.Extremes.{Value}
use Rattle.number.proofs.Extremes.{is_zero}
use Rattle.number.proofs.Tests.{both_hold}
use Rattle.number.proofs.NearZeros.{Near, equal, zeros, nothing, near_min, near_max}
use Rattle.number.proofs.Zeros.{number_before, both_zeros, negative_zero_sum}
use Rattle.matrix.specs.declared.vec.Vec3d.{Vec3d}
use Rattle.matrix.specs.declared.matrix.Mat4d.{Mat4d}
use Rattle.matrix.specs.declared.range.Range3d.{Range3d}
use Rattle.matrix.specs.Vec.{axis, vec3}
use Rattle.matrix.specs.Matrix.{entry, translation}
use Rattle.matrix.specs.Transform.{column}
use Rattle.matrix.specs.Range.{range, sum_from, reach, reached}
use Rattle.matrix.specs.Steps.{Numbers, numbers_along, no_negative_zero, no_negative_zeros, signs_settled, Settling}
use Rattle.matrix.proofs.Ordered.{are_numbers}
use Rattle.matrix.proofs.Same.{same_vec3, same_range}

-- ---- the same number, and not -0, unless the first is a NaN

data Kept : Float → Float → Type 0 where
  kept : {x y : Float} → x ≡ y → (x ≡ zero_of true → ⊥) → Kept x y
  lost : {x y : Float} → x ≡ nan → Kept x y

settles : {x y : Float} → Kept x y → is_nan x ≡ false → x ≡ y
unfolding is_nan
settles (kept p n) h = p
settles (lost p) h = absurd (subst T (sym (ap is_nan p) ∙ h) tt)

nan_after : (x : Float) → x ⊕ nan ≡ nan
unfolding add
nan_after nan = refl
nan_after (inf s) = refl
nan_after (fin s m e) = refl

nan_before : (y : Float) → nan ⊕ y ≡ nan
unfolding add
nan_before y = refl

-- a zero of either sign, added to another number than -0
either_zero : (x : Float) (s t : Bool) (e d : ℤ) → Value x → (x ≡ zero_of true → ⊥) → x ⊕ fin s zero e ≡ x ⊕ fin t zero d
unfolding add
either_zero nan s t e d v n = refl
either_zero (inf r) s t e d v n = refl
either_zero (fin true zero i) s t e d v n = absurd (n (is_zero true 0 i v refl))
either_zero (fin false zero i) s t e d v n = both_zeros binary64 false s i e ∙ sym (both_zeros binary64 false t i d)
either_zero (fin r (suc m) i) s t e d v n = number_before binary64 r s m i e ∙ sym (number_before binary64 r t m i d)

kept_add : {x x' y y' : Float} → Value x → Value y → Kept x x' → Near y y' → Kept (x ⊕ y) (x' ⊕ y')
kept_add {x} {x'} {y} {y'} v w (lost p) g = lost (ap (λ (z : Float). z ⊕ y) p ∙ nan_before y)
kept_add {x} {x'} {y} {y'} v w (kept p n) (nothing q) = lost (ap (λ (z : Float). x ⊕ z) q ∙ nan_after x)
kept_add {x} {x'} {y} {y'} v w (kept p n) (equal q) = kept (ap₂ ◌⊕◌ p q) (λ h. n ((negative_zero_sum x y v w).0 h).0)
kept_add {x} {x'} {y} {y'} v w (kept p n) (zeros s t e d q r) =
    kept (ap (λ (z : Float). x ⊕ z) q ∙ either_zero x s t e d v n ∙ ap₂ ◌⊕◌ p (sym r)) (λ h. n ((negative_zero_sum x y v w).0 h).0)

-- ---- a sum of choices

one_value : (b : Bool) (x y : Float) → Value x → Value y → Value (cond b y x)
one_value true x y v w = w
one_value false x y v w = v

module _ (rough fine : Float → Float → Float) (near : (x y : Float) → Near (rough x y) (fine x y)) (value : (x y : Float) → Value x → Value y → Value (rough x y))
    (r : Range3d) (along : Vec3d) (from : Float) (v : Value from) (n : from ≡ zero_of true → ⊥) where
  abbrev term : ℕ → Float
  term i = rough (axis r.min i ⊗ axis along i) (axis r.max i ⊗ axis along i)

  term_value : (i : ℕ) → Value (term i)
  term_value i = value _ _ (mul-fits binary64 (axis r.min i) (axis along i)) (mul-fits binary64 (axis r.max i) (axis along i))

  term_near : (i : ℕ) → Near (term i) (fine (axis r.min i ⊗ axis along i) (axis r.max i ⊗ axis along i))
  term_near i = near (axis r.min i ⊗ axis along i) (axis r.max i ⊗ axis along i)

  sum_kept : Kept (reach rough r along from) (reach fine r along from)
  unfolding reach sum_from
  sum_kept =
      kept_add (add-fits binary64 (from ⊕ term 0) (term 1)) (term_value 2)
      (kept_add (add-fits binary64 from (term 0)) (term_value 1) (kept_add v (term_value 0) (kept refl n) (term_near 0)) (term_near 1)) (term_near 2)

-- ---- a moved range

pub no_negative_zero_lem : (x : Float) → no_negative_zero x ≡ true → x ≡ zero_of true → ⊥
unfolding to_bits
no_negative_zero_lem x h e = subst T (sym h ∙ ap (λ (z : Float). not (eqb (to_bits binary64 z) (2 ^ 63))) e) tt

module _ (r : Range3d) (m : Mat4d) (j : ℕ) (v : Value (entry m 3 j)) (n : no_negative_zero (entry m 3 j) ≡ true)
    (k : numbers_along (range (vec3 (λ i. reach lower_of r (column m j) (entry m 3 j))) (vec3 (λ i. reach upper_of r (column m j) (entry m 3 j)))) 0 ≡ true) where
  found : Numbers (reach lower_of r (column m j) (entry m 3 j)) (reach upper_of r (column m j) (entry m 3 j))
  found = are_numbers _ _ k

  low : reach lower_of r (column m j) (entry m 3 j) ≡ reach min_of r (column m j) (entry m 3 j)
  low = settles (sum_kept lower_of min_of near_min (λ x y. one_value (lt y x) x y) r (column m j) (entry m 3 j) v (no_negative_zero_lem (entry m 3 j) n)) found.0

  high : reach upper_of r (column m j) (entry m 3 j) ≡ reach max_of r (column m j) (entry m 3 j)
  high = settles (sum_kept upper_of max_of near_max (λ x y. one_value (lt x y) x y) r (column m j) (entry m 3 j) v (no_negative_zero_lem (entry m 3 j) n)) found.1

module _ (r : Range3d) (m : Mat4d) where
  abbrev rough : Range3d
  rough = range (reached lower_of r m) (reached upper_of r m)

  settled_moved : (told : Bool) → Settling told rough (translation m) → told ≡ true → rough ≡ range (reached min_of r m) (reached max_of r m)
  unfolding signs_settled
  settled_moved told s h =
      let t = translation m in
      let all = both_hold (numbers_along rough 0 && numbers_along rough 1 && numbers_along rough 2) (no_negative_zeros t) (sym s.is ∙ h) in
      let a = both_hold (numbers_along rough 0 && numbers_along rough 1) (numbers_along rough 2) all.0 in
      let b = both_hold (numbers_along rough 0) (numbers_along rough 1) a.0 in
      let c = both_hold (no_negative_zero t.x && no_negative_zero t.y) (no_negative_zero t.z) all.1 in
      let d = both_hold (no_negative_zero t.x) (no_negative_zero t.y) c.0 in
      let v = s.values h in
      same_range (same_vec3 (low r m 0 v.0 d.0 b.0) (low r m 1 v.1 d.1 b.1) (low r m 2 v.2 c.1 a.1))
      (same_vec3 (high r m 0 v.0 d.0 b.0) (high r m 1 v.1 d.1 b.1) (high r m 2 v.2 c.1 a.1))

-- ---- as the code finds it

pub found_moved : (r : Range3d) (m : Mat4d) (least greatest t : Vec3d) (told : Bool) → Settling told (range least greatest) t → told ≡ true → t ≡ translation m
    → least ≡ reached lower_of r m → greatest ≡ reached upper_of r m → range least greatest ≡ range (reached min_of r m) (reached max_of r m)
found_moved r m least greatest t told s h e p q =
    same_range p q
    ∙ settled_moved r m told (subst (λ (u : Vec3d). Settling told (rough r m) u) e (subst (λ (f : Range3d). Settling told f t) (same_range p q) s)) h
