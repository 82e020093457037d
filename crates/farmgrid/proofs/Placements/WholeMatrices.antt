-- Operations on whole matrices are exact, by bounds of their numbers: the product, the transpose, and a point and a homogeneous point through
-- a matrix, which need be no placement and may be singular. The idea: numbers of size at most a and b have products of at most
-- a * b, and all is exact while the sums of these stay within 2 ^ 53. Assumes nothing.
use mathlib.Core.Path.{◌≡◌, subst}
use Prim.Native.Nat.{ℕ, ◌+◌, ◌*◌, ◌^◌, ◌≤◌, ◌<◌}
use native.Mathlib.Omega.{arith}
use mathlib.Core.Bool.{false, cond}
use lib.Dec.{lit<}
use lib.IntN.{ℤ, pos, nat_abs}
use lib.Ieee.{eq}
use Rattle.number.specs.Arithmetic.{◌⊗◌, ◌⊘◌}
use Rattle.farmgrid.specs.Whole.{Whole}
use Rattle.whole.proofs.Integer.{by_test}
use Rattle.farmgrid.proofs.Numbers.Fit.{Fit, fit_sum}
use Rattle.matrix.specs.declared.vec.Vec3d.{Vec3d}
use Rattle.matrix.specs.declared.vec.Vec4d.{Vec4d}
use Rattle.matrix.specs.declared.matrix.Mat4d.{Mat4d}
use Rattle.matrix.specs.Constants.{positive_zero, one}
use Rattle.matrix.specs.Vec.{axis, axis4, dot, dot4}
use Rattle.matrix.specs.Matrix.{entry, row_times, product, transpose}
use Rattle.matrix.specs.Transform as Transform
use Rattle.matrix.specs.Transform.{column, moved, affine, divisor, homogeneous}
use Rattle.farmgrid.specs.Placement.{WholeVec, WholeVec4, WholeMatrix, Within, MatrixWithin}
use Rattle.placed.specs.Placement.{columnℤ, turnedℤ, movedℤ}
use Rattle.farmgrid.specs.Placement.{dot4ℤ, productℤ}
use Rattle.farmgrid.proofs.Placements.QuarterTurns.{transposeℤ, last_moved}
use Rattle.farmgrid.proofs.Numbers.WholeSums.{one_whole, over_unit, axis_fit, dot_fit, dot4_fit, row_fit, whole_vec3, whole_vec4, whole_matrix}

pub sized_fit : {b : ℕ} {m : Mat4d} {f : ℕ → ℕ → ℤ} → WholeMatrix m f → MatrixWithin b f → (i j : ℕ) → i < 4 → j < 4 → Fit (entry m i j) (f i j) b
sized_fit M F i j h k = record { whole = M.at i j h k; size = F.size i j h k }

-- ---- points of coordinates of size at most a through a matrix of numbers of size at most b
module _ {a b : ℕ} (l : a * b + a * b + a * b + b ≤ 2 ^ 53) {m : Mat4d} {f : ℕ → ℕ → ℤ} (M : WholeMatrix m f) (F : MatrixWithin b f)
    {v : Vec3d} {p : ℕ → ℤ} (W : WholeVec v p) (P : Within a p) where
  turned_fit : (j : ℕ) → j < 4 → Fit (dot v (column m j)) (turnedℤ f p j) (a * b + a * b + a * b)
  turned_fit j h = dot_fit (omega arith) (axis v) (λ i. entry m i j) p (columnℤ f j) (axis_fit W P) (λ i k. sized_fit M F i j (omega arith) h)

  moved_fit : (j : ℕ) → j < 4 → Fit (moved m v j) (movedℤ f p j) (a * b + a * b + a * b + b)
  moved_fit j h = fit_sum (turned_fit j h) (sized_fit M F 3 j (lit< tt) h) l

  pub affine_computed : WholeVec (affine m v) (movedℤ f p)
  affine_computed = whole_vec3 (moved m v) (λ j h. (moved_fit j (omega arith)).whole)

  -- with a last column of 0, 0, 0, 1 the point operation divides by exactly 1
  module _ (zeros : (i : ℕ) → i < 3 → f i 3 ≡ pos 0) (last : f 3 3 ≡ pos 1) where
    divisor_computed : Whole (divisor (moved m v 3)) (pos 1)
    unfolding divisor
    divisor_computed =
        let w = moved m v 3 in
        by_test (λ u. Whole (cond u one w) (pos 1)) (eq w positive_zero) (λ t. one_whole) (λ t. subst (Whole w) (last_moved f zeros last p) (moved_fit 3 (lit< tt)).whole)

    pub point_computed : WholeVec (Transform.transformed m v) (movedℤ f p)
    unfolding Transform.transformed divisor
    point_computed = whole_vec3 (λ j. axis (affine m v) j ⊗ (one ⊘ divisor (moved m v 3))) (λ j h.
        over_unit false (affine_computed.at j h) divisor_computed (omega (arith, (moved_fit j (omega arith)).size)))

-- ---- products
module _ {a b : ℕ} (l : a * b * 4 ≤ 2 ^ 53) {m n : Mat4d} {f g : ℕ → ℕ → ℤ} (M : WholeMatrix m f) (F : MatrixWithin a f) (N : WholeMatrix n g) (G : MatrixWithin b g) where
  row_computed : (i j : ℕ) → i < 4 → j < 4 → Fit (row_times (entry m i) n j) (productℤ f g i j) (a * b + a * b + a * b + a * b)
  row_computed i j h k =
      row_fit l (entry m i) (λ k. entry n k j) (f i) (columnℤ g j) (λ c l. sized_fit M F i c h l) (λ r l. sized_fit N G r j l k)

  pub product_computed : WholeMatrix (product m n) (productℤ f g)
  unfolding product
  product_computed = whole_matrix (λ i j. row_times (entry m i) n j) (λ i j h k. (row_computed i j h k).whole)

  pub product_sized : MatrixWithin (a * b * 4) (productℤ f g)
  product_sized = record { size = λ i j h k. let s = (row_computed i j h k).size in omega arith }

pub transpose_whole : {m : Mat4d} {f : ℕ → ℕ → ℤ} → WholeMatrix m f → WholeMatrix (transpose m) (transposeℤ f)
transpose_whole {m} M = whole_matrix (λ i j. entry m j i) (λ i j h k. M.at j i k h)

-- ---- a homogeneous point of numbers of size at most a through a matrix of numbers of size at most b
module _ {a b : ℕ} (l : a * b * 4 ≤ 2 ^ 53) {m : Mat4d} {f : ℕ → ℕ → ℤ} (M : WholeMatrix m f) (F : MatrixWithin b f)
    {v : Vec4d} {p : ℕ → ℤ} (W : WholeVec4 v p) (P : (i : ℕ) → i < 4 → nat_abs (p i) ≤ a) where
  column_computed : (j : ℕ) → j < 4 → Fit (dot4 (axis4 v) (λ i. entry m i j)) (dot4ℤ p (columnℤ f j)) (a * b + a * b + a * b + a * b)
  column_computed j h =
      dot4_fit l (axis4 v) (λ i. entry m i j) p (columnℤ f j) (λ i k. record { whole = W.at i k; size = P i k }) (λ i k. sized_fit M F i j k h)

  pub homogeneous_computed : WholeVec4 (homogeneous m v) (λ j. dot4ℤ p (columnℤ f j))
  homogeneous_computed = whole_vec4 (λ j. dot4 (axis4 v) (λ i. entry m i j)) (λ j h. (column_computed j h).whole)

  pub homogeneous_sized : (j : ℕ) → j < 4 → nat_abs (dot4ℤ p (columnℤ f j)) ≤ a * b * 4
  homogeneous_sized j h = let s = (column_computed j h).size in omega arith
