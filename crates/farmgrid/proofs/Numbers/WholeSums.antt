-- Sums of products of whole floats are exact, by the bounds of their sizes, and so are vectors and matrices given by such numbers.
-- The idea: with numbers of size at most a and b each product is at most a * b, and a sum of them is exact while it stays within 2 ^ 53.
-- Assumes nothing.
use mathlib.Core.Path.{◌≡◌, refl, subst}
use Prim.Native.Nat.{ℕ, ◌+◌, ◌*◌, ◌^◌, ◌≤◌, ◌<◌}
use native.Mathlib.Omega.{arith}
use mathlib.Core.Bool.{Bool, true, false}
use lib.Dec.{lit<, lit≤}
use lib.IntN.{ℤ, pos, nat_abs, ◌*ℤ◌}
use lib.Ieee.{Float, binary64, round}
use Rattle.number.specs.Arithmetic.{◌⊕◌, ◌⊗◌, ◌⊘◌}
use Rattle.number.specs.Grid.{signed}
use Rattle.whole.specs.Plane.{dotℤ}
use Rattle.farmgrid.specs.Whole.{Whole}
use Rattle.whole.proofs.Integer.{abs_times}
use Rattle.farmgrid.proofs.Numbers.Exact.{mul_whole, over_one, over_minus_one, abs_signed}
use Rattle.farmgrid.proofs.Numbers.Fit.{Fit, fit_sum, fit_times}
use Rattle.matrix.specs.declared.vec.Vec3d.{Vec3d}
use Rattle.matrix.specs.Constants.{positive_zero, one}
use Rattle.matrix.specs.Vec.{axis, axis4, dot4, vec3, vec4}
use Rattle.matrix.specs.Matrix.{entry, matrix}
use Rattle.farmgrid.specs.Placement.{WholeVec, WholeVec4, WholeMatrix, Within}
use Rattle.farmgrid.specs.Placement.{dot4ℤ}
use Rattle.farmgrid.proofs.Placements.Singles.{three, four}
use Rattle.farmgrid.proofs.Numbers.WholeSigns.{flip, times_unit, zero_plus}

-- ---- the numbers 0 and 1

pub zero_whole : Whole positive_zero (pos 0)
unfolding round
zero_whole = record { is = refl }

pub one_whole : Whole one (pos 1)
unfolding round
one_whole = record { is = refl }

-- x times 1 / d, for a d of 1 or -1, is x, or -x
pub over_unit : (s : Bool) {x d : Float} {a : ℤ} → Whole x a → Whole d (signed s 1) → nat_abs a ≤ 2 ^ 53 → Whole (x ⊗ (one ⊘ d)) (flip s a)
over_unit s {x} {d} {a} X D l =
    let b : nat_abs (a *ℤ signed s 1) ≤ 2 ^ 53 = rw (abs_times a (signed s 1), abs_signed s 1) (omega arith) in
    subst (Whole (x ⊗ (one ⊘ d))) (times_unit s true a) (mul_whole binary64 X (reciprocal s D) b)
  where
    reciprocal : (s : Bool) → Whole d (signed s 1) → Whole (one ⊘ d) (signed s 1)
    reciprocal false D = over_one one_whole D (lit≤ tt)
    reciprocal true D = over_minus_one one_whole D (lit≤ tt)

-- ---- sums of products

module _ {a b : ℕ} (l : a * b + a * b + a * b ≤ 2 ^ 53) (x y : ℕ → Float) (p q : ℕ → ℤ)
    (X : (i : ℕ) → i < 3 → Fit (x i) (p i) a) (Y : (i : ℕ) → i < 3 → Fit (y i) (q i) b) where
  pub dot_fit : Fit (x 0 ⊗ y 0 ⊕ x 1 ⊗ y 1 ⊕ x 2 ⊗ y 2) (dotℤ p q) (a * b + a * b + a * b)
  dot_fit = fit_sum (fit_sum (term 0 (lit< tt)) (term 1 (lit< tt)) (omega arith)) (term 2 (lit< tt)) l
    where
      term : (i : ℕ) → i < 3 → Fit (x i ⊗ y i) (p i *ℤ q i) (a * b)
      term i h = fit_times (X i h) (Y i h) (omega arith)

-- of four
module _ {a b : ℕ} (l : a * b * 4 ≤ 2 ^ 53) (x y : ℕ → Float) (p q : ℕ → ℤ)
    (X : (i : ℕ) → i < 4 → Fit (x i) (p i) a) (Y : (i : ℕ) → i < 4 → Fit (y i) (q i) b) where
  term : (i : ℕ) → i < 4 → Fit (x i ⊗ y i) (p i *ℤ q i) (a * b)
  term i h = fit_times (X i h) (Y i h) (omega arith)

  pub dot4_fit : Fit (dot4 x y) (dot4ℤ p q) (a * b + a * b + a * b + a * b)
  dot4_fit = fit_sum (dot_fit (omega arith) x y p q (λ i h. X i (omega arith)) (λ i h. Y i (omega arith))) (term 3 (lit< tt)) (omega arith)

  -- the same, added to 0
  pub row_fit : Fit (positive_zero ⊕ x 0 ⊗ y 0 ⊕ x 1 ⊗ y 1 ⊕ x 2 ⊗ y 2 ⊕ x 3 ⊗ y 3) (dot4ℤ p q) (a * b + a * b + a * b + a * b)
  row_fit = fit_sum (fit_sum (fit_sum first (term 1 (lit< tt)) (omega arith)) (term 2 (lit< tt)) (omega arith)) (term 3 (lit< tt)) (omega arith)
    where
      none : Fit positive_zero (pos 0) 0
      none = record { whole = zero_whole; size = lit≤ tt }

      first : Fit (positive_zero ⊕ x 0 ⊗ y 0) (p 0 *ℤ q 0) (a * b)
      first = record {
        whole = subst (Whole (positive_zero ⊕ x 0 ⊗ y 0)) (zero_plus (p 0 *ℤ q 0)) (fit_sum none (term 0 (lit< tt)) (omega arith)).whole;
        size = (term 0 (lit< tt)).size;
      }

-- ---- vectors and matrices by their numbers

pub whole_vec3 : (g : ℕ → Float) {p : ℕ → ℤ} → ((i : ℕ) → i < 3 → Whole (g i) (p i)) → WholeVec (vec3 g) p
whole_vec3 g {p} h = record { at = three (λ i. Whole (axis (vec3 g) i) (p i)) (h 0 (lit< tt)) (h 1 (lit< tt)) (h 2 (lit< tt)) }

pub whole_vec4 : (g : ℕ → Float) {p : ℕ → ℤ} → ((i : ℕ) → i < 4 → Whole (g i) (p i)) → WholeVec4 (vec4 g) p
whole_vec4 g {p} h = record { at = four (λ i. Whole (axis4 (vec4 g) i) (p i)) upper (h 3 (lit< tt)) }
  where
    upper : (i : ℕ) → i < 3 → Whole (axis4 (vec4 g) i) (p i)
    upper = three (λ i. Whole (axis4 (vec4 g) i) (p i)) (h 0 (lit< tt)) (h 1 (lit< tt)) (h 2 (lit< tt))

-- the number at row i and column j of a matrix given by its numbers
pub entry_matrix : (g : ℕ → ℕ → Float) (i j : ℕ) → i < 4 → j < 4 → entry (matrix g) i j ≡ g i j
entry_matrix g i j h = each (λ i. (j : ℕ) → j < 4 → entry (matrix g) i j ≡ g i j)
    (each (λ j. entry (matrix g) 0 j ≡ g 0 j) refl refl refl refl)
    (each (λ j. entry (matrix g) 1 j ≡ g 1 j) refl refl refl refl)
    (each (λ j. entry (matrix g) 2 j ≡ g 2 j) refl refl refl refl)
    (each (λ j. entry (matrix g) 3 j ≡ g 3 j) refl refl refl refl) i h j
  where
    each : (P : ℕ → Type 0) → P 0 → P 1 → P 2 → P 3 → (i : ℕ) → i < 4 → P i
    each P a b c = four P (three P a b c)

pub whole_matrix : (g : ℕ → ℕ → Float) {f : ℕ → ℕ → ℤ} → ((i j : ℕ) → i < 4 → j < 4 → Whole (g i j) (f i j)) → WholeMatrix (matrix g) f
whole_matrix g {f} h = record { at = λ i j k l. rw (entry_matrix g i j k l) (h i j k l) }

-- the numbers of a vector by axis
pub axis_fit : {b : ℕ} {v : Vec3d} {p : ℕ → ℤ} → WholeVec v p → Within b p → (i : ℕ) → i < 3 → Fit (axis v i) (p i) b
axis_fit W P i h = record { whole = W.at i h; size = P.size i h }
