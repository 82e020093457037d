-- Of records of whole numbers the clip verdict is exact, and a block of which an exact point is in the clip volume is never lost. The idea: the product and the clip points of
-- the corners are whole and stay below 2 ^ 53, so that the comparisons are those of whole numbers; and where a point of the range is inside a side, some corner is.
-- Assumes nothing.
use mathlib.Core.Path.{◌≡◌, sym, ap, ◌∙◌, subst}
use mathlib.Core.Logic.{◌↔◌}
use mathlib.Core.Bool.{Bool, true, false, ◌&&◌, cond}
use Prim.Native.Nat.{ℕ, ◌/◌, ◌%◌, ◌^◌, ◌≤◌, ◌<◌}
use native.Mathlib.Omega.{arith}
use lib.Dec.{T, eqb, lit<, lit≤}
use lib.IntN.{ℤ, pos, nat_abs}
use lib.Ieee.{Float, lt, neg}
use lib.Ieee.Bits.{is_true}
use lib.Ieee.Fits.{and_i, and_l, and_r}
use Rattle.number.specs.Limits.{grid_limit}
use Rattle.number.specs.Every.{some_below}
use Rattle.number.specs.Answer.{outcome}
use Rattle.matrix.specs.declared.vec.Vec4d.{Vec4d}
use Rattle.matrix.specs.declared.matrix.Mat4d.{Mat4d}
use Rattle.matrix.specs.declared.range.Range3d.{Range3d}
use Rattle.matrix.specs.Constants.{one}
use Rattle.matrix.specs.Vec.{axis, axis4}
use Rattle.matrix.specs.Matrix.{matrix_of, product}
use Rattle.matrix.specs.Range.{corner}
use Rattle.verdict.specs.declared.bbox.BBox3d.{BBox3d}
use Rattle.verdict.specs.BBox.{box_of}
use Rattle.verdict.specs.BBoxCalls.{flagged}
use Rattle.verdict.specs.Frustum.{clip_corner, box_in_view_volume}
use Rattle.farmgrid.specs.Whole.{Whole}
use Rattle.farmgrid.specs.Placement.{WholeVec4, WholeRange, WholeMatrix, MatrixWithin, productℤ, cornerℤ}
use Rattle.placed.specs.Placement.{WholeBox}
use Rattle.farmgrid.specs.FarmGrid.{exactly}
use Rattle.farmgrid.specs.ClipSpace.{view_projection_limit, product_limit, clip_limit, AffineBox, throughℤ, clip_cornerℤ, NeverLost, Unrounded, NothingRounded, SomeCorner, EachSide, ClipExact}
use Rattle.farmgrid.proofs.Numbers.Exact.{neg_whole, lt_whole}
use Rattle.farmgrid.proofs.Placements.Singles.{three, four}
use Rattle.farmgrid.proofs.Numbers.WholeSums.{one_whole, whole_vec4}
use Rattle.farmgrid.proofs.Placements.WholeMatrices.{product_computed, product_sized, homogeneous_computed, homogeneous_sized}
use Rattle.farmgrid.proofs.Records.FiniteNumbers.{box_finite, matrix_finite}
use Rattle.farmgrid.proofs.Records.Answers.{clip_answer}
use Rattle.farmgrid.proofs.Clip.Below.{every_below_lem, some_below_lem}
use Rattle.farmgrid.proofs.Clip.ClipSides.{Inside, clip_is, each_side}

-- ---- nothing is rounded

-- a point as a homogeneous one, and corner k of a range so, in floats
abbrev homogeneousℤ : (ℕ → ℤ) → ℕ → ℤ
homogeneousℤ p i = cond (eqb i 3) (pos 1) (p i)

abbrev corner_of : Range3d → ℕ → ℕ → Float
corner_of r k i = cond (eqb i 3) one (axis (corner r k) i)

-- of two whole floats the one chosen is the whole number chosen alike, and a bound of both is one of it
chosen : (u : Bool) {x y : Float} {p q : ℤ} → Whole x p → Whole y q → Whole (cond u x y) (cond u p q)
chosen true X Y = X
chosen false X Y = Y

chosen_size : (u : Bool) (p q : ℤ) {b : ℕ} → nat_abs p ≤ b → nat_abs q ≤ b → nat_abs (cond u p q) ≤ b
chosen_size true p q l l' = l
chosen_size false p q l l' = l'

module _ (b : BBox3d) (m : Mat4d) (B : WholeBox) (g : ℕ → ℕ → ℤ) (R : WholeRange b.range B.low B.high) (M : WholeMatrix b.matrix B.matrix)
    (F : AffineBox B) (N : WholeMatrix m g) (G : MatrixWithin view_projection_limit g) where
  -- the product is exact, each of its numbers a sum of four products
  matrix_exact : WholeMatrix (product b.matrix m) (productℤ B.matrix g)
  matrix_exact = product_computed (lit≤ tt) M F.entries N G

  matrix_size : MatrixWithin product_limit (productℤ B.matrix g)
  matrix_size = product_sized (lit≤ tt) M F.entries N G

  module _ (k : ℕ) where
    abbrev numbersℤ : ℕ → ℤ
    numbersℤ = cornerℤ B.low B.high k

    abbrev bit : ℕ → Bool
    bit a = eqb (k / 2 ^ a % 2) 1

    -- the numbers of the corner are whole, and the grid's limit bounds them
    numbers : (i : ℕ) → i < 4 → Whole (corner_of b.range k i) (homogeneousℤ numbersℤ i)
    numbers = let P : ℕ → Type 0 = λ i. Whole (corner_of b.range k i) (homogeneousℤ numbersℤ i) in
        four P (three P (along 0 (lit< tt)) (along 1 (lit< tt)) (along 2 (lit< tt))) one_whole
      where
        along : (a : ℕ) → a < 3 → Whole (cond (bit a) (axis b.range.max a) (axis b.range.min a)) (numbersℤ a)
        along a l = chosen (bit a) (R.max.at a l) (R.min.at a l)

    sizes : (i : ℕ) → i < 4 → nat_abs (homogeneousℤ numbersℤ i) ≤ grid_limit
    sizes = let P : ℕ → Type 0 = λ i. nat_abs (homogeneousℤ numbersℤ i) ≤ grid_limit in
        four P (three P (along 0 (lit< tt)) (along 1 (lit< tt)) (along 2 (lit< tt))) (lit≤ tt)
      where
        along : (a : ℕ) → a < 3 → nat_abs (numbersℤ a) ≤ grid_limit
        along a l = chosen_size (bit a) (B.high a) (B.low a) (F.high.size a l) (F.low.size a l)

    -- its clip point is exact, each of its numbers a sum of four products with those of the product
    corner_exact : WholeVec4 (clip_corner b m k) (throughℤ (productℤ B.matrix g) (exactly numbersℤ))
    corner_exact = homogeneous_computed (lit≤ tt) matrix_exact matrix_size (whole_vec4 (corner_of b.range k) numbers) sizes

    corner_size : (j : ℕ) → j < 4 → nat_abs (throughℤ (productℤ B.matrix g) (exactly numbersℤ) j) ≤ clip_limit
    corner_size = homogeneous_sized (lit≤ tt) matrix_exact matrix_size (whole_vec4 (corner_of b.range k) numbers) sizes

    -- and it is the corner placed, and then through the camera's matrix
    same : (j : ℕ) → throughℤ (productℤ B.matrix g) (exactly numbersℤ) j ≡ clip_cornerℤ B g k j
    same j = sym (clip_is F g (exactly numbersℤ) j)

  pub unrounded : Unrounded b m B g
  unrounded = record {
    product = matrix_exact;
    product_size = matrix_size;
    corner = λ k. record { at = λ j l. subst (Whole (axis4 (clip_corner b m k) j)) (same k j) ((corner_exact k).at j l) };
    corner_size = λ k j l. subst (λ (z : ℤ). nat_abs z ≤ clip_limit) (same k j) (corner_size k j l);
    small = lit< tt;
  }

-- ---- the verdict

-- the test of a side, in floats
abbrev test : Bool → ℕ → Vec4d → Bool
test false i v = lt (axis4 v i) v.w
test true i v = lt (neg v.w) (axis4 v i)

-- it is the exact one
test_is : (s : Bool) (i : ℕ) → i < 3 → {v : Vec4d} {c : ℕ → ℤ} → WholeVec4 v c → T (test s i v) ↔ Inside s (c i) (c 3)
test_is false i l W = lt_whole (W.at i (omega arith)) (W.at 3 (lit< tt))
test_is true i l W = lt_whole (neg_whole (W.at 3 (lit< tt))) (W.at i (omega arith))

module _ {b : BBox3d} {m : Mat4d} {B : WholeBox} {g : ℕ → ℕ → ℤ} (U : Unrounded b m B g) where
  -- some corner passes the test of a side exactly where one is inside it
  side_is : (s : Bool) (i : ℕ) → i < 3 → T (some_below 8 (λ k. test s i (clip_corner b m k))) ↔ SomeCorner B g (λ c. Inside s (c i) (c 3))
  side_is s i l =
      let r = some_below_lem (λ k. test s i (clip_corner b m k)) 8 in (
        λ t. let u = r.0 t in record { k = u.0; below = u.1; is = (test_is s i l (U.corner u.0)).0 u.2 },
        λ c. r.1 (c.k, c.below, (test_is s i l (U.corner c.k)).1 c.is),
      )

  -- and the verdict asks for each side
  pub verdict_is : T (box_in_view_volume b m) ↔ EachSide B g
  unfolding box_in_view_volume
  verdict_is = let r = every_below_lem both 3 in (
    λ t. record {
      above = λ i l. (side_is true i l).0 (and_r (some false i) (some true i) (r.0 t i l));
      below = λ i l. (side_is false i l).0 (and_l (some false i) (some true i) (r.0 t i l));
    },
    λ c. r.1 (λ i l. and_i (some false i) (some true i) ((side_is false i l).1 (c.below i l)) ((side_is true i l).1 (c.above i l))),
  )
    where
      some : Bool → ℕ → Bool
      some s i = some_below 8 (λ k. test s i (clip_corner b m k))

      both : ℕ → Bool
      both i = some false i && some true i

-- ---- the claims

pub nothing_rounded : NothingRounded
nothing_rounded b m B g P Q = unrounded (box_of b) (matrix_of m) B g P.range P.matrix P.box Q.matrix Q.entries

pub clip_exact : ClipExact
clip_exact b m B g P Q =
    let f = is_true (flagged b) P.flag in record {
      verdict = box_in_view_volume (box_of b) (matrix_of m);
      answered = clip_answer b m P.numbers Q.numbers f (box_finite b P.numbers f P.range P.matrix) (matrix_finite m Q.numbers Q.matrix);
      exact = verdict_is (nothing_rounded b m B g P Q);
    }

pub never_lost : NeverLost
never_lost b m B g X P Q R C =
    let s = clip_exact b m B g P Q in
    s.answered ∙ ap outcome (is_true s.verdict (s.exact.1 (each_side P.box g X R C)))
