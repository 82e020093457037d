-- A block that the clip verdict finds though no exact point of it is in the clip volume. The idea: the answer is computed; and at every point of the block x + y is at least
-- 3, while x < w and y < w make it less than 2, all multiplied through by k. Assumes nothing.
use mathlib.Core.Path.{◌≡◌, refl}
use Prim.Native.Nat.{ℕ, ◌<◌}
use native.Mathlib.Omega.{arith}
use lib.Count.{count_trailing_zeros}
use lib.Dec.{T, leb, leb→le, lit<}
use lib.IntN.{ℤ, pos, negsuc, nat_abs}
use lib.Ieee.{Float, to_unsigned, add, mul, neg, lt, eq, is_nan, round, sum, units, odd, size, span, climb}
use Rattle.number.specs.Limits.{grid_limit}
use Rattle.number.specs.Every.{every, every_below, some_below}
use Rattle.matrix.specs.Matrix.{matrix_of, entry, product}
use Rattle.matrix.specs.Vec.{axis}
use Rattle.verdict.specs.BBox.{box_of}
use Rattle.verdict.specs.Frustum.{box_in_view_volume}
use Rattle.verdict.specs.FrustumCalls.{have_lengths, verdict_after, view_volume_call}
use Rattle.verdict.specs.Marked.{identity_rows}
use Rattle.farmgrid.specs.Whole.{Equals, Whole}
use Rattle.farmgrid.specs.Placement.{WholeRange, WholeMatrix, MatrixWithin}
use Rattle.exact.specs.ExactPoint.{ExactPoint}
use Rattle.farmgrid.specs.ClipSpace.{box_matrix_limit, view_projection_limit, AffineBox, InRange, InClipVolume, clip_point, beside_edge, beside_edgeℤ, identityℤ, FoundOutside}
use Rattle.whole.proofs.Integer.{of_self as self, of_pos, of_le, of_lt, ◌⊞◌, ◌⊠◌}
use Rattle.farmgrid.proofs.Placements.Singles.{three, four}
use Rattle.farmgrid.proofs.Clip.Below.{every_below_lem}

-- ---- the records

is : {x : Float} {z : ℤ} → Equals x z → Whole x z
is e = record { is = e }

-- the numbers of a matrix, row by row
row : (P : ℕ → Type 0) → P 0 → P 1 → P 2 → P 3 → (j : ℕ) → j < 4 → P j
row P a b c = four P (three P a b c)

rows : (P : ℕ → ℕ → Type 0) → ((j : ℕ) → j < 4 → P 0 j) → ((j : ℕ) → j < 4 → P 1 j) → ((j : ℕ) → j < 4 → P 2 j) → ((j : ℕ) → j < 4 → P 3 j)
    → (i j : ℕ) → i < 4 → j < 4 → P i j
rows P a b c d i j h = row (λ i. (j : ℕ) → j < 4 → P i j) a b c d i h j

-- their sizes, by a test that is computed
sized : (b : ℕ) (f : ℕ → ℕ → ℤ) → T (every_below 4 (λ i. every_below 4 (λ j. leb (nat_abs (f i j)) b))) → MatrixWithin b f
sized b f t = record {
  size = λ i j h l. leb→le (nat_abs (f i j)) b
      ((every_below_lem (λ j. leb (nat_abs (f i j)) b) 4).0 ((every_below_lem (λ i. every_below 4 (λ j. leb (nat_abs (f i j)) b)) 4).0 t i h) j l);
}

range_whole : WholeRange (box_of beside_edge).range beside_edgeℤ.low beside_edgeℤ.high
unfolding round neg
range_whole = record {
  min = record { at = three (λ i. Whole (axis (box_of beside_edge).range.min i) (pos 0)) (is refl) (is refl) (is refl) };
  max = record { at = three (λ i. Whole (axis (box_of beside_edge).range.max i) (pos 1)) (is refl) (is refl) (is refl) };
}

matrix_whole : WholeMatrix (box_of beside_edge).matrix beside_edgeℤ.matrix
unfolding round neg
matrix_whole = let P : ℕ → ℕ → Type 0 = λ i j. Whole (entry (box_of beside_edge).matrix i j) (beside_edgeℤ.matrix i j) in record {
  at = rows P
      (row (P 0) (is refl) (is refl) (is refl) (is refl))
      (row (P 1) (is refl) (is refl) (is refl) (is refl))
      (row (P 2) (is refl) (is refl) (is refl) (is refl))
      (row (P 3) (is refl) (is refl) (is refl) (is refl));
}

camera_whole : WholeMatrix (matrix_of identity_rows) identityℤ
unfolding round
camera_whole = let P : ℕ → ℕ → Type 0 = λ i j. Whole (entry (matrix_of identity_rows) i j) (identityℤ i j) in record {
  at = rows P
      (row (P 0) (is refl) (is refl) (is refl) (is refl))
      (row (P 1) (is refl) (is refl) (is refl) (is refl))
      (row (P 2) (is refl) (is refl) (is refl) (is refl))
      (row (P 3) (is refl) (is refl) (is refl) (is refl));
}

affine : AffineBox beside_edgeℤ
unfolding every_below
affine = record {
  low = record { size = λ i h. leb→le 0 grid_limit tt };
  high = record { size = λ i h. leb→le 1 grid_limit tt };
  some = record { ordered = λ i h. record { le = tt } };
  entries = sized box_matrix_limit beside_edgeℤ.matrix tt;
  zeros = three (λ i. beside_edgeℤ.matrix i 3 ≡ pos 0) refl refl refl;
  last = refl;
}

-- ---- no point: with s and t the point's first two numbers, x is 3 s + t and y is 3 k - 3 s + t

outside : (X : ExactPoint) → InRange beside_edgeℤ X → InClipVolume (clip_point beside_edgeℤ identityℤ X) → ⊥
outside X R C =
    let k = of_pos X.k in
    let s = self (X.numbers 0) in
    let t = self (X.numbers 1) in
    let u = self (X.numbers 2) in
    let none = of_pos 0 in
    let one = of_pos 1 in
    let p = s ⊠ of_pos 3 ⊞ t ⊠ one ⊞ u ⊠ none ⊞ k ⊠ none in
    let q = s ⊠ self (negsuc 2) ⊞ t ⊠ one ⊞ u ⊠ none ⊞ k ⊠ of_pos 3 in
    let r = s ⊠ none ⊞ t ⊠ none ⊞ u ⊠ one ⊞ k ⊠ none in
    let x = p ⊠ one ⊞ q ⊠ none ⊞ r ⊠ none ⊞ k ⊠ none in
    let y = p ⊠ none ⊞ q ⊠ one ⊞ r ⊠ none ⊞ k ⊠ none in
    let w = p ⊠ none ⊞ q ⊠ none ⊞ r ⊠ none ⊞ k ⊠ one in
    let right = (of_lt x w).0 (C.below 0 (lit< tt)) in
    let top = (of_lt y w).0 (C.below 1 (lit< tt)) in
    let least = (of_le (k ⊠ none) t).0 (R.least 1 (lit< tt)) in
    omega arith

pub found_outside : FoundOutside
unfolding view_volume_call have_lengths verdict_after every box_in_view_volume every_below some_below product to_unsigned add mul neg lt eq is_nan round sum units odd size span climb count_trailing_zeros
found_outside = record {
  box = record { numbers = refl; flag = tt; range = range_whole; matrix = matrix_whole; box = affine };
  camera = record { numbers = refl; matrix = camera_whole; entries = sized view_projection_limit identityℤ tt };
  yes = refl;
  outside = outside;
}
