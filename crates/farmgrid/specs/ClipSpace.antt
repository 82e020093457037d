-- Clip space: a block of which an exact point is in a camera's clip volume is never lost by `intersects_view_volume`; the reverse is not promised, and does not
-- hold. Definitions and statements only. A clip point is four whole numbers, x, y, z and w, by the places 0 to 3.
use Rattle.std.specs.Prelude.{◌≡◌, true, List, [], ◌∷◌, ◌++◌, ℕ, ◌+◌, ◌*◌, ◌^◌, ◌≤◌, ◌<◌, T, length, get_or, ℤ, pos, negsuc, neg_ℤ, nat_abs, ◌+ℤ◌, ◌*ℤ◌, ◌≤ℤ◌, ◌<ℤ◌, Float}
use Rattle.number.specs.Limits.{grid_limit, box_length, matrix_length}
use Rattle.number.specs.Answer.{outcome}
use Rattle.matrix.specs.Matrix.{matrix_of, product}
use Rattle.matrix.specs.declared.matrix.Mat4d.{Mat4d}
use Rattle.verdict.specs.declared.bbox.BBox3d.{BBox3d}
use Rattle.verdict.specs.BBox.{box_of}
use Rattle.verdict.specs.BBoxCalls.{flagged}
use Rattle.verdict.specs.Frustum.{clip_corner}
use Rattle.verdict.specs.FrustumCalls.{view_volume_call}
use Rattle.verdict.specs.Marked.{plus, minus, three, four, box_record, identity_rows}
use Rattle.placed.specs.Placement.{turnedℤ, WholeBox}
use Rattle.farmgrid.specs.Placement.{WholeVec4, WholeRange, WholeMatrix, MatrixWithin, NonEmpty, GridPoint, productℤ, cornerℤ}
use Rattle.exact.specs.ExactPoint.{ExactPoint}
use Rattle.farmgrid.specs.FarmGrid.{exactly}
use Rattle.farmgrid.specs.Records.{Settled}

-- ---- blocks and cameras

-- "a box matrix of whole entries at most 65,536 in size"
abbrev pub box_matrix_limit : ℕ
box_matrix_limit = 65536

-- "a view-projection matrix of whole entries at most 4,096 in size"
abbrev pub view_projection_limit : ℕ
view_projection_limit = 4096

-- "a non-empty range with grid corners", and a box matrix "with last column 0,0,0,1". It need be no placement, and may be singular.
pub record AffineBox (B : WholeBox) : Type 0 where
  pub low : GridPoint B.low
  pub high : GridPoint B.high
  pub some : NonEmpty B.low B.high
  pub entries : MatrixWithin box_matrix_limit B.matrix
  pub zeros : (i : ℕ) → i < 3 → B.matrix i 3 ≡ pos 0
  pub last : B.matrix 3 3 ≡ pos 1

-- the record of one: "a box flag of 0 or 1"
pub record AffineBoxRecord (b : List Float) (B : WholeBox) : Type 0 where
  pub numbers : length b ≡ box_length
  pub flag : T (flagged b)
  pub range : WholeRange (box_of b).range B.low B.high
  pub matrix : WholeMatrix (box_of b).matrix B.matrix
  pub box : AffineBox B

-- the record of a view-projection matrix g
pub record ViewProjectionRecord (m : List Float) (g : ℕ → ℕ → ℤ) : Type 0 where
  pub numbers : length m ≡ matrix_length
  pub matrix : WholeMatrix (matrix_of m) g
  pub entries : MatrixWithin view_projection_limit g

-- ---- exact points and their clip points

-- "an exact point of the range": each coordinate lies between the range's bounds, "multiplied through by k"
pub record InRange (B : WholeBox) (X : ExactPoint) : Type 0 where
  pub least : (i : ℕ) → i < 3 → (pos X.k *ℤ B.low i) ≤ℤ X.numbers i
  pub greatest : (i : ℕ) → i < 3 → X.numbers i ≤ℤ (pos X.k *ℤ B.high i)

-- An exact point through a matrix, multiplied through by k: the row of its numbers times column j, and k times the translation, which is the last row.
abbrev pub throughℤ : (ℕ → ℕ → ℤ) → ExactPoint → ℕ → ℤ
throughℤ f X j = turnedℤ f X.numbers j +ℤ pos X.k *ℤ f 3 j

-- placed by a box's matrix it is an exact point again, over the same k
abbrev pub placed_point : (ℕ → ℕ → ℤ) → ExactPoint → ExactPoint
placed_point f X = record { numbers = throughℤ f X; k = X.k; some = X.some }

-- an exact point of a box's range "becomes a clip point": placed, and then through the camera's matrix
abbrev pub clip_point : WholeBox → (ℕ → ℕ → ℤ) → ExactPoint → ℕ → ℤ
clip_point B g X = throughℤ g (placed_point B.matrix X)

-- "x, y and z each strictly between −w and w"
pub record InClipVolume (c : ℕ → ℤ) : Type 0 where
  pub above : (i : ℕ) → i < 3 → neg_ℤ (c 3) <ℤ c i
  pub below : (i : ℕ) → i < 3 → c i <ℤ c 3

-- the clip point of corner k of the range
abbrev pub clip_cornerℤ : WholeBox → (ℕ → ℕ → ℤ) → ℕ → ℕ → ℤ
clip_cornerℤ B g k = clip_point B g (exactly (cornerℤ B.low B.high k))

-- ---- the claims

-- "If an exact point of the range becomes a clip point with x, y and z each strictly between −w and w, the verdict is yes": the call is not refused.
abbrev pub NeverLost : Type 0
NeverLost =
    (b m : List Float) (B : WholeBox) (g : ℕ → ℕ → ℤ) (X : ExactPoint)
    → AffineBoxRecord b B → ViewProjectionRecord m g → InRange B X → InClipVolume (clip_point B g X) → view_volume_call b m ≡ outcome true

-- how large a number of the product can be, 65,536 · 4,096 · 4 = 2^30, and then one of a corner's clip point, 65,536 · 2^30 · 4 = 2^48
abbrev pub product_limit : ℕ
product_limit = box_matrix_limit * view_projection_limit * 4

abbrev pub clip_limit : ℕ
clip_limit = grid_limit * product_limit * 4

-- The floats of the product and of the eight clip points are the whole numbers themselves, which stay below 2^53.
pub record Unrounded (b : BBox3d) (m : Mat4d) (B : WholeBox) (g : ℕ → ℕ → ℤ) : Type 0 where
  pub product : WholeMatrix (product b.matrix m) (productℤ B.matrix g)
  pub product_size : MatrixWithin product_limit (productℤ B.matrix g)
  pub corner : (k : ℕ) → WholeVec4 (clip_corner b m k) (clip_cornerℤ B g k)
  pub corner_size : (k j : ℕ) → j < 4 → nat_abs (clip_cornerℤ B g k j) ≤ clip_limit
  pub small : clip_limit < 2 ^ 53

abbrev pub NothingRounded : Type 0
NothingRounded =
    (b m : List Float) (B : WholeBox) (g : ℕ → ℕ → ℤ)
    → AffineBoxRecord b B → ViewProjectionRecord m g → Unrounded (box_of b) (matrix_of m) B g

-- one of the eight clip points is of a kind
pub record SomeCorner (B : WholeBox) (g : ℕ → ℕ → ℤ) (Kind : (ℕ → ℤ) → Type 0) : Type 0 where
  pub k : ℕ
  pub below : k < 8
  pub is : Kind (clip_cornerℤ B g k)

-- along each axis one is above −w, and one, which may be another, below w
pub record EachSide (B : WholeBox) (g : ℕ → ℕ → ℤ) : Type 0 where
  pub above : (i : ℕ) → i < 3 → SomeCorner B g (λ c. neg_ℤ (c 3) <ℤ c i)
  pub below : (i : ℕ) → i < 3 → SomeCorner B g (λ c. c i <ℤ c 3)

-- The comparisons are exact too: of such records the call is not refused, and answers yes exactly where each side has a corner.
abbrev pub ClipExact : Type 0
ClipExact =
    (b m : List Float) (B : WholeBox) (g : ℕ → ℕ → ℤ)
    → AffineBoxRecord b B → ViewProjectionRecord m g → Settled (view_volume_call b m) (EachSide B g)

-- ---- "The reverse is not promised: corners can satisfy different sides without one common point."

-- a matrix by its numbers, row by row
abbrev pub rowsℤ : List ℤ → ℕ → ℕ → ℤ
rowsℤ s i j = get_or s (i * 4 + j) (pos 0)

-- A block turned by 45 degrees beside an edge of the clip volume: the range 0,0,0 to 1,1,1 with the rows 3,−3,0,0; 1,1,0,0; 0,0,1,0; 0,3,0,1. At each of its
-- points x + y is at least 3.
abbrev pub beside_edge : List Float
beside_edge = box_record (three (plus 0) (plus 0) (plus 0)) (three (plus 1) (plus 1) (plus 1)) (
    four (plus 3) (minus 3) (plus 0) (plus 0)
    ++ four (plus 1) (plus 1) (plus 0) (plus 0)
    ++ four (plus 0) (plus 0) (plus 1) (plus 0)
    ++ four (plus 0) (plus 3) (plus 0) (plus 1))

abbrev pub beside_edgeℤ : WholeBox
beside_edgeℤ = record {
  low = λ i. pos 0;
  high = λ i. pos 1;
  matrix = rowsℤ (
      pos 3 ∷ negsuc 2 ∷ pos 0 ∷ pos 0
      ∷ pos 1 ∷ pos 1 ∷ pos 0 ∷ pos 0
      ∷ pos 0 ∷ pos 0 ∷ pos 1 ∷ pos 0
      ∷ pos 0 ∷ pos 3 ∷ pos 0 ∷ pos 1 ∷ []);
}

-- the camera's matrix is the identity, whose clip volume goes from −1 to 1, so that x + y is below 2 there
abbrev pub identityℤ : ℕ → ℕ → ℤ
identityℤ = rowsℤ (
    pos 1 ∷ pos 0 ∷ pos 0 ∷ pos 0
    ∷ pos 0 ∷ pos 1 ∷ pos 0 ∷ pos 0
    ∷ pos 0 ∷ pos 0 ∷ pos 1 ∷ pos 0
    ∷ pos 0 ∷ pos 0 ∷ pos 0 ∷ pos 1 ∷ [])

-- the answer is yes, and no exact point of the range becomes a clip point in the clip volume
pub record FoundOutside : Type 0 where
  pub box : AffineBoxRecord beside_edge beside_edgeℤ
  pub camera : ViewProjectionRecord identity_rows identityℤ
  pub yes : view_volume_call beside_edge identity_rows ≡ outcome true
  pub outside : (X : ExactPoint) → InRange beside_edgeℤ X → InClipVolume (clip_point beside_edgeℤ identityℤ X) → ⊥
