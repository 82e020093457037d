-- The view of two matrices: where their product is whole numbers, the planes that `volume_from_view_and_projection` makes are whole numbers too, and a grid point is on
-- the positive side of all six exactly where its clip point lies in the clip volume. So `intersects_view_volume`, by that product, and the verdicts by those planes speak of
-- one view. Definitions and statements only. A clip point is four whole numbers, x, y, z and w, by the places 0 to 3.
use Rattle.std.specs.Prelude.{◌≡◌, ◌↔◌, Bool, true, false, List, [], ◌∷◌, ℕ, ◌*◌, ◌/◌, ◌%◌, ◌≤◌, ◌<◌, eqb, ℤ, pos, negsuc, neg_ℤ, nat_abs, ◌+ℤ◌, ◌-ℤ◌, ◌≤ℤ◌, Float}
use Rattle.number.specs.Tabulate.{tabulate}
use Rattle.number.specs.Limits.{fewest_planes}
use Rattle.matrix.specs.MatrixCalls.{product_call}
use Rattle.verdict.specs.FrustumCalls.{intersects_point_call}
use Rattle.verdict.specs.Marked.{identity_rows}
use Rattle.volume.specs.Volume.{from_matrices_call}
use Rattle.volume.specs.Accepted.{endless_rows, endless}
use Rattle.whole.specs.Plane.{WholePlane}
use Rattle.exact.specs.ExactPoint.{ExactPoint, InView}
use Rattle.placed.specs.Placement.{WholeBox}
use Rattle.farmgrid.specs.Placement.{Within}
use Rattle.farmgrid.specs.FarmGrid.{exactly}
use Rattle.farmgrid.specs.Records.{PointRecord, ViewRecord, Settled}
use Rattle.farmgrid.specs.ClipSpace.{view_projection_limit, ViewProjectionRecord, throughℤ, placed_point, clip_point, InClipVolume, rowsℤ}

-- ---- the planes of a whole matrix

-- w + x, or, where s is true, w − x
abbrev pub besideℤ : Bool → ℤ → ℤ → ℤ
besideℤ false w x = w +ℤ x
besideℤ true w x = w -ℤ x

-- of column 3 and column k: the first three numbers are the normal, and the last, with its sign turned, is the distance
abbrev pub sideℤ : (ℕ → ℕ → ℤ) → Bool → ℕ → WholePlane
sideℤ g s k = record { normal = λ i. besideℤ s (g i 3) (g i k); distance = neg_ℤ (besideℤ s (g 3 3) (g 3 k)) }

-- left and right, bottom and top, near and far
abbrev pub sidesℤ : (ℕ → ℕ → ℤ) → List WholePlane
sidesℤ g = tabulate (λ i. sideℤ g (eqb (i % 2) 1) (i / 2)) fewest_planes

-- twice the size of the matrix's numbers
abbrev pub side_limit : ℕ
side_limit = view_projection_limit * 2

pub record ClipSide (P : WholePlane) : Type 0 where
  pub entries : Within side_limit P.normal
  pub far : nat_abs P.distance ≤ side_limit

-- ---- the clip volume with its sides

-- x, y and z each from −w to w
pub record InClosedVolume (c : ℕ → ℤ) : Type 0 where
  pub above : (i : ℕ) → i < 3 → neg_ℤ (c 3) ≤ℤ c i
  pub below : (i : ℕ) → i < 3 → c i ≤ℤ c 3

-- ---- the claims

-- A view and a projection matrix whose product is a view-projection matrix g, "of whole entries at most 4,096 in size", and of which a volume was made: neither call is
-- refused, and what they leave is the matrix and the volume v.
pub record MadeOf (view projection : List Float) (g : ℕ → ℕ → ℤ) (v : List Float) : Type 0 where
  pub room : List Float
  pub multiplied : (product_call view projection room).status ≡ 0
  pub product : ViewProjectionRecord (product_call view projection room).out g
  pub out : List Float
  pub made : (from_matrices_call view projection out).status ≡ 0
  pub volume : (from_matrices_call view projection out).out ≡ v

-- The planes are those of g, exactly.
abbrev pub PlanesExact : Type 0
PlanesExact = (view projection : List Float) (g : ℕ → ℕ → ℤ) (v : List Float) → MadeOf view projection g v → ViewRecord ClipSide v (sidesℤ g)

-- For a grid point the verdict by that volume is yes exactly where the point's clip point has x, y and z each from −w to w: the call is not refused.
abbrev pub PointByMatrices : Type 0
PointByMatrices =
    (view projection : List Float) (g : ℕ → ℕ → ℤ) (v p : List Float) (A : ℕ → ℤ)
    → MadeOf view projection g v → PointRecord p A → Settled (intersects_point_call v p) (InClosedVolume (throughℤ g (exactly A)))

-- An exact point satisfies all six planes exactly where its clip point lies there; so where an exact point of a block becomes a clip point strictly within, by which
-- `intersects_view_volume` never loses the block, that point, placed, is in the view of the planes.
pub record OneView (g : ℕ → ℕ → ℤ) : Type 0 where
  pub point : (X : ExactPoint) → InView (sidesℤ g) X ↔ InClosedVolume (throughℤ g X)
  pub block : (B : WholeBox) (X : ExactPoint) → InClipVolume (clip_point B g X) → InView (sidesℤ g) (placed_point B.matrix X)

abbrev pub OneViewOfEach : Type 0
OneViewOfEach = (g : ℕ → ℕ → ℤ) → OneView g

-- ---- such matrices there are: no view at all, and a projection without a far end

abbrev pub endlessℤ : ℕ → ℕ → ℤ
endlessℤ = rowsℤ (
    pos 1 ∷ pos 0 ∷ pos 0 ∷ pos 0
    ∷ pos 0 ∷ pos 1 ∷ pos 0 ∷ pos 0
    ∷ pos 0 ∷ pos 0 ∷ negsuc 0 ∷ negsuc 0
    ∷ pos 0 ∷ pos 0 ∷ negsuc 1 ∷ pos 0 ∷ [])

abbrev pub EndlessMade : Type 0
EndlessMade = MadeOf identity_rows endless_rows endlessℤ endless.out
