-- What is promised of a volume that was made. Definitions and statements only.
use Rattle.std.specs.Prelude.{◌≡◌, true, List, ◌++◌, length, replicate, Float}
use Rattle.number.specs.Limits.{fewest_planes}
use Rattle.number.specs.Answer.{Reply, outcome}
use Rattle.number.specs.Slice.{all_finite}
use Rattle.matrix.specs.Constants.{positive_zero}
use Rattle.matrix.specs.Vec.{vec3}
use Rattle.verdict.specs.Plane.{plane}
use Rattle.verdict.specs.View.{volume_length, planes_held, plane_at}
use Rattle.verdict.specs.Marked.{plus, minus, four, identity_rows}
use Rattle.volume.specs.Volume.{from_matrices_call}

-- a record of 49 finite numbers that holds six planes, so that no verdict refuses it
pub record MadeRecord (s : List Float) : Type 0 where
  pub numbers : length s ≡ volume_length fewest_planes
  pub held : planes_held s ≡ outcome fewest_planes
  pub finite : all_finite s ≡ true

-- Whatever was lent: where the operation is not refused, it leaves such a record.
abbrev pub VolumeMade : Type 0
VolumeMade = (view projection out : List Float) → (from_matrices_call view projection out).status ≡ 0 → MadeRecord (from_matrices_call view projection out).out

-- ---- a projection without a far end

-- from 1 in front of the eye on, as wide and as high as it is far: the rows 1,0,0,0; 0,1,0,0; 0,0,−1,−1; 0,0,−2,0
abbrev pub endless_rows : List Float
endless_rows =
    four (plus 1) (plus 0) (plus 0) (plus 0)
    ++ four (plus 0) (plus 1) (plus 0) (plus 0)
    ++ four (plus 0) (plus 0) (minus 1) (minus 1)
    ++ four (plus 0) (plus 0) (minus 2) (plus 0)

abbrev pub endless : Reply Float
endless = from_matrices_call identity_rows endless_rows (replicate (volume_length fewest_planes) positive_zero)

-- it is taken: its far plane, which every point is in front of, has a normal of zeros
pub record WithoutFarEnd : Type 0 where
  pub taken : endless.status ≡ 0
  pub far : plane_at endless.out 5 ≡ plane (vec3 (λ i. positive_zero)) (minus 2)
