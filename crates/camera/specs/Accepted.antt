-- What is promised of a camera that was accepted. Definitions and statements only.
use Rattle.std.specs.Prelude.{◌≡◌, true, List, [], ◌∷◌, T, length, drop, Float}
use Rattle.std.specs.Float.{binary32}
use Rattle.std.specs.Float.Ieee.{fits}
use Rattle.number.specs.Limits.{camera_length}
use Rattle.number.specs.Format.{narrow_of}
use Rattle.number.specs.Slice.{all_finite}
use Rattle.camera.specs.Camera.{camera_call}

-- x is a value of binary32, so that narrowing it again loses nothing
pub record Single (x : Float) : Type 0 where
  pub value : T (fits binary32 x)
  pub narrowed : narrow_of x ≡ x

-- what holds of every number of a list
abbrev pub Each : (Float → Type 0) → List Float → Type 0
Each K [] = Unit {0}
Each K (x ∷ xs) = K x × Each K xs

-- a record of 24 finite numbers, of which the seven behind the kind are values of binary32
pub record AcceptedRecord (s : List Float) : Type 0 where
  pub numbers : length s ≡ camera_length
  pub finite : all_finite s ≡ true
  pub singles : Each Single (drop 17 s)

-- Whatever was lent, and for every focal length, which is an f32: where the operation is not refused, it leaves such a record.
abbrev pub CameraAccepted : Type 0
CameraAccepted =
    (view projection : List Float) (focal : Float) (out : List Float) → T (fits binary32 focal)
    → (camera_call view projection focal out).status ≡ 0 → AcceptedRecord (camera_call view projection focal out).out
