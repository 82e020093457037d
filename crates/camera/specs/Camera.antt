-- Cameras, as Gf's documentation has them: a placement in the world, a kind of projection and a lens. Definitions only.
-- Lengths in the camera, which are the focal length, the apertures and the offsets, count tenths of the world's unit; near and far count that unit itself.
use Rattle.std.specs.Prelude.{◌&&◌, List, [], ◌∷◌, ◌++◌, Float, Err, None, Ok, Option, Result, Some}
use Rattle.number.specs.Limits.{matrix_length, camera_length}
use Rattle.number.specs.Answer.{Reply, Outcome, refused, outcome, number_of, unless, has, attempting}
use Rattle.number.specs.Arithmetic.{◌⊕◌, ◌⊗◌, ◌⊘◌}
use Rattle.number.specs.Format.{narrow_of, widen_of}
use Rattle.number.specs.Slice.{all_finite}
use Rattle.number.specs.declared.answer.Refusal.{Refusal}
use Rattle.number.specs.declared.answer.Refusal.TheVariants.{Singular as SingularRefusal, NotAProjection as NoProjection, NotFinite}
use Rattle.matrix.specs.Constants.{rounded, half, one}
use Rattle.matrix.specs.Matrix.{matrix_of, entries}
use Rattle.matrix.specs.Inverse.{inverse}
use Rattle.matrix.specs.declared.matrix.Mat4d.{Mat4d}
use Rattle.projection.specs.Projection.{kind_number, width, height, recovered}
use Rattle.projection.specs.declared.projection.Projection.{Projection}
use Rattle.projection.specs.declared.projection.Projection.TheVariants.{Perspective, Orthographic}
use Rattle.projection.specs.declared.projection.ProjectionParams.{ProjectionParams}
use Rattle.camera.specs.declared.camera.Camera.{Camera}

-- ---- its numbers

-- those that are f32, "widened without loss"
abbrev pub lens : Camera → List Float
lens c =
    widen_of c.focal_length
    ∷ widen_of c.horizontal_aperture ∷ widen_of c.vertical_aperture
    ∷ widen_of c.horizontal_aperture_offset ∷ widen_of c.vertical_aperture_offset
    ∷ widen_of c.near ∷ widen_of c.far ∷ []

-- "24 numbers: transform, kind, focal length, horizontal and vertical aperture, their offsets, near, far"
abbrev pub numbers : Camera → List Float
numbers c = entries c.transform ++ kind_number c.projection ∷ lens c

-- ---- the lens of a volume

-- the unit of lengths in the camera, in the world's
abbrev pub camera_unit : Float
camera_unit = rounded 1 10

-- The factor from a length of the window to one of the aperture. In perspective both lie between the same lines of sight, the window 1 away from the eye and
-- the aperture a focal length away, whose own unit is changed for the aperture's. Along parallels only the unit changes.
abbrev pub to_aperture : Projection → Float → Float
to_aperture Perspective focal = widen_of focal ⊗ camera_unit ⊘ camera_unit
to_aperture Orthographic focal = one ⊘ camera_unit

-- By that factor: the apertures are the window's width and height, and the offsets say where its middle is. Each number is narrowed once.
abbrev pub filmed : Mat4d → ProjectionParams → Float → Float → Camera
filmed transform p focal scale = record {
  transform = transform;
  projection = p.projection;
  focal_length = focal;
  horizontal_aperture = narrow_of (width p ⊗ scale);
  vertical_aperture = narrow_of (height p ⊗ scale);
  horizontal_aperture_offset = narrow_of (half ⊗ (p.right ⊕ p.left) ⊗ scale);
  vertical_aperture_offset = narrow_of (half ⊗ (p.top ⊕ p.bottom) ⊗ scale);
  near = narrow_of p.near;
  far = narrow_of p.far;
}

abbrev pub camera_of : Mat4d → ProjectionParams → Float → Camera
camera_of transform p focal = filmed transform p focal (to_aperture p.projection focal)

-- ---- the camera of a view and a projection

-- "accepts exactly where the Rust answers true and all 24 numbers are finite", and 8 "for all else not accepted"
unfoldable pub finite_only : Camera → Result Camera Refusal
finite_only c = unless (all_finite (numbers c)) (Err NotFinite) (Ok c)

-- "4 where the Rust finds no inverse of the view", then "6 where it refuses the projection"
abbrev pub opened : Option Mat4d → Option ProjectionParams → Float → Result Camera Refusal
opened None r focal = Err SingularRefusal
opened (Some transform) None focal = Err NoProjection
opened (Some transform) (Some p) focal = finite_only (camera_of transform p focal)

unfoldable pub camera_from : Mat4d → Mat4d → Float → Result Camera Refusal
unfolding finite_only
camera_from view projection focal = opened (inverse view) (recovered projection) focal

-- ---- what the operation answers and leaves: "lengths 1 and 2, then 4 [..], 6 [..], and 8"

abbrev pub set_numbers : Result Camera Refusal → Outcome (List Float)
set_numbers (Ok c) = outcome (numbers c)
set_numbers (Err r) = refused (number_of r)

unfoldable pub camera_call : List Float → List Float → Float → List Float → Reply Float
camera_call view projection focal out =
    attempting (has matrix_length view && has matrix_length projection) camera_length (set_numbers (camera_from (matrix_of view) (matrix_of projection) focal)) out
