-- A camera that was accepted has 24 finite numbers, and those that are f32 are values of binary32. The idea: the operation is accepted in one case alone,
-- where the test of the 24 numbers has passed, and there each of the seven is narrowed or is the focal length.
use Rattle.std.specs.Prelude.{Err, None, Ok, Option, Result, Some}
use mathlib.Core.Path.{◌≡◌, refl}
use mathlib.Core.Bool.{Bool, true, false, ◌&&◌}
use mathlib.Core.List.{List}
use native.Mathlib.Omega.{arith}
use lib.Dec.{T}
use lib.Ieee.{Float, binary32, fits}
use Rattle.number.specs.Answer.{Reply, refuse, number_of, unless, has, leaving, replied}
use Rattle.number.specs.Format.{narrow_of}
use Rattle.number.specs.Slice.{all_finite}
use Rattle.number.specs.declared.answer.Refusal.{Refusal}
use Rattle.number.specs.declared.answer.Refusal.TheVariants.{NotFinite}
use Rattle.number.proofs.Formats.{narrow_same, narrow_fits}
use Rattle.matrix.specs.declared.matrix.Mat4d.{Mat4d}
use Rattle.matrix.specs.Inverse.{inverse}
use Rattle.matrix.specs.Matrix.{matrix_of}
use Rattle.projection.specs.Projection.{recovered}
use Rattle.projection.specs.declared.projection.ProjectionParams.{ProjectionParams}
use Rattle.camera.specs.declared.camera.Camera.{Camera}
use Rattle.camera.specs.Camera.{lens, numbers, camera_of, finite_only, opened, camera_from, set_numbers, camera_call}
use Rattle.camera.specs.Accepted.{Single, Each, AcceptedRecord, CameraAccepted}

single : (x : Float) → T (fits binary32 x) → Single x
single x h = record { value = h; narrowed = narrow_same x h }

narrowed : (x : Float) → Single (narrow_of x)
narrowed x = single (narrow_of x) (narrow_fits x)

-- ---- the camera that is tested

abbrev Good : Result Camera Refusal → Type 0
Good (Ok c) = AcceptedRecord (numbers c)
Good (Err r) = number_of r ≡ 0 → ⊥

tested : (c : Camera) → Each Single (lens c) → (b : Bool) → all_finite (numbers c) ≡ b → Good (unless b (Err NotFinite) (Ok c))
tested c s true e = record { numbers = refl; finite = e; singles = s }
tested c s false e = λ z. omega (arith, z)

good : (i : Option Mat4d) (r : Option ProjectionParams) (focal : Float) → T (fits binary32 focal) → Good (opened i r focal)
unfolding finite_only
good None r focal h = λ z. omega (arith, z)
good (Some m) None focal h = λ z. omega (arith, z)
good (Some m) (Some p) focal h =
    tested (camera_of m p focal) (single focal h, (narrowed _, (narrowed _, (narrowed _, (narrowed _, (narrowed _, (narrowed _, tt))))))) (all_finite (numbers (camera_of m p focal))) refl

-- ---- the call

abbrev answer : Bool → Bool → Result Camera Refusal → List Float → Reply Float
answer inputs room s out = unless inputs (refuse 1 out) (unless room (refuse 2 out) (replied (set_numbers s) out))

accepted : (inputs room : Bool) (s : Result Camera Refusal) (out : List Float) → Good s → (answer inputs room s out).status ≡ 0 → AcceptedRecord (answer inputs room s out).out
accepted false room s out g e = absurd (omega (arith, e))
accepted true false s out g e = absurd (omega (arith, e))
accepted true true (Ok c) out g e = g
accepted true true (Err r) out g e = absurd (g e)

pub camera_accepted : CameraAccepted
unfolding camera_call leaving camera_from
camera_accepted view projection focal out h e =
    let s = camera_from (matrix_of view) (matrix_of projection) focal in
    accepted (has 16 view && has 16 projection) (has 24 out) s out (good (inverse (matrix_of view)) (recovered (matrix_of projection)) focal h) e
