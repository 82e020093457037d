-- `to_aperture` meets its contract by the cases of the kind. Assumes nothing.
use mathlib.Core.Path.{◌≡◌, sym, ap, ◌∙◌}
use lib.Ieee.{Float, binary64, of_bits}
use Rattle.number.specs.Arithmetic.{◌⊗◌, ◌⊘◌}
use Rattle.matrix.proofs.Literals.{one_bits}
use Rattle.projection.specs.declared.projection.Projection.{Projection}
use Rattle.camera.specs.Camera.{camera_unit, to_aperture}
use Rattle.camera.proofs.Literals.{unit_bits}
use Rattle.camera.proofs.camera.to_aperture.Goals as goal

abbrev tenth : Float
tenth = of_bits binary64 0x3fb9_9999_9999_999a

scaled : (x y : Float) → x ≡ y → x ⊗ tenth ⊘ tenth ≡ y ⊗ camera_unit ⊘ camera_unit
scaled x y e t = e t ⊗ unit_bits t ⊘ unit_bits t

pub returns-in-Perspective : goal.returns-in-Perspective
returns-in-Perspective c = scaled _ _ c.widen.ensures ∙ sym (ap (λ (p : Projection). to_aperture p c.args.focal_length) c.in-Perspective.is)

pub returns-in-Orthographic : goal.returns-in-Orthographic
returns-in-Orthographic c = (λ t. one_bits t ⊘ unit_bits t) ∙ sym (ap (λ (p : Projection). to_aperture p c.args.focal_length) c.in-Orthographic.is)
