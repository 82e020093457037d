-- `Camera::numbers` meets its contract, number by number. Assumes nothing.
use mathlib.Core.Path.{◌≡◌}
use mathlib.Core.List.{[], ◌∷◌, ◌++◌}
use lib.Ieee.{Float}
use Rattle.matrix.specs.Matrix.{entries}
use Rattle.projection.specs.Projection.{kind_number}
use Rattle.camera.specs.declared.camera.Camera.{Camera}
use Rattle.camera.specs.Camera.{numbers}
use Rattle.camera.proofs.camera.Camera.numbers.Goals as goal

listed : (c : Camera) {k f h v ho vo n r : Float} → k ≡ kind_number c.projection → f ≡ c.focal_length → h ≡ c.horizontal_aperture
    → v ≡ c.vertical_aperture → ho ≡ c.horizontal_aperture_offset → vo ≡ c.vertical_aperture_offset → n ≡ c.near → r ≡ c.far
    → entries c.transform ++ k ∷ f ∷ h ∷ v ∷ ho ∷ vo ∷ n ∷ r ∷ [] ≡ numbers c
listed c a b d e f g h i t = entries c.transform ++ a t ∷ b t ∷ d t ∷ e t ∷ f t ∷ g t ∷ h t ∷ i t ∷ []

pub returns : goal.returns
returns c =
    listed c.args.self c.from.ensures c.widen.ensures c.widen-2.ensures c.widen-3.ensures
    c.widen-4.ensures c.widen-5.ensures c.widen-6.ensures c.widen-7.ensures
