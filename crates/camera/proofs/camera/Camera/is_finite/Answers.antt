-- `Camera::is_finite` meets its contract, by what it calls. Assumes nothing.
use mathlib.Core.Path.{ap, ◌∙◌}
use Rattle.number.specs.Slice.{all_finite}
use Rattle.camera.proofs.camera.Camera.is_finite.Goals as goal

pub returns : goal.returns
returns c = c.all_finite.ensures ∙ ap all_finite c.numbers-all.ensures
