-- `Camera::store` meets its contract, by what it calls. Assumes nothing.
use mathlib.Core.Path.{ap, ◌∙◌}
use mathlib.Core.List.{List}
use lib.Ieee.{Float}
use Rattle.number.specs.Slice.{stored}
use Rattle.camera.proofs.camera.Camera.store.Goals as goal

pub returns : goal.returns
returns c =
    c.store.ensures ∙ ap (λ (v : List Float). stored v c.args.out.now) c.numbers-all.ensures
