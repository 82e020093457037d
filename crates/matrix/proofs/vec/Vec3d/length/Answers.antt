-- `Vec3d::length` meets its contract: the root of the dot product with itself. Assumes nothing.
use mathlib.Core.Path.{ap, ◌∙◌}
use lib.Ieee.{binary64}
use Rattle.number.specs.Root.{sqrt_of}
use Rattle.matrix.specs.Vec.{length_of}
use Rattle.matrix.proofs.vec.Vec3d.length.Goals as goal

pub returns : goal.returns
unfolding length_of
returns c = c.sqrt.ensures ∙ ap (sqrt_of binary64) c.dot.ensures
