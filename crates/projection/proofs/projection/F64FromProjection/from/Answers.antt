-- The number of a kind meets its contract by the cases of the kind. Assumes nothing.
use mathlib.Core.Path.{◌∙◌, sym, ap}
use Rattle.matrix.proofs.Literals.{zero_bits, one_bits}
use Rattle.projection.specs.Projection.{kind_number}
use Rattle.projection.proofs.projection.F64FromProjection.from.Goals as goal

pub returns-in-Perspective : goal.returns-in-Perspective
returns-in-Perspective c = zero_bits ∙ ap kind_number (sym c.in-Perspective.is)

pub returns-in-Orthographic : goal.returns-in-Orthographic
returns-in-Orthographic c = one_bits ∙ ap kind_number (sym c.in-Orthographic.is)
