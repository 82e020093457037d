-- `Plane::from_equation` meets its contract: by those of `length`, `unit` and `offset`. Assumes nothing.
use Rattle.std.proofs.Common.{ap, ◌∙◌, ap₂}
use Rattle.matrix.proofs.Length.{by_length}
use Rattle.verdict.specs.Plane.{plane, offset}
use Rattle.verdict.proofs.plane.Plane.from_equation.Goals as goal

pub returns : goal.returns
returns c =
    let measured = c.length-length.ensures in
    ap₂ plane (by_length _ _ _ c.unit.ensures measured) (c.offset.ensures ∙ ap (offset _) measured)
