-- `crossing` meets its contract by what it calls. Assumes nothing.
use Rattle.std.proofs.Common.{ap, ◌∙◌, ap₂}
use lib.Ieee.{Float, neg}
use Rattle.number.specs.Arithmetic.{◌⊘◌}
use Rattle.matrix.specs.Vec.{dot}
use Rattle.matrix.specs.declared.vec.Vec3d.{Vec3d}
use Rattle.verdict.proofs.passes.crossing.Goals as goal

pub returns : goal.returns
returns c =
    ap₂ (λ (x y : Float). neg x ⊘ y) c.distance.ensures (c.dot.ensures ∙ ap (λ (v : Vec3d). dot c.args.plane.normal v) c.sub.ensures)
