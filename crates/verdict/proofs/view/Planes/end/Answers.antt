-- `Planes::end` meets its contract: the planes in rows are those of the record. Assumes nothing.
use Rattle.std.proofs.Common.{List, refl, ap, ◌∙◌}
use Rattle.verdict.specs.declared.plane.Plane.{Plane}
use Rattle.verdict.specs.Steps.Passes.{sides_of}
use Rattle.verdict.proofs.SideBySide.{gathered}
use Rattle.verdict.proofs.view.Planes.end.Goals as goal

pub returns : goal.returns
returns c =
    let s = c.args.self in
    (refl, c.sides.ensures ∙ ap (λ (ps : List Plane). sides_of ps c.args.p) (gathered s.numbers.now _ _ _ s.most c.gather.ensures.numbers c.gather.ensures.count))
