-- `Planes::segment` meets its contract: the planes in rows are those of the record. Assumes nothing.
use Rattle.std.proofs.Common.{List, ap, ◌∙◌}
use Rattle.verdict.specs.declared.plane.Plane.{Plane}
use Rattle.verdict.specs.Steps.Passes.{sides_of}
use Rattle.verdict.proofs.SideBySide.{gathered}
use Rattle.verdict.proofs.view.Planes.segment.Goals as goal

pub invariant_of-result : goal.invariant_of-result
invariant_of-result c =
    let s = c.args.self in
    let same = gathered s.numbers.now _ _ _ s.most c.gather.ensures.numbers c.gather.ensures.count in record {
      a_sides = c.sides.ensures ∙ ap (λ (ps : List Plane). sides_of ps c.args.a) same;
      b_sides = c.sides-2.ensures ∙ ap (λ (ps : List Plane). sides_of ps c.args.b) same;
    }
