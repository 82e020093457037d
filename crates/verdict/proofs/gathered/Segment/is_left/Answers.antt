-- `Segment::is_left` meets its contract: the planes in rows are those of the record. Assumes nothing.
use Rattle.std.proofs.Common.{List, sym, ap, ◌∙◌}
use Rattle.matrix.specs.Constants.{positive_zero, one}
use Rattle.verdict.specs.declared.plane.Plane.{Plane}
use Rattle.verdict.specs.Frustum.{span_left}
use Rattle.verdict.specs.Steps.Passes.{sides_of}
use Rattle.verdict.proofs.SideBySide.{gathered}
use Rattle.verdict.proofs.gathered.Segment.is_left.Goals as goal

pub span_left-requires-clause-a_sides : goal.span_left-requires-clause-a_sides
span_left-requires-clause-a_sides c =
    let s = c.args.self in
    s.a_sides ∙ ap (λ (ps : List Plane). sides_of ps s.a.point) (sym (gathered s.planes.numbers.now _ _ _ s.planes.most c.gather.ensures.numbers c.gather.ensures.count))

pub span_left-requires-clause-b_sides : goal.span_left-requires-clause-b_sides
span_left-requires-clause-b_sides c =
    let s = c.args.self in
    s.b_sides ∙ ap (λ (ps : List Plane). sides_of ps s.b.point) (sym (gathered s.planes.numbers.now _ _ _ s.planes.most c.gather.ensures.numbers c.gather.ensures.count))

pub returns : goal.returns
returns c =
    let s = c.args.self in
    c.span_left.ensures
    ∙ ap (λ (ps : List Plane). span_left ps s.a.point s.b.point positive_zero one)
    (gathered s.planes.numbers.now _ _ _ s.planes.most c.gather.ensures.numbers c.gather.ensures.count)
