-- `Planes::hold_point` meets its contract: the planes in rows are those of the record. Assumes nothing.
use Rattle.std.proofs.Common.{List, ap, ◌∙◌}
use Rattle.verdict.specs.declared.plane.Plane.{Plane}
use Rattle.verdict.specs.Frustum.{point_in_view}
use Rattle.verdict.proofs.SideBySide.{gathered}
use Rattle.verdict.proofs.view.Planes.hold_point.Goals as goal

pub returns : goal.returns
returns c =
    let s = c.args.self in
    c.holds_point.ensures ∙ ap (λ (ps : List Plane). point_in_view ps c.args.p) (gathered s.numbers.now _ _ _ s.most c.gather.ensures.numbers c.gather.ensures.count)
