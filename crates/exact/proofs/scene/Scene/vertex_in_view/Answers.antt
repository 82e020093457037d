-- `vertex_in_view` meets its contract: of segment planes a vertex is small. Assumes nothing.
use mathlib.Core.Path.{sym, subst}
use Rattle.exact.specs.Steps.{SmallPoint}
use Rattle.exact.proofs.Vertices.{vertex_small}
use Rattle.exact.proofs.scene.Scene.vertex_in_view.Goals as goal

pub in_view-requires : goal.in_view-requires
in_view-requires c =
    let a = c.args in
    let h = c.requires in
    (h.0, subst SmallPoint (sym c.in_ok-p.ensures.0) (vertex_small a.a a.b a.c h.1 h.2 h.3))
