-- `projection::gives_orthographic` meets its contract: by the window, and number by number by those of `close` and `close_to_zero`. Assumes nothing.
use mathlib.Core.Path.{◌≡◌, ap, sym, ◌∙◌}
use mathlib.Core.Bool.{Bool, ◌&&◌}
use Rattle.number.specs.Every.{every_below}
use Rattle.matrix.specs.declared.matrix.Mat4d.{Mat4d}
use Rattle.matrix.specs.Matrix.{entries}
use Rattle.projection.specs.Projection.{orthographic, close_at, close_to}
use Rattle.projection.proofs.Confirmed.{placed}
use Rattle.projection.proofs.projection.gives_orthographic.Goals as goal

of_built : (m b w : Mat4d) (k : Bool) → b ≡ w → k ≡ close_to m b → k ≡ close_to m w
of_built m b w k e h = h ∙ ap (close_to m) e

-- the first two rows
rows : (m b w : Mat4d) (k : Bool) → b ≡ w → k ≡ every_below 8 (close_at (entries m) (entries w)) → k ≡ every_below 8 (close_at (entries m) (entries b))
rows m b w k e h = h ∙ ap (λ (q : Mat4d). every_below 8 (close_at (entries m) (entries q))) (sym e)

pub returns : goal.returns
unfolding close_to every_below
returns c =
    of_built c.args.matrix c.orthographic-built.result _ _ c.orthographic-built.ensures
    (λ t. rows c.args.matrix c.orthographic-built.result (orthographic c.args.volume) _ c.orthographic-built.ensures c.has_window_of.ensures t && placed _ _ _ _ c.orthographic-built.ensures (λ (q : Mat4d). q.r2.x) c.close_to_zero.ensures t && placed _ _ _ _ c.orthographic-built.ensures (λ (q : Mat4d). q.r2.y) c.close_to_zero-2.ensures t && c.close.ensures t && placed _ _ _ _ c.orthographic-built.ensures (λ (q : Mat4d). q.r2.w) c.close_to_zero-3.ensures t && c.close-2.ensures t && c.close-3.ensures t && c.close-4.ensures t && c.close-5.ensures t)
