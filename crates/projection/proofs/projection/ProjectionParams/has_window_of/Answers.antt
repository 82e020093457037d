-- `ProjectionParams::has_window_of` meets its contract: number by number by those of `close` and `close_to_zero`. Assumes nothing.
use mathlib.Core.Path.{◌≡◌, ap, ◌∙◌}
use mathlib.Core.Bool.{Bool, ◌&&◌}
use lib.Ieee.{Float}
use Rattle.number.specs.Every.{every_below}
use Rattle.projection.specs.Projection.{close}
use Rattle.projection.proofs.projection.ProjectionParams.has_window_of.Goals as goal

to_equal : (k : Bool) (x y z : Float) → k ≡ close x y → y ≡ z → k ≡ close x z
to_equal k x y z h e = h ∙ ap (close x) e

pub returns : goal.returns
unfolding every_below
returns c = (λ t.
    to_equal _ _ _ _ c.close.ensures c.factor_across.ensures t && c.close_to_zero.ensures t && c.close_to_zero-2.ensures t && c.close_to_zero-3.ensures t
    && c.close_to_zero-4.ensures t && to_equal _ _ _ _ c.close-2.ensures c.factor_up.ensures t && c.close_to_zero-5.ensures t && c.close_to_zero-6.ensures t)
