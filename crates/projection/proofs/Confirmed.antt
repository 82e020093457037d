-- A volume that is recovered, by the tests of the code. Assumes nothing.
use Rattle.std.specs.Prelude.{None, Some}
use mathlib.Core.Path.{◌≡◌, sym, ap, ◌∙◌}
use mathlib.Core.Bool.{Bool, cond, ◌&&◌}
use lib.Ieee.{Float}
use Rattle.matrix.specs.declared.matrix.Mat4d.{Mat4d}
use Rattle.projection.specs.declared.projection.ProjectionParams.{ProjectionParams}
use Rattle.projection.specs.Projection.{bounded, close, close_to, projecting, confirmed}

pub by_tests : (v w : ProjectionParams) (m : Mat4d) (s k b : Bool) → v ≡ w → s ≡ bounded v → k ≡ close_to m (projecting w) → (s && k) ≡ b
    → cond b (Some v) None ≡ confirmed w m
unfolding confirmed
by_tests v w m s k b e h j t = rw (← t, h, j, e)

-- what is close to a number of one matrix is close to that of an equal one
pub placed : (b w : Mat4d) (k : Bool) (x : Float) → b ≡ w → (f : Mat4d → Float) → k ≡ close x (f w) → k ≡ close x (f b)
placed b w k x e f h = h ∙ ap (λ (q : Mat4d). close x (f q)) (sym e)
