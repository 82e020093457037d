-- `ProjectionParams::bounded` meets its contract, by what it calls. Assumes nothing.
use mathlib.Core.Path.{◌≡◌, refl, ◌∙◌}
use mathlib.Core.Bool.{Bool, true, false, ◌&&◌}
use lib.Ieee.Scale.{finite}
use Rattle.number.specs.Every.{every, every_below}
use Rattle.number.specs.Slice.{all_finite}
use Rattle.number.proofs.Tests.{and_true}
use Rattle.projection.specs.declared.projection.ProjectionParams.{ProjectionParams}
use Rattle.projection.specs.Projection.{extent, bounded}
use Rattle.projection.proofs.projection.ProjectionParams.bounded.Goals as goal

-- six tests from the first on, and from the last
six : (a b c d e f : Bool) → (a && (b && (c && (d && (e && (f && true)))))) ≡ (((((a && b) && c) && d) && e) && f)
six false b c d e f = refl
six true false c d e f = refl
six true true false d e f = refl
six true true true false e f = refl
six true true true true false f = refl
six true true true true true f = and_true f

of_extent : (p : ProjectionParams) → all_finite (extent p) ≡ bounded p
unfolding every bounded every_below
of_extent p = six (finite p.left) (finite p.right) (finite p.bottom) (finite p.top) (finite p.near) (finite p.far)

pub returns : goal.returns
returns c = c.all_finite.ensures ∙ of_extent c.args.self
