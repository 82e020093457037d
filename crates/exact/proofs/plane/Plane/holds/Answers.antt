-- `Plane::holds` meets its contract: of a plane and a point that are small enough nothing overflows. Assumes nothing.
use mathlib.Core.Path.{ap}
use lib.IntN.{ℤ, pos}
use lib.Signed.{le_z}
use Rattle.exact.proofs.Machine.{reach, shift_fits, gap_fits, gap_is}
use Rattle.exact.proofs.plane.Plane.holds.Goals as goal

pub dot-reach-requires : goal.dot-reach-requires
dot-reach-requires c = reach c.args.self c.args.p c.requires.0 c.requires.1

pub overflow_mul-result : goal.overflow_mul-result
overflow_mul-result c = shift_fits c.args.self c.args.p c.requires.0 c.requires.1

pub overflow_sub-result : goal.overflow_sub-result
overflow_sub-result c = gap_fits c.args.self c.args.p c.requires.0 c.requires.1 c.dot-reach.result c.dot-reach.ensures

pub returns : goal.returns
returns c =
    ap (λ (z : ℤ). le_z (pos 0) z) (gap_is c.args.self c.args.p c.requires.0 c.requires.1 c.dot-reach.result c.dot-reach.ensures)
