-- `projection::close_to_zero` meets its contract: a number is close to 0 by its size. Assumes nothing.
use mathlib.Core.Path.{ap₂, ◌∙◌}
use borrow.Author.Rules.{rules}
use lib.Ieee.{le}
use Rattle.projection.proofs.Literals.{tolerance_bits}
use Rattle.projection.proofs.NearZero.{near_zero}
use Rattle.projection.proofs.projection.close_to_zero.Goals as goal

pub returns : goal.returns
returns c = ap₂ le c.abs.ensures tolerance_bits ∙ near_zero c.args.given (search rules)
