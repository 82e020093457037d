-- `vec::greater` meets its contract: `proofs/EitherWay.antt` has the law. Assumes nothing.
use mathlib.Core.Path.{◌∙◌, ap}
use borrow.Author.Rules.{rules}
use lib.Ieee.{lt, is_nan}
use Rattle.number.proofs.Nan.{number}
use Rattle.matrix.proofs.EitherWay.{one_number, greater_joined, greater_number}
use Rattle.matrix.proofs.vec.greater.Goals as goal

pub float_to_bits-result : goal.float_to_bits-result
float_to_bits-result c = number _ (ap is_nan c.upper.ensures ∙ one_number (lt c.args.x c.args.y) _ _ c.requires)

pub float_to_bits-result-2 : goal.float_to_bits-result-2
float_to_bits-result-2 c = number _ (ap is_nan c.upper-2.ensures ∙ one_number (lt c.args.y c.args.x) _ _ (c.requires.1, c.requires.0))

pub float_from_bits-result : goal.float_from_bits-result
float_from_bits-result c = greater_number c.args.x c.args.y (search rules) (search rules) c.requires _ _ c.upper.ensures c.upper-2.ensures

pub returns : goal.returns
returns c = greater_joined c.args.x c.args.y (search rules) (search rules) c.requires _ _ c.upper.ensures c.upper-2.ensures
