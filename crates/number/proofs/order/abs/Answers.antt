-- `number::order::abs` meets its contract: `proofs/Magnitude.antt` has the laws. Assumes nothing.
use Rattle.std.proofs.Common.{sym, ◌∙◌, rules}
use Rattle.number.proofs.Magnitude.{masked, masked_number, nan_abs}
use Rattle.number.proofs.Nan.{nan_constant, nan_is}
use Rattle.number.proofs.order.abs.Goals as goal

pub returns-then-is_nan : goal.returns-then-is_nan
returns-then-is_nan c = nan_constant ∙ nan_abs c.args.x (nan_is c.args.x (sym c.if-is_nan.ensures.value))

pub float_from_bits-result : goal.float_from_bits-result
float_from_bits-result c = masked_number c.args.x (search rules) (sym c.if-is_nan.ensures.value)

pub returns : goal.returns
returns c = masked c.args.x (search rules) (sym c.if-is_nan.ensures.value)
