-- `number::format::widen` meets its contract: a NaN gives the constant. Assumes nothing.
use Rattle.std.proofs.Common.{sym, ◌∙◌}
use Rattle.number.proofs.Nan.{nan_constant, nan_is}
use Rattle.number.proofs.format.widen.Goals as goal

pub returns-then-is_nan : goal.returns-then-is_nan
returns-then-is_nan c = nan_constant ∙ sym (nan_is c.args.x (sym c.if-is_nan.ensures.value))
