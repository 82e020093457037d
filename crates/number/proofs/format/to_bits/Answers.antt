-- `number::format::to_bits` meets its contract: at a NaN it writes the pattern that `to_bits` has. Assumes nothing.
use Rattle.std.proofs.Common.{◌≡◌, sym, refl, ap, ◌∙◌}
use lib.Ieee.{nan, binary64, to_bits}
use Rattle.number.proofs.Nan.{nan_is}
use Rattle.number.proofs.format.to_bits.Goals as goal

at_nan : to_bits binary64 nan ≡ 0x7ff8_0000_0000_0000
unfolding to_bits
at_nan = refl

pub returns-then-is_nan : goal.returns-then-is_nan
returns-then-is_nan c = sym (ap (to_bits binary64) (nan_is c.args.x (sym c.if-is_nan.ensures.value)) ∙ at_nan)
