-- `number::format::to_bits_32` meets its contract: at a NaN it writes the pattern that `to_bits` has. Assumes nothing.
use Rattle.std.proofs.Common.{◌≡◌, sym, refl, ap, ◌∙◌}
use lib.Ieee.{nan, binary32, to_bits}
use Rattle.number.proofs.Nan.{nan_is}
use Rattle.number.proofs.format.to_bits_32.Goals as goal

at_nan : to_bits binary32 nan ≡ 0x7fc0_0000
unfolding to_bits
at_nan = refl

pub returns-then-is_nan : goal.returns-then-is_nan
returns-then-is_nan c = sym (ap (to_bits binary32) (nan_is c.args.x (sym c.if-is_nan.ensures.value)) ∙ at_nan)
