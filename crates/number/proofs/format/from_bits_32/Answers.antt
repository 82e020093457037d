-- `number::format::from_bits_32` meets its contract: a pattern is a NaN's if its magnitude is above infinity's. Assumes nothing.
use Rattle.std.proofs.Common.{sym, refl, ◌∙◌}
use lib.Ieee.{binary32}
use Rattle.number.proofs.Nan.{nan_constant_32}
use Rattle.number.proofs.Patterns.{nan_pattern, number_pattern}
use Rattle.number.proofs.format.from_bits_32.Goals as goal

pub returns-then-b-gt2139095040 : goal.returns-then-b-gt2139095040
returns-then-b-gt2139095040 c = nan_constant_32 ∙ sym (nan_pattern binary32 31 _ refl c.if-b-gt2139095040.true)

pub float_from_bits-result : goal.float_from_bits-result
float_from_bits-result c = number_pattern binary32 31 _ refl c.if-b-gt2139095040.false
