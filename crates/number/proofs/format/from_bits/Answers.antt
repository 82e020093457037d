-- `number::format::from_bits` meets its contract: a pattern is a NaN's if its magnitude is above infinity's. Assumes nothing.
use Rattle.std.proofs.Common.{sym, refl, ◌∙◌}
use lib.Ieee.{binary64}
use Rattle.number.proofs.Nan.{nan_constant}
use Rattle.number.proofs.Patterns.{nan_pattern, number_pattern}
use Rattle.number.proofs.format.from_bits.Goals as goal

pub returns-then-b-gt9218868437227405312 : goal.returns-then-b-gt9218868437227405312
returns-then-b-gt9218868437227405312 c = nan_constant ∙ sym (nan_pattern binary64 63 _ refl c.if-b-gt9218868437227405312.true)

pub float_from_bits-result : goal.float_from_bits-result
float_from_bits-result c = number_pattern binary64 63 _ refl c.if-b-gt9218868437227405312.false
