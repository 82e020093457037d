-- `number::parts::Parts::of` meets its contract: what is no NaN has a magnitude up to infinity's. Assumes nothing.
use Rattle.std.proofs.Common.{sym, rules}
use Rattle.number.proofs.Reading.{mag_most}
use Rattle.number.proofs.parts.Parts.of.Goals as goal

pub invariant_of-result : goal.invariant_of-result
invariant_of-result c = record { of_a_number = mag_most c.args.x (search rules) (sym c.if-is_nan.ensures.value) }
