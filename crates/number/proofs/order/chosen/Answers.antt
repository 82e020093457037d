-- `number::order::chosen` meets its contract: equal numbers are no NaNs. Assumes nothing.
use Rattle.number.proofs.Nan.{number}
use Rattle.number.proofs.Extremes.{equal_numbers}
use Rattle.number.proofs.order.chosen.Goals as goal

pub float_to_bits-y : goal.float_to_bits-y
float_to_bits-y g c = let a = c.args in number a.y (equal_numbers a.x a.y c.if-x-y.true).1
