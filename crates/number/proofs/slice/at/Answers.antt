-- `number::slice::at` meets its contract: past the end is the constant. Assumes nothing.
use Rattle.std.proofs.Common.{arith}
use Rattle.std.proofs.lemmas.Grind.{common_steps}
use Rattle.std.proofs.lemmas.Option.{gets}
use Rattle.number.proofs.Nan.{nan_constant}
use Rattle.number.proofs.slice.at.Goals as goal

pub returns : goal.returns
returns c = let e = nan_constant in let g = c.get.ensures.lookup in grind (arith, common_steps, gets)
