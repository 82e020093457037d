-- `all_planes` meets its contract: a power of two, which has room in a word, less one. Assumes nothing.
use Rattle.std.proofs.Common.{arith, pow_pos, pow_mono}
use Rattle.verdict.proofs.view.all_planes.Goals as goal

pub returns : goal.returns
returns c = omega (arith, pow_pos c.args.count, pow_mono c.requires)
