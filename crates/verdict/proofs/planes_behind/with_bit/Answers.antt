-- `with_bit` meets its contract: a power of two, which has room in a word beside the bits below it. Assumes nothing.
use Rattle.std.proofs.Common.{◌≤◌, arith, pow_pos, pow_mono}
use Rattle.verdict.proofs.planes_behind.with_bit.Goals as goal

pub returns : goal.returns
returns c =
    let i = c.args.i in
    let l : i ≤ 13 = omega (arith, c.requires.1) in
    omega (arith, pow_pos i, pow_mono l)
