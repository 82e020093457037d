-- `number::bytes::load` meets its contract: so many numbers from the bytes are in front. Assumes nothing.
use Rattle.std.proofs.Common.{ap, ◌∙◌, arith}
use lib.Ieee.{binary64, of_bits}
use Rattle.number.proofs.Words.{none_filled, one_more, eighth}
use Rattle.number.proofs.bytes.load.Goals as goal

pub loop-i-init : goal.loop-i-init
loop-i-init c = let given = c.args in none_filled given.bytes.now given.at given.out.now

pub loop-i-preserved : goal.loop-i-preserved
loop-i-preserved c =
    let l = c.loop-i in
    let given = c.args in
    one_more given.bytes.now given.at given.out.now l.i l.out _ (omega arith) l.invariant (c.from_bits.ensures ∙ ap (of_bits binary64) (search (eighth, arith)))
