-- `load` meets its contract: the numbers are whole or nothing is stored, and what was stored so far are so many of them. Assumes nothing.
use mathlib.Core.Path.{sym, ◌∙◌}
use native.Mathlib.Omega.{arith}
use lib.ListN.{length, take}
use lib.Seq.{paste-zero}
use Rattle.placed.specs.Numbers.{whole_numbers}
use Rattle.placed.proofs.Registers.{kept_as}
use Rattle.placed.proofs.Truncation.{whole_small}
use Rattle.placed.proofs.Loading.{one_of, stored, all_stored}
use Rattle.placed.proofs.numbers.load.Goals as goal

pub loop-i-init : goal.loop-i-init
loop-i-init c =
    let a = c.args in
    paste-zero a.out.now 0 (whole_numbers (take (length a.out.now) a.from.now))

pub whole_of-requires : goal.whole_of-requires
whole_of-requires c =
    let a = c.args in
    one_of a.from.now (length a.out.now) c.requires c.loop-i.i (omega arith) (sym c.are_whole.ensures ∙ c.if-not-are_whole.false)

pub loop-i-preserved : goal.loop-i-preserved
loop-i-preserved c =
    let l = c.loop-i in
    let a = c.args in
    let w = one_of a.from.now (length a.out.now) c.requires l.i (omega arith) (sym c.are_whole.ensures ∙ c.if-not-are_whole.false) in
    stored a.from.now a.out.now c.requires l.i (omega arith) l.out _ l.invariant (kept_as _ _ c.whole_of.ensures (whole_small _ w))

pub returns : goal.returns
returns c =
    let l = c.loop-i in
    let a = c.args in
    (sym c.are_whole.ensures ∙ c.if-not-are_whole.false, all_stored a.from.now a.out.now c.requires l.i (omega arith) l.out l.invariant)
