-- `are_whole` meets its contract: what was found of the numbers passed, and those left, decide. Assumes nothing.
use mathlib.Core.Path.{refl, ◌∙◌}
use native.Mathlib.Omega.{arith}
use Rattle.placed.proofs.Loading.{more, done}
use Rattle.placed.proofs.numbers.are_whole.Goals as goal

pub loop-x-init : goal.loop-x-init
loop-x-init c = refl

pub loop-x-preserved : goal.loop-x-preserved
loop-x-preserved c =
    let l = c.loop-x in
    more c.args.s.now l.x-index (omega arith) l.all _ c.is_whole-all.ensures ∙ l.invariant

pub returns : goal.returns
returns c =
    let l = c.loop-x in
    done c.args.s.now l.x-index l.all (omega arith) l.invariant
