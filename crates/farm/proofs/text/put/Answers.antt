-- `text::put` meets its contract: by its tests of the room, and by what it calls. Assumes nothing.
use mathlib.Core.Path.{refl}
use native.Mathlib.Omega.{arith}
use Rattle.farm.proofs.Texts.{part_put, puts_room, no_room}
use Rattle.farm.proofs.text.put.Goals as goal

pub returns-then-text-at : goal.returns-then-text-at
returns-then-text-at c = let g = c.args in no_room g.text.now g.at g.bytes.now (omega (arith, c.if-text-at.true))

pub returns-then-text-at-2 : goal.returns-then-text-at-2
returns-then-text-at-2 c =
    let g = c.args in
    no_room g.text.now g.at g.bytes.now (omega (arith, c.if-text-at-2.true, c.if-text-at.false))

pub returns : goal.returns
returns c =
    let given = c.args in
    puts_room given.text.now given.at given.bytes.now _ _ (omega arith) (refl, part_put given.text.now given.at given.bytes.now _ c.copy_from_slice.ensures.after)
