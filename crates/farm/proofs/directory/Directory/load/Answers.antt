-- `load` meets its contract: the numbers taken and those of the sections left make all. Assumes nothing.
use mathlib.Core.Path.{refl, ◌∙◌}
use native.Mathlib.Omega.{arith}
use Rattle.farm.proofs.Rooms.{none_taken, fits, one_taken, all_taken}
use Rattle.farm.proofs.directory.Directory.load.Goals as goal

pub loop-i-init : goal.loop-i-init
loop-i-init c =
    let a = c.args in
    (refl, omega arith, none_taken a.self.now.file.now _ a.room.now a.self.now.counted)

pub load_section-taken-requires : goal.load_section-taken-requires
load_section-taken-requires c =
    let l = c.loop-i in
    let a = c.args in
    (omega (arith, a.self.now.counted), fits a.self.now.file.now _ _ l.room a.room.now c.requires l.taken l.i l.invariant.0 l.invariant.1 l.invariant.2 (omega arith))

pub loop-i-preserved : goal.loop-i-preserved
loop-i-preserved c =
    let l = c.loop-i in
    let a = c.args in
    let t = one_taken a.self.now.file.now _ _ l.room a.room.now c.requires l.taken l.i l.invariant.0 l.invariant.1 l.invariant.2 (omega arith) _ _ c.load_section-taken.ensures.0 c.load_section-taken.ensures.1 in
    (t.0, t.1, t.2)

pub returns : goal.returns
returns c =
    let l = c.loop-i in
    let b = c.args.self.now.file.now in
    (l.invariant.0, l.invariant.1, all_taken b _ l.room l.taken l.i (omega arith) ∙ l.invariant.2)

pub shape_of-room : goal.shape_of-room
shape_of-room c = c.loop-i.invariant.0

pub overflow_add-taken : goal.overflow_add-taken
overflow_add-taken c =
    let l = c.loop-i in
    let a = c.args in
    let t = one_taken a.self.now.file.now _ _ l.room a.room.now c.requires l.taken l.i l.invariant.0 l.invariant.1 l.invariant.2 (omega arith) _ _ c.load_section-taken.ensures.0 c.load_section-taken.ensures.1 in
    omega (arith, t.0, t.1)
