-- `directory::in_order` meets its contract: the sections left decide, from the end of the one before. Assumes nothing.
use mathlib.Core.Path.{ap, ◌∙◌}
use Prim.Native.Nat.{ℕ, ◌+◌}
use native.Mathlib.Omega.{arith}
use lib.ListN.{length}
use Rattle.farm.specs.Directory.{directory_end, in_order}
use Rattle.farm.proofs.SectionsLeft.{left, all_left, too_early, too_long, in_place, all_placed}
use Rattle.farm.proofs.directory.in_order.Goals as goal

pub loop-i-init : goal.loop-i-init
loop-i-init c =
    let given = c.args in
    let b = given.file.now in
    ap (λ (n : ℕ). in_order n (length b) (left b given.count 0)) c.entry_at-from.ensures ∙ ap (in_order (directory_end given.count) (length b)) (all_left b given.count)

pub returns-then-section-from : goal.returns-then-section-from
returns-then-section-from c =
    let l = c.loop-i in
    let given = c.args in
    too_early given.file.now given.count l.i l.from _ _ c.section_at-section.ensures (omega arith) c.if-section-from.true ∙ l.invariant

pub returns-then-file-end : goal.returns-then-file-end
returns-then-file-end c =
    let l = c.loop-i in
    let given = c.args in
    let e = c.end-end.ensures in
    too_long given.file.now given.count l.i l.from _ _ c.section_at-section.ensures (omega arith) c.if-section-from.false (omega arith) ∙ l.invariant

pub loop-i-preserved : goal.loop-i-preserved
loop-i-preserved c =
    let l = c.loop-i in
    let given = c.args in
    let e = c.end-end.ensures in
    ap (λ (n : ℕ). in_order n (length given.file.now) (left given.file.now given.count (l.i + 1))) e
    ∙ in_place given.file.now given.count l.i l.from _ _ c.section_at-section.ensures (omega arith) c.if-section-from.false (omega arith) ∙ l.invariant

pub returns : goal.returns
returns c =
    let l = c.loop-i in
    let given = c.args in
    all_placed given.file.now given.count l.i l.from _ (omega arith) ∙ l.invariant
