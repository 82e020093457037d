-- `are_boxes` meets its contract: the sections left decide. Assumes nothing.
use mathlib.Core.Path.{◌≡◌, sym, ap, ◌∙◌}
use mathlib.Core.List.{List}
use Prim.Native.Nat.{ℕ}
use native.Mathlib.Omega.{arith}
use borrow.Author.Tests.{eq-eqb, ne_eqb}
use Rattle.number.specs.Every.{every}
use Rattle.farm.specs.declared.directory.Section.{Section}
use Rattle.farm.specs.Directory.{section_count}
use Rattle.farm.specs.FarmFile.{boxes_sized}
use Rattle.farm.proofs.SectionsLeft.{left, fails, holds, all_hold}
use Rattle.farm.proofs.Placed.{at_least}
use Rattle.farm.proofs.directory.Directory.are_boxes.Invariants.{test}
use Rattle.farm.proofs.directory.Directory.are_boxes.Goals as goal

abbrev size : Section → ℕ
size s = s.size

moved : {s t : Section} {n : ℕ} → s ≡ t → (size s ≡ n → ⊥) → size t ≡ n → ⊥
moved q h e = h (ap size q ∙ e)

all_left : (b : List ℕ) (n : ℕ) → n ≡ section_count b → every test (left b n 1) ≡ boxes_sized b
unfolding boxes_sized
all_left b n q = ap (λ (k : ℕ). every test (left b k 1)) q

pub loop-i-init : goal.loop-i-init
loop-i-init c =
    let d = c.args.self.now in
    all_left d.file.now d.count d.counted

pub returns-then-section-ne-BOX_SIZE : goal.returns-then-section-ne-BOX_SIZE
returns-then-section-ne-BOX_SIZE c =
    let l = c.loop-i in
    fails c.args.self.now.file.now c.args.self.now.count l.i test (omega arith) (ne_eqb _ _ (moved c.section.ensures c.if-section-ne-BOX_SIZE.true)) ∙ l.invariant

pub loop-i-preserved : goal.loop-i-preserved
loop-i-preserved c =
    let l = c.loop-i in
    let b = c.args.self.now.file.now in
    holds b c.args.self.now.count l.i test (omega arith) (eq-eqb _ _ (ap size (sym c.section.ensures) ∙ c.if-section-ne-BOX_SIZE.false)) ∙ l.invariant

pub returns : goal.returns
returns c =
    let l = c.loop-i in
    let some = at_least c.args.self.now.file.now c.args.self.now.formed in
    all_hold c.args.self.now.file.now c.args.self.now.count l.i test (omega (arith, some, c.args.self.now.counted)) ∙ l.invariant
