-- `lines_of_boxes` meets its contract: a line more for each box, and room for all. Assumes nothing.
use mathlib.Core.Path.{◌≡◌, sym, subst}
use mathlib.Core.List.{List}
use Prim.Native.Nat.{ℕ, ◌+◌, ◌-◌, ◌*◌, ◌≤◌}
use native.Mathlib.Omega.{arith}
use lib.ListN.{length, take, drop}
use lib.Ieee.{Float}
use Rattle.number.specs.Limits.{box_length}
use Rattle.number.specs.Records.{record_at}
use Rattle.number.proofs.Tabulate.{as_many}
use Rattle.farm.specs.FarmFile.{slot_count}
use Rattle.farm.proofs.Texts.{whole}
use Rattle.reason.specs.Steps.{LineOf, FirstLines, LinesOf}
use Rattle.reason.proofs.Boxes.{short_lines, no_line, line_more}
use Rattle.reason.proofs.explain.lines_of_boxes.Goals as goal

module _ (v s : List Float) (i : ℕ) (t m : List ℕ) where
  abbrev part : ℕ → List Float
  part k = take k (drop (i * box_length) s)

  one_more : FirstLines v s i t → LineOf v (part (i * box_length + box_length - i * box_length)) (i + 1) t m → FirstLines v s (i + 1) m
  one_more p q n h =
      let k : i * box_length + box_length - i * box_length ≡ box_length = omega arith in
      line_more s i t m (p n h) (subst (λ (j : ℕ). LineOf v (part j) (i + 1) t m) k q n h)

all_lines : (v s : List Float) (c : ℕ) (t : List ℕ) → c ≤ slot_count → FirstLines v s c t → LinesOf v s c t
all_lines v s c t few p n h =
    let r = p n h in
    record {
      reasons = r.reasons;
      allowed = r.allowed;
      lines = whole r.added (omega (arith, few, short_lines v n h 1 r.allowed, as_many (record_at box_length s) c));
    }

pub loop-i-init : goal.loop-i-init
loop-i-init c = λ n h. no_line c.args.boxes.now _ (sym c.new-text.ensures)

pub loop-i-preserved : goal.loop-i-preserved
loop-i-preserved c = one_more c.args.volume.now c.args.boxes.now c.loop-i.i _ _ c.loop-i.invariant c.push_box.ensures

pub returns : goal.returns
returns c =
    let g = c.args in
    let e : c.loop-i.i ≡ length g.slots.now = omega arith in
    all_lines g.volume.now g.boxes.now (length g.slots.now) _ c.requires.boxes_len.1 (subst (λ (k : ℕ). FirstLines g.volume.now g.boxes.now k c.loop-i.text) e c.loop-i.invariant)
