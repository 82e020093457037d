-- `Boxes::combine` meets its contract: the box so far and the records left decide. Assumes nothing.
use mathlib.Core.Path.{◌≡◌, refl, sym, ap, ◌∙◌}
use mathlib.Core.List.{List, [], ◌∷◌}
use native.Mathlib.Omega.{arith}
use Rattle.number.specs.Limits.{box_length}
use lib.ListN.{drop}
use lib.Ieee.{Float}
use Rattle.number.specs.Records.{record_at, records}
use Rattle.number.proofs.Tabulate.{next, none}
use Rattle.verdict.specs.BBox.{box_of, combined}
use Rattle.verdict.specs.declared.bbox.BBox3d.{BBox3d}
use Rattle.group.specs.Group.{combined_with}
use Rattle.group.proofs.group.Boxes.combine.Goals as goal

one_more : (left rest : List (List Float)) (s : List Float) → left ≡ s ∷ rest → (b c : BBox3d) → c ≡ combined b (box_of s) → combined_with c rest ≡ combined_with b left
unfolding combined_with
one_more left rest s next b c e = ap (λ (x : BBox3d). combined_with x rest) e ∙ sym (ap (combined_with b) next)

no_more : (left : List (List Float)) → left ≡ [] → (b : BBox3d) → b ≡ combined_with b left
unfolding combined_with
no_more left none b = sym (ap (combined_with b) none)

pub loop-i-init : goal.loop-i-init
loop-i-init c =
    let a = c.args.self in
    let e = c.from_record-group.ensures ∙ ap box_of c.«record».ensures in
    ap (λ (b : BBox3d). combined_with b (drop 1 (records box_length a.count a.numbers.now))) e

pub loop-i-preserved : goal.loop-i-preserved
loop-i-preserved c =
    let l = c.loop-i in
    let a = c.args.self in
    let e = c.from_record.ensures ∙ ap box_of c.record-in-loop-i.ensures in
    one_more _ _ _ (next (record_at box_length a.numbers.now) a.count l.i _ (omega arith) refl) _ _ (c.combine-group.ensures ∙ ap (combined l.group) e) ∙ l.invariant

pub returns : goal.returns
returns c =
    let l = c.loop-i in
    let a = c.args.self in
    no_more _ (none (record_at box_length a.numbers.now) a.count l.i (omega arith)) _ ∙ l.invariant
