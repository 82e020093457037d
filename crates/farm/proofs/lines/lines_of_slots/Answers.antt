-- `lines_of_slots` meets its contract: a line more for each slot, and room for all. Assumes nothing.
use mathlib.Core.Path.{◌≡◌, sym, ap, subst, ◌∙◌}
use mathlib.Core.List.{List, [], ◌∷◌, ◌++◌, map, map-append}
use Prim.Native.Nat.{ℕ, ◌+◌, ◌<◌}
use native.Mathlib.Numerals.{add-one}
use native.Mathlib.Omega.{arith}
use lib.ListN.{length, length-map, take, get_or}
use lib.Seq.{take-suc, length-take-le, take-length}
use Rattle.farm.specs.Text.{lines_from, Added}
use Rattle.farm.specs.Lines.{line}
use Rattle.farm.specs.Steps.{is_yes}
use Rattle.farm.proofs.Texts.{none_added, added_then, added_meant, whole, lines_more, short_lines}
use Rattle.farm.proofs.lines.lines_of_slots.Goals as goal

module _ (s : List ℕ) where
  abbrev lines : ℕ → List ℕ
  lines i = lines_from line 1 (map is_yes (take i s))

  next_line : (i : ℕ) → i < length s → lines i ++ line (i + 1) (is_yes (get_or s i 0)) ≡ lines (i + 1)
  next_line i h =
      let v = is_yes (get_or s i 0) in
      let e : 1 + length (map is_yes (take i s)) ≡ i + 1 = omega (arith, length-map (take i s) is_yes, length-take-le i s (omega arith)) in
      sym
      (ap lines (add-one i) ∙ ap (λ (l : List ℕ). lines_from line 1 (map is_yes l)) (take-suc s i 0 h)
      ∙ ap (lines_from line 1) (map-append is_yes (take i s) (get_or s i 0 ∷ [])) ∙ lines_more line 1 (map is_yes (take i s)) v ∙ ap (λ (k : ℕ). lines i ++ line k v) e)

pub loop-i-init : goal.loop-i-init
unfolding lines_from
loop-i-init c = subst (λ (t : List ℕ). Added [] [] t) (sym c.new-text.ensures) (none_added [])

pub loop-i-preserved : goal.loop-i-preserved
loop-i-preserved c =
    let l = c.loop-i in
    added_meant _ _ (next_line c.args.slots.now l.i (omega arith)) (added_then l.invariant c.push_line.ensures)

pub returns : goal.returns
returns c =
    let s = c.args.slots.now in
    let e : c.loop-i.i ≡ length s = omega arith in
    let all = added_meant _ _ (ap (lines s) e ∙ ap (λ (l : List ℕ). lines_from line 1 (map is_yes l)) (take-length s)) c.loop-i.invariant in
    whole all (omega (arith, short_lines 1 (map is_yes s), length-map s is_yes, c.requires))
