-- `push_places` meets its contract: the place of a bit that is set is a word more. Assumes nothing.
use mathlib.Core.Path.{sym, ap, subst}
use mathlib.Core.Bool.{Bool, cond}
use mathlib.Core.List.{List, [], ◌∷◌, ◌++◌}
use Prim.Native.Nat.{ℕ}
use borrow.Author.Tests.{eq-eqb, ne_eqb}
use Rattle.number.specs.Places.{places_below}
use Rattle.verdict.specs.PlanesMeaning.{is_set}
use Rattle.farm.specs.Text.{decimal, Added}
use Rattle.farm.proofs.Texts.{none_added, added_then, added_meant}
use Rattle.reason.specs.Lines.{place_words}
use Rattle.reason.proofs.Texts.{place_more}
use Rattle.reason.proofs.explain.push_places.Goals as goal
use Rattle.reason.proofs.explain.push_places.Goals.{then-behind, else-behind}

pub loop-place-init : goal.loop-place-init
unfolding place_words places_below
loop-place-init c = none_added c.args.text.now

pub loop-place-preserved : goal.loop-place-preserved
loop-place-preserved c =
    let l = c.loop-place in
    let test = is_set c.args.bits in
    let word : Bool → List ℕ = λ b. cond b (32 ∷ decimal l.place) [] in
    let told : Added l.text (word (test l.place)) c.if-behind.text =
    elim c.if-behind.branch [
      | then-behind w ↦
          subst (λ (t : List ℕ). Added l.text (word (test l.place)) t) (sym w.text-is)
          (added_meant ((32 ∷ []) ++ decimal l.place) _ (sym (ap word (eq-eqb _ _ w.if-behind.true))) (added_then w.push.ensures.added w.push_decimal.ensures.added))
      | else-behind w ↦
          subst (λ (t : List ℕ). Added l.text (word (test l.place)) t) (sym w.text-is)
          (added_meant [] _ (sym (ap word (ne_eqb _ _ w.if-behind.false))) (none_added l.text))
    ] in
    added_meant _ _ (place_more test l.place) (added_then l.invariant told)
