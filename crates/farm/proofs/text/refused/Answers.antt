-- `refused` meets its contract: the word, the number and the line's end, one behind the other. Assumes nothing.
use mathlib.Core.Path.{◌≡◌, ap, subst, ◌∙◌}
use mathlib.Core.List.{List, [], ◌∷◌, ◌++◌}
use Prim.Native.Nat.{ℕ}
use native.Mathlib.Omega.{arith}
use lib.ListN.{length-append}
use Rattle.farm.specs.Text.{decimal, refused_word, refused_line, Added}
use Rattle.farm.proofs.Texts.{added_then, whole, short_decimal}
use Rattle.farm.proofs.text.refused.Goals as goal

line : (n m : ℕ) (l : List ℕ) → n ≡ m → Added [] (refused_word ++ decimal n ++ (10 ∷ [])) l → l ≡ refused_line m
unfolding refused_line
line n m l e p =
    whole p (omega (arith, length-append (refused_word ++ decimal n) (10 ∷ []), length-append refused_word (decimal n), short_decimal n))
    ∙ ap (λ (x : ℕ). refused_word ++ decimal x ++ (10 ∷ [])) e

pub returns : goal.returns
returns c =
    let named = subst (λ (t : List ℕ). Added t refused_word c.push.new.self) c.new-text.ensures c.push.ensures.added in
    line c.from.result _ _ c.from.ensures (added_then (added_then named c.push_decimal.ensures.added) c.push-2.ensures.added)
