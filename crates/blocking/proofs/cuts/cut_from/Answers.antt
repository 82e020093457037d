-- `cut_from` meets its contract: by the sides that the ends are on. Assumes nothing.
use mathlib.Core.Path.{◌≡◌, refl, sym, ◌∙◌}
use mathlib.Core.Bool.{Bool, true, false}
use lib.Ieee.{Float, div, neg, of_bits}
use Rattle.blocking.specs.Steps.{cut_from}
use Rattle.blocking.proofs.cuts.cut_from.Goals as goal

by : (x y i j : Bool) (end at : Float) → i ≡ x → j ≡ y → cut_from x y end at ≡ cut_from i j end at
by x y i j end at p q = sym (λ t. cut_from (p t) (q t) end at)

pub returns-then-here : goal.returns-then-here
unfolding div neg of_bits
returns-then-here c = let a = c.args in by true a.there a.here a.there a.end a.at c.if-here.true refl

pub returns-then-there : goal.returns-then-there
returns-then-there c =
    let a = c.args in
    c.upper.ensures ∙ by false true a.here a.there a.end a.at c.if-here.false c.if-there.true

pub returns : goal.returns
unfolding div of_bits
returns c = let a = c.args in by false false a.here a.there a.end a.at c.if-here.false c.if-there.false
