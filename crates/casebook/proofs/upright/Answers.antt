-- `casebook::upright` answers by the definition at its inputs: three numbers are a corner, and the others those of the definition's lists, by computation. Assumes nothing.
use Rattle.std.proofs.Common.{◌≡◌, List, [], ◌∷◌, length, get_or, refl, ap, ◌∙◌, arith, Bool}
use lib.Count.{count_trailing_zeros}
use lib.Ieee.{Float, nan, of_bits, neg, round, units, odd, size, span, climb}
use Rattle.number.specs.Answer.{Outcome}
use Rattle.verdict.specs.Marked.{three, cube, box_record, identity_rows}
use Rattle.verdict.specs.FrustumCalls.{intersects_box_call}
use Rattle.casebook.proofs.upright.Goals as goal

abbrev first_three : List Float → List Float
first_three l = three (get_or l 0 nan) (get_or l 1 nan) (get_or l 2 nan)

corner : (l : List Float) → length l ≡ 3 → first_three l ≡ l
corner [] h = absurd (omega (arith, h))
corner (x ∷ []) h = absurd (omega (arith, h))
corner (x ∷ y ∷ []) h = absurd (omega (arith, h))
corner (x ∷ y ∷ z ∷ []) h = refl
corner (x ∷ y ∷ z ∷ w ∷ l) h = absurd (omega (arith, h))

abbrev answer : List Float → List Float → Outcome Bool
answer least greatest = intersects_box_call cube (box_record least greatest identity_rows)

pub returns : goal.returns
unfolding of_bits neg round units odd size span climb count_trailing_zeros
returns c =
    c.intersects_bbox.ensures
    ∙ (ap (λ (l : List Float). answer l (first_three c.args.greatest)) (corner c.args.least (omega arith)) ∙ ap (answer c.args.least) (corner c.args.greatest (omega arith)))
