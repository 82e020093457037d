-- `nearest::span_distance_squared` meets its contract: the largest of 0 and two differences is the distance. Assumes nothing.
use mathlib.Core.Path.{◌≡◌, ap, ◌∙◌}
use mathlib.Core.Bool.{false}
use borrow.Author.Rules.{rules}
use lib.Ieee.{Float, binary64, of_bits, lt}
use Rattle.number.specs.Arithmetic.{◌⊖◌, upper_of}
use Rattle.number.specs.Extremes.{Value}
use Rattle.matrix.proofs.Literals.{zero_bits}
use Rattle.matrix.specs.Range.{squared, span_distance_squared}
use Rattle.nearest.proofs.Spans.{along}
use Rattle.nearest.proofs.nearest.span_distance_squared.Goals as goal

found : (p low high m b : Float) → Value p → Value low → Value high → lt high low ≡ false → m ≡ upper_of (of_bits binary64 0) (low ⊖ p) → b ≡ upper_of m (p ⊖ high)
    → squared b ≡ span_distance_squared p low high
found p low high m b u v w n h k =
    ap squared (k ∙ ap (λ (z : Float). upper_of z (p ⊖ high)) (h ∙ ap (λ (z : Float). upper_of z (low ⊖ p)) zero_bits)) ∙ along p low high u v w n

pub returns : goal.returns
returns c =
    let a = c.args in
    found a.p a.min a.max _ _ (search rules) (search rules) (search rules) c.requires c.upper.ensures c.upper-beside.ensures
