-- `range::span_distance_squared` meets its contract by its two tests. Assumes nothing.
use mathlib.Core.Path.{◌≡◌, ◌∙◌}
use mathlib.Core.Bool.{true, false}
use lib.Ieee.{Float, lt}
use Rattle.number.specs.Arithmetic.{◌⊖◌}
use Rattle.matrix.specs.Constants.{positive_zero}
use Rattle.matrix.specs.Range.{span_distance_squared, squared}
use Rattle.matrix.proofs.Literals.{zero_bits}
use Rattle.matrix.proofs.range.span_distance_squared.Goals.{then-p-max, else-p-max}
use Rattle.matrix.proofs.range.span_distance_squared.Goals as goal

module _ (p low high : Float) where
  before : lt p low ≡ true → squared (low ⊖ p) ≡ span_distance_squared p low high
  unfolding span_distance_squared
  before t = rw t

  beyond : lt p low ≡ false → lt high p ≡ true → squared (p ⊖ high) ≡ span_distance_squared p low high
  unfolding span_distance_squared
  beyond t u = rw (t, u)

  within : lt p low ≡ false → lt high p ≡ false → positive_zero ≡ span_distance_squared p low high
  unfolding span_distance_squared
  within t u = rw (t, u)

pub returns-then-p-min : goal.returns-then-p-min
returns-then-p-min c = before _ _ _ c.if-p-min.true

pub returns-else-p-min : goal.returns-else-p-min
returns-else-p-min c = elim c.if-p-max.branch [
  | then-p-max w ↦ w.found-is ∙ beyond _ _ _ c.if-p-min.false w.if-p-max.true
  | else-p-max w ↦ w.found-is ∙ zero_bits ∙ within _ _ _ c.if-p-min.false w.if-p-max.false
]
