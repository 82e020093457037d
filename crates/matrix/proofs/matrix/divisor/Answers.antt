-- `matrix::divisor` meets its contract by its test. Assumes nothing.
use mathlib.Core.Path.{◌≡◌, ◌∙◌}
use mathlib.Core.Bool.{Bool, true, false, cond}
use lib.Ieee.{Float, binary64, of_bits, eq}
use Rattle.matrix.specs.Constants.{one}
use Rattle.matrix.specs.Transform.{divisor}
use Rattle.matrix.proofs.Literals.{zero_bits, one_bits}
use Rattle.matrix.proofs.matrix.divisor.Goals as goal

by_test : (w : Float) (b : Bool) → eq w (of_bits binary64 0) ≡ b → cond b one w ≡ divisor w
unfolding divisor
by_test w b t = rw (← t, zero_bits)

pub returns-then-w : goal.returns-then-w
returns-then-w c = one_bits ∙ by_test _ true c.if-w.true

pub returns : goal.returns
returns c = by_test _ false c.if-w.false
