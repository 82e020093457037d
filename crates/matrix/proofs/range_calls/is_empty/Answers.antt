-- `range_calls::is_empty` meets its contract: the length by its test, the verdict by those along the axes. Assumes nothing.
use mathlib.Core.Path.{◌≡◌, refl}
use mathlib.Core.Bool.{Bool, true, false}
use borrow.Author.Tests.{eq-eqb, ne_eqb}
use lib.Ieee.{Float, lt}
use Rattle.number.proofs.Ways.{no_answer, answered}
use Rattle.matrix.specs.RangeCalls.{is_empty_call}
use Rattle.matrix.proofs.Emptiness.{by_axes}
use Rattle.matrix.proofs.range_calls.is_empty.Goals as goal

-- a test along an axis, of numbers as they were read
read : (low high least greatest : Float) (b : Bool) → low ≡ least → high ≡ greatest → lt high low ≡ b → lt greatest least ≡ b
read low high least greatest b p q t = rw (p, q) at t

pub returns-then-at : goal.returns-then-at
unfolding is_empty_call
returns-then-at c =
    answered _ _ _ _ (eq-eqb _ _ c.if-range-ne-RANGE_LENGTH.false) (by_axes _ true _ _ (read _ _ _ _ _ c.at.ensures c.at-2.ensures c.if-at.true) refl refl)

pub returns-then-at-2 : goal.returns-then-at-2
unfolding is_empty_call
returns-then-at-2 c =
    answered _ _ _ _ (eq-eqb _ _ c.if-range-ne-RANGE_LENGTH.false) (by_axes _ false true _ (read _ _ _ _ _ c.at.ensures c.at-2.ensures c.if-at.false) (read _ _ _ _ _ c.at-3.ensures c.at-4.ensures c.if-at-2.true) refl)

pub returns-then-at-3 : goal.returns-then-at-3
unfolding is_empty_call
returns-then-at-3 c =
    answered _ _ _ _ (eq-eqb _ _ c.if-range-ne-RANGE_LENGTH.false) (by_axes _ false false _ (read _ _ _ _ _ c.at.ensures c.at-2.ensures c.if-at.false) (read _ _ _ _ _ c.at-3.ensures c.at-4.ensures c.if-at-2.false) (read _ _ _ _ _ c.at-5.ensures c.at-6.ensures c.if-at-3.true))

pub returns : goal.returns
unfolding is_empty_call
returns c =
    answered _ _ _ _ (eq-eqb _ _ c.if-range-ne-RANGE_LENGTH.false) (by_axes _ false false _ (read _ _ _ _ _ c.at.ensures c.at-2.ensures c.if-at.false) (read _ _ _ _ _ c.at-3.ensures c.at-4.ensures c.if-at-2.false) (read _ _ _ _ _ c.at-5.ensures c.at-6.ensures c.if-at-3.false))

pub returns-then-range-ne-RANGE_LENGTH : goal.returns-then-range-ne-RANGE_LENGTH
unfolding is_empty_call
returns-then-range-ne-RANGE_LENGTH c = no_answer _ _ _ (ne_eqb _ _ c.if-range-ne-RANGE_LENGTH.true)
