-- `range_calls::union` meets its contract: the lengths by its tests, the result by what it calls. Assumes nothing.
use mathlib.Core.Path.{refl, ap, ap₂, ◌∙◌}
use borrow.Author.Tests.{eq-eqb, ne_eqb}
use Rattle.matrix.specs.Range.{bounds, union}
use Rattle.matrix.specs.RangeCalls.{union_call}
use Rattle.number.specs.Answer.{write}
use Rattle.number.proofs.Ways.{both, no_input, no_room, written}
use Rattle.matrix.proofs.Ordered.{in_order_lem, joined_in_order}
use Rattle.matrix.proofs.range_calls.union.Goals as goal

pub joined_numbers-requires : goal.joined_numbers-requires
joined_numbers-requires c = in_order_lem _ _ _ c.are_ordered.ensures c.if-are_ordered.true

pub returns-then-are_ordered : goal.returns-then-are_ordered
unfolding union_call
returns-then-are_ordered c =
    written _ _ _ _ _ _ (both (eq-eqb _ _ c.if-a-ne-RANGE_LENGTH.false) (eq-eqb _ _ c.if-b-ne-RANGE_LENGTH.false)) c.if-out-ne-RANGE_LENGTH.false refl c.store.ensures
    (ap write (ap bounds (joined_in_order _ _ _ c.are_ordered.ensures c.if-are_ordered.true _ c.joined_numbers.ensures
    ∙ ap₂ union c.load-first.ensures c.load-second.ensures)))

pub returns : goal.returns
unfolding union_call
returns c =
    written _ _ _ _ _ _ (both (eq-eqb _ _ c.if-a-ne-RANGE_LENGTH.false) (eq-eqb _ _ c.if-b-ne-RANGE_LENGTH.false)) c.if-out-ne-RANGE_LENGTH.false refl c.store-2.ensures
    (ap write (ap bounds (c.union.ensures ∙ ap₂ union c.load-first.ensures c.load-second.ensures)))

pub returns-then-a-ne-RANGE_LENGTH : goal.returns-then-a-ne-RANGE_LENGTH
unfolding union_call
returns-then-a-ne-RANGE_LENGTH c = no_input _ _ _ _ (both (ne_eqb _ _ c.if-a-ne-RANGE_LENGTH.true) refl)

pub returns-then-b-ne-RANGE_LENGTH : goal.returns-then-b-ne-RANGE_LENGTH
unfolding union_call
returns-then-b-ne-RANGE_LENGTH c = no_input _ _ _ _ (both (eq-eqb _ _ c.if-a-ne-RANGE_LENGTH.false) (ne_eqb _ _ c.if-b-ne-RANGE_LENGTH.true))

pub returns-then-out-ne-RANGE_LENGTH : goal.returns-then-out-ne-RANGE_LENGTH
unfolding union_call
returns-then-out-ne-RANGE_LENGTH c = no_room _ _ _ _ (both (eq-eqb _ _ c.if-a-ne-RANGE_LENGTH.false) (eq-eqb _ _ c.if-b-ne-RANGE_LENGTH.false)) c.if-out-ne-RANGE_LENGTH.true
