-- `Range3d::transformed` meets its contract: an empty range by its test, any other by its corners, which one comparison settles or `transformed_signed` has.
-- Assumes nothing.
use Rattle.number.specs.Arithmetic.{lower_of, upper_of}
use Rattle.matrix.proofs.Composed.{stays, moves}
use Rattle.matrix.proofs.Settled.{found_moved}
use Rattle.matrix.proofs.range.Range3d.transformed.Goals as goal

pub returns-then-is_empty : goal.returns-then-is_empty
returns-then-is_empty c = stays _ _ _ c.is_empty.ensures c.if-is_empty.true

pub returns-then-is_settled : goal.returns-then-is_settled
returns-then-is_settled c =
    moves _ _ _ c.is_empty.ensures _ c.if-is_empty.false
    (found_moved _ c.args.matrix _ _ _ _ c.is_settled.ensures c.if-is_settled.true c.extract_translation.ensures
    (c.reached.ensures lower_of (λ x y r p. p)) (c.reached-2.ensures upper_of (λ x y r p. p)))

pub returns : goal.returns
returns c =
    moves _ _ _ c.is_empty.ensures _ c.if-is_empty.false c.transformed_signed.ensures
