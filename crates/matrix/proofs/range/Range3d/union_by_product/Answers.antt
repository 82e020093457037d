-- `Range3d::union_by_product` meets its contract: by the law of two ranges in order, or as a union. Assumes nothing.
use mathlib.Core.Path.{ap, ◌∙◌}
use Rattle.matrix.specs.Range.{union}
use Rattle.matrix.proofs.Ordered.{in_order_lem, joined_in_order}
use Rattle.matrix.proofs.range.Range3d.union_by_product.Goals as goal

pub joined_numbers-requires : goal.joined_numbers-requires
joined_numbers-requires c = in_order_lem _ _ _ c.are_ordered.ensures c.if-are_ordered.true

pub returns-then-are_ordered : goal.returns-then-are_ordered
returns-then-are_ordered c =
    joined_in_order _ _ _ c.are_ordered.ensures c.if-are_ordered.true _ c.joined_numbers.ensures
    ∙ ap (union c.args.self) c.transformed_by_product-moved.ensures

pub returns : goal.returns
returns c =
    c.union.ensures ∙ ap (union c.args.self) c.transformed_by_product-moved.ensures
