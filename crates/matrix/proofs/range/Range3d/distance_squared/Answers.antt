-- `Range3d::distance_squared` meets its contract: along each axis by that of `span_distance_squared`. Assumes nothing.
use Rattle.matrix.specs.Range.{distance_squared}
use Rattle.matrix.proofs.range.Range3d.distance_squared.Goals as goal

pub returns : goal.returns
unfolding distance_squared
returns c = rw (c.span_distance_squared.ensures, c.span_distance_squared-2.ensures, c.span_distance_squared-3.ensures)
