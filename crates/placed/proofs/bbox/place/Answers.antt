-- `place` meets its contract: a grid box's corners and turn are small. Assumes nothing.
use mathlib.Core.Path.{sym, ◌∙◌}
use Rattle.placed.proofs.Moved.{placing}
use Rattle.placed.proofs.bbox.place.Goals as goal

pub bounds-requires : goal.bounds-requires
bounds-requires c = placing c.in_ok-placement.placement.small (sym c.quarter_turned.ensures ∙ c.if-not-quarter_turned.false)
