-- `Placement::of` meets its contract: whole numbers of the grid are small. Assumes nothing.
use mathlib.Core.Path.{sym, subst}
use Rattle.placed.specs.Steps.{BoxNumbers}
use Rattle.placed.proofs.Calls.{box_numbers_lem}
use Rattle.placed.proofs.placement.Placement.of.Goals as goal

pub invariant_of-result : goal.invariant_of-result
invariant_of-result c =
    let h = c.in_ok-load.ensures in
    record { small = subst BoxNumbers (sym h.1) (box_numbers_lem c.args.bbox.now c.requires h.0) }
