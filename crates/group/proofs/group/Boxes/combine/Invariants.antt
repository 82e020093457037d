-- `Boxes::combine` meets its contract: the box so far and the records left decide. Assumes nothing.
use mathlib.Core.Path.{◌≡◌}
use Rattle.number.specs.Limits.{box_length}
use lib.ListN.{drop}
use Rattle.number.specs.Records.{record_at, records}
use Rattle.verdict.specs.BBox.{box_of}
use Rattle.group.specs.Group.{combined_with}
use Rattle.group.proofs.group.Boxes.combine.Given as goal

abbrev pub invariant-loop-i : goal.invariant-loop-i
invariant-loop-i l =
    combined_with l.group (drop l.i (records box_length l.self.count l.self.numbers.now)) ≡ combined_with (box_of (record_at box_length l.self.numbers.now 0)) (drop 1 (records box_length l.self.count l.self.numbers.now))
