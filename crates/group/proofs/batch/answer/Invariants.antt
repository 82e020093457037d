-- `batch::answer` meets its contract: the slots in front and the boxes left decide. Assumes nothing.
use mathlib.Core.Path.{◌≡◌}
use lib.ListN.{length}
use Rattle.number.specs.Limits.{box_length}
use Rattle.number.specs.Records.{records}
use Rattle.verdict.specs.Rows.{planes_in_rows}
use Rattle.group.specs.Batch.{slots_by}
use Rattle.group.proofs.Slots.{all_slots}
use Rattle.group.proofs.batch.answer.Given as goal

abbrev pub invariant-loop-i : goal.invariant-loop-i
invariant-loop-i l =
    (length l.out ≡ length l.initial.out)
    × (all_slots (planes_in_rows l.rows.numbers l.rows.count) l.boxes.count l.boxes.numbers.now l.out l.i ≡ slots_by (planes_in_rows l.rows.numbers l.rows.count) (records box_length l.boxes.count l.boxes.numbers.now))
