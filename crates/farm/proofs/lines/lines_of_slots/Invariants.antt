-- The lines of the slots passed are in the text.
use mathlib.Core.List.{[], map}
use lib.ListN.{take}
use Rattle.farm.specs.Text.{lines_from, Added}
use Rattle.farm.specs.Lines.{line}
use Rattle.farm.specs.Steps.{is_yes}
use Rattle.farm.proofs.lines.lines_of_slots.Given as goal

abbrev pub invariant-loop-i : goal.invariant-loop-i
invariant-loop-i l = Added [] (lines_from line 1 (map is_yes (take l.i l.slots))) l.text
