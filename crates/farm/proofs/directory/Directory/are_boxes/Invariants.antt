-- `are_boxes` meets its contract: the sections left decide. Assumes nothing.
use mathlib.Core.Path.{◌≡◌}
use mathlib.Core.Bool.{Bool}
use Prim.Native.Nat.{◌*◌}
use lib.Dec.{eqb}
use Rattle.number.specs.Limits.{box_length}
use Rattle.number.specs.Every.{every}
use Rattle.farm.specs.declared.directory.Section.{Section}
use Rattle.farm.specs.FarmFile.{boxes_sized}
use Rattle.farm.proofs.SectionsLeft.{left}
use Rattle.farm.proofs.directory.Directory.are_boxes.Given as goal

abbrev pub test : Section → Bool
test s = eqb s.size (8 * box_length)

abbrev pub invariant-loop-i : goal.invariant-loop-i
invariant-loop-i l = every test (left l.self.file.now l.self.count l.i) ≡ boxes_sized l.self.file.now
