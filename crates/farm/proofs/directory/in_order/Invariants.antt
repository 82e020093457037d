-- `directory::in_order` meets its contract: the sections left decide, from the end of the one before. Assumes nothing.
use mathlib.Core.Path.{◌≡◌}
use lib.ListN.{length}
use Rattle.farm.specs.Directory.{sections_from, directory_end, in_order}
use Rattle.farm.proofs.SectionsLeft.{left}
use Rattle.farm.proofs.directory.in_order.Given as goal

abbrev pub invariant-loop-i : goal.invariant-loop-i
invariant-loop-i l = in_order l.from (length l.file) (left l.file l.count l.i) ≡ in_order (directory_end l.count) (length l.file) (sections_from l.file 0 l.count)
