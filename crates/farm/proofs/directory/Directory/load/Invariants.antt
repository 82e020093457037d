-- `load` meets its contract: the numbers taken and those of the sections left make all. Assumes nothing.
use mathlib.Core.Path.{◌≡◌}
use Prim.Native.Nat.{◌≤◌}
use lib.ListN.{length}
use Rattle.farm.specs.Directory.{file_numbers}
use Rattle.farm.proofs.Rooms.{all_numbers_lem}
use Rattle.farm.proofs.directory.Directory.load.Given as goal

abbrev pub invariant-loop-i : goal.invariant-loop-i
invariant-loop-i l =
    (length l.room ≡ length l.initial.room) × (l.taken ≤ length l.room) × (all_numbers_lem l.self.file.now l.self.count l.room l.taken l.i ≡ file_numbers l.self.file.now)
