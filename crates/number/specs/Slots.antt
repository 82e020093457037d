-- Slots: whole numbers in front of a lent slice, one for each thing found, and one number in those that are left. Definitions only.
use Rattle.std.specs.Prelude.{ℕ, ◌-◌, List, ◌++◌, length, replicate}

-- "fills unused slots with 4,294,967,295"
abbrev pub unused : ℕ
unused = 4294967295

-- n slots that hold the numbers l
abbrev pub slots_of : ℕ → List ℕ → List ℕ
slots_of n l = l ++ replicate (n - length l) unused
