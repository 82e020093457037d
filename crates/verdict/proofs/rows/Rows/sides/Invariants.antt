-- `Rows::sides` meets its contract: the bits are those of the planes passed. Assumes nothing.
use Rattle.std.proofs.Common.{◌≡◌, drop}
use Rattle.verdict.specs.Rows.{planes_in_rows}
use Rattle.verdict.specs.Steps.Passes.{sides_of}
use Rattle.verdict.proofs.rows.Rows.sides.Given as goal

abbrev pub invariant-loop-i : goal.invariant-loop-i
invariant-loop-i l = l.sides ≡ sides_of (drop l.i (planes_in_rows l.self.numbers l.self.count)) l.p
