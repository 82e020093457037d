-- `rows::gather` meets its contract: the planes passed are put to their places. Assumes nothing.
use Rattle.std.proofs.Common.{◌≡◌, length}
use Rattle.verdict.specs.Rows.{rows_length, with_planes}
use Rattle.verdict.proofs.rows.gather.Given as goal

abbrev pub invariant-loop-i : goal.invariant-loop-i
invariant-loop-i l = (length l.rows ≡ rows_length) × (l.rows ≡ with_planes l.planes.numbers.now l.i l.initial.rows)
