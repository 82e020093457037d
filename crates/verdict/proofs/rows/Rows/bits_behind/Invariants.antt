-- `Rows::bits_behind` meets its contract: the bits are those of the planes passed. Assumes nothing.
use Rattle.std.proofs.Common.{◌≡◌, ℕ, Bool, not, List}
use lib.Ieee.{Float}
use Rattle.matrix.specs.declared.matrix.Mat4d.{Mat4d}
use Rattle.matrix.specs.declared.range.Range3d.{Range3d}
use Rattle.verdict.specs.Plane.{reaches_positive_side, under_inverse_transpose}
use Rattle.verdict.specs.Rows.{plane_in_rows}
use Rattle.verdict.proofs.PlanesBehind.{bits}
use Rattle.verdict.proofs.rows.Rows.bits_behind.Given as goal

-- the range is behind plane i once a matrix has carried it
abbrev pub behind : List Float → Mat4d → Range3d → ℕ → Bool
behind l m r i = not (reaches_positive_side (under_inverse_transpose m (plane_in_rows l i)) r)

abbrev pub invariant-loop-i : goal.invariant-loop-i
invariant-loop-i l = l.bits ≡ bits (behind l.self.numbers l.space.into l.space.range) l.i
