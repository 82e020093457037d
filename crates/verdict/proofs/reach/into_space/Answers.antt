-- `reach::into_space` meets its contract: by its test of the inverse. Assumes nothing.
use Rattle.std.proofs.Common.{◌≡◌, true, false, sym, ◌∙◌}
use lib.Count.{count_trailing_zeros}
use lib.Ieee.{of_bits, round, units, odd, size, span, climb}
use Rattle.matrix.specs.Matrix.{identity, transpose}
use Rattle.verdict.specs.BBox.{is_degenerate}
use Rattle.verdict.specs.Frustum.{into_space_of}
use Rattle.verdict.specs.declared.bbox.BBox3d.{BBox3d}
use Rattle.verdict.proofs.reach.into_space.Goals as goal

degenerate : (b : BBox3d) → is_degenerate b ≡ true → identity ≡ into_space_of b
degenerate b e = rw e

invertible : (b : BBox3d) → is_degenerate b ≡ false → transpose b.matrix ≡ into_space_of b
invertible b e = rw e

pub returns-then-is_degenerate : goal.returns-then-is_degenerate
unfolding of_bits round units odd size span climb count_trailing_zeros
returns-then-is_degenerate c =
    let b = c.args.b in
    degenerate b (sym c.is_degenerate.ensures ∙ c.if-is_degenerate.true)

pub returns : goal.returns
returns c =
    let b = c.args.b in
    c.transpose.ensures ∙ invertible b (sym c.is_degenerate.ensures ∙ c.if-is_degenerate.false)
