-- Boxes with equal parts are equal. Assumes nothing.
use Rattle.std.proofs.Common.{◌≡◌, Bool}
use Rattle.matrix.specs.declared.matrix.Mat4d.{Mat4d}
use Rattle.matrix.specs.declared.range.Range3d.{Range3d}
use Rattle.verdict.specs.BBox.{box}

pub same_box : {r r' : Range3d} {m m' : Mat4d} {f f' : Bool} → r ≡ r' → m ≡ m' → f ≡ f' → box r m f ≡ box r' m' f'
same_box p q e = cc
