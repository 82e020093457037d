-- `Mat4d::row_product` meets its contract by computation, since its literal is the positive zero. Assumes nothing.
use mathlib.Core.Path.{ap}
use lib.Ieee.{Float}
use Rattle.number.specs.Arithmetic.{◌⊕◌, ◌⊗◌}
use Rattle.matrix.specs.declared.vec.Vec4d.{Vec4d}
use Rattle.matrix.specs.declared.matrix.Mat4d.{Mat4d}
use Rattle.matrix.specs.Vec.{vec4}
use Rattle.matrix.specs.Matrix.{entry}
use Rattle.matrix.proofs.Literals.{zero_bits}
use Rattle.matrix.proofs.matrix.Mat4d.row_product.Goals as goal

-- a row times a matrix, added to z
abbrev from : Mat4d → Vec4d → Float → Vec4d
from m v z = vec4 (λ j. z ⊕ v.x ⊗ entry m 0 j ⊕ v.y ⊗ entry m 1 j ⊕ v.z ⊗ entry m 2 j ⊕ v.w ⊗ entry m 3 j)

pub returns : goal.returns
returns c = ap (from _ _) zero_bits
