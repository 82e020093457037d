-- Points and directions through a matrix, each a row from the left, as Gf's documentation has them. Definitions only.
use Rattle.std.specs.Prelude.{ℕ, cond, Float}
use Rattle.std.specs.Float.Ieee.{eq}
use Rattle.number.specs.Arithmetic.{◌⊕◌, ◌⊘◌}
use Rattle.matrix.specs.declared.vec.Vec3d.{Vec3d}
use Rattle.matrix.specs.declared.vec.Vec4d.{Vec4d}
use Rattle.matrix.specs.declared.matrix.Mat4d.{Mat4d}
use Rattle.matrix.specs.Constants.{positive_zero, one}
use Rattle.matrix.specs.Vec.{axis4, vec3, vec4, dot, dot4, multiple}
use Rattle.matrix.specs.Matrix.{entry}

-- the first three numbers of column j
abbrev pub column : Mat4d → ℕ → Vec3d
column m j = vec3 (λ i. entry m i j)

-- the translation has no part in it
abbrev pub direction : Mat4d → Vec3d → Vec3d
direction m v = vec3 (λ j. dot v (column m j))

-- the point's number j, as a homogeneous one whose last number is 1
abbrev pub moved : Mat4d → Vec3d → ℕ → Float
moved m p j = dot p (column m j) ⊕ entry m 3 j

-- the last column has no part in it
abbrev pub affine : Mat4d → Vec3d → Vec3d
affine m p = vec3 (moved m p)

-- "`transform` replaces a w of zero, of either sign, by 1."
unfoldable pub divisor : Float → Float
divisor w = cond (eq w positive_zero) one w

-- divided by the last number, by one rounded reciprocal
unfoldable pub transformed : Mat4d → Vec3d → Vec3d
unfolding divisor
transformed m p = multiple (affine m p) (one ⊘ divisor (moved m p 3))

abbrev pub homogeneous : Mat4d → Vec4d → Vec4d
homogeneous m v = vec4 (λ j. dot4 (axis4 v) (λ i. entry m i j))
