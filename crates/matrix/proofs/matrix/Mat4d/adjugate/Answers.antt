-- `Mat4d::adjugate` meets its contract: row by row, from the cofactors of a column. Assumes nothing.
use Rattle.std.proofs.Common.{rules}
use Rattle.matrix.specs.declared.vec.Vec3d.{Vec3d}
use Rattle.matrix.specs.declared.vec.Vec4d.{Vec4d}
use Rattle.matrix.specs.Inverse.{adjugate}
use Rattle.matrix.proofs.Same.{same_matrix}
use Rattle.matrix.proofs.matrix.Mat4d.adjugate.Goals as goal

abbrev yzw : Vec4d → Vec3d
yzw v = record { x = v.y; y = v.z; z = v.w }

abbrev xzw : Vec4d → Vec3d
xzw v = record { x = v.x; y = v.z; z = v.w }

abbrev xyw : Vec4d → Vec3d
xyw v = record { x = v.x; y = v.y; z = v.w }

abbrev xyz : Vec4d → Vec3d
xyz v = record { x = v.x; y = v.y; z = v.z }

pub returns : goal.returns
unfolding adjugate
returns c =
    same_matrix (c.cofactors.ensures yzw (λ v r p. search rules)) (c.cofactors-2.ensures xzw (λ v r p. search rules)) (c.cofactors-3.ensures xyw (λ v r p. search rules))
    (c.cofactors-4.ensures xyz (λ v r p. search rules))
