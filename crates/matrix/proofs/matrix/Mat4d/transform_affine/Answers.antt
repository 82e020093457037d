-- `Mat4d::transform_affine` meets its contract: column by column. Assumes nothing.
use Rattle.std.proofs.Common.{◌∙◌, ap, rules}
use Rattle.number.specs.Arithmetic.{◌⊕◌}
use Rattle.matrix.specs.declared.vec.Vec4d.{Vec4d}
use Rattle.matrix.specs.Vec.{axis4, dot, vec3}
use Rattle.matrix.proofs.matrix.Mat4d.transform_affine.Goals as goal

pub returns : goal.returns
returns c =
    c.first_three.ensures
    ∙ ap (λ (h : Vec4d). vec3 (axis4 h)) (c.by_columns.ensures (λ v. dot c.args.p (vec3 (axis4 v)) ⊕ v.w) (λ v r q. search rules))
