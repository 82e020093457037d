-- `Mat4d::transform_dir` meets its contract: column by column. Assumes nothing.
use Rattle.std.proofs.Common.{◌∙◌, ap, rules}
use Rattle.number.specs.Arithmetic.{◌⊕◌, ◌⊗◌}
use Rattle.matrix.specs.declared.vec.Vec4d.{Vec4d}
use Rattle.matrix.specs.Vec.{axis4, vec3}
use Rattle.matrix.proofs.matrix.Mat4d.transform_dir.Goals as goal

pub returns : goal.returns
returns c =
    let a = c.args in
    c.first_three.ensures
    ∙ ap (λ (h : Vec4d). vec3 (axis4 h)) (c.by_columns.ensures (λ v. a.v.x ⊗ v.x ⊕ a.v.y ⊗ v.y ⊕ a.v.z ⊗ v.z) (λ v r p. search rules))
