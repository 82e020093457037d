-- `Mat4d::transform` meets its contract: the point moved, times the reciprocal of its divisor. Assumes nothing.
use mathlib.Core.Path.{◌≡◌, ◌∙◌, ap}
use lib.Ieee.{Float, binary64, of_bits}
use Rattle.number.specs.Arithmetic.{◌⊕◌, ◌⊘◌}
use Rattle.matrix.specs.declared.vec.Vec3d.{Vec3d}
use Rattle.matrix.specs.declared.matrix.Mat4d.{Mat4d}
use Rattle.matrix.specs.Vec.{axis4, dot, vec3, multiple}
use Rattle.matrix.specs.Transform.{affine, moved, divisor, transformed}
use Rattle.matrix.proofs.Literals.{one_bits}
use Rattle.matrix.proofs.matrix.Mat4d.transform.Goals as goal

done : (m : Mat4d) (p q r : Vec3d) (w d : Float) → r ≡ multiple q (of_bits binary64 0x3ff0_0000_0000_0000 ⊘ d) → q ≡ affine m p → d ≡ divisor w → w ≡ moved m p 3
    → r ≡ transformed m p
unfolding transformed
done m p q r w d i j k l = rw (i, one_bits, j, k, l)

pub returns : goal.returns
returns c =
    let p = c.args.p in
    done _ _ _ _ _ _ c.scale.ensures c.transform_affine.ensures c.divisor.ensures
    (c.moved-w.ensures ∙ ap (λ (t : Mat4d). dot p (vec3 (axis4 t.r3)) ⊕ t.r3.w) c.transpose.ensures)
