-- `Vec3d::unit` meets its contract: what it calls gives the factor. Assumes nothing.
use mathlib.Core.Path.{◌≡◌}
use lib.Ieee.{Float, binary64, of_bits}
use Rattle.number.specs.Arithmetic.{◌⊘◌, max_of}
use Rattle.matrix.specs.declared.vec.Vec3d.{Vec3d}
use Rattle.matrix.specs.Vec.{multiple, unit}
use Rattle.matrix.proofs.Literals.{one_bits, min_length_bits}
use Rattle.matrix.proofs.vec.Vec3d.unit.Goals as goal

done : (v u : Vec3d) (l m : Float) → u ≡ multiple v (of_bits binary64 0x3ff0_0000_0000_0000 ⊘ m) → m ≡ max_of l (of_bits binary64 0x3ddb_7cdf_d9d7_bdbb)
    → u ≡ unit v l
done v u l m p q = rw (p, one_bits, q, min_length_bits)

pub returns : goal.returns
returns c = done _ _ _ _ c.scale.ensures c.max.ensures
