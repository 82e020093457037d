-- `Range3d::midpoint` meets its contract: by those of `scale` and `add`. Assumes nothing.
use mathlib.Core.Path.{◌≡◌}
use lib.Ieee.{binary64, of_bits}
use Rattle.matrix.specs.declared.vec.Vec3d.{Vec3d}
use Rattle.matrix.specs.declared.range.Range3d.{Range3d}
use Rattle.matrix.specs.Vec.{sum, multiple}
use Rattle.matrix.specs.Range.{midpoint}
use Rattle.matrix.proofs.Literals.{half_bits}
use Rattle.matrix.proofs.range.Range3d.midpoint.Goals as goal

done : (r : Range3d) (a b m : Vec3d) → m ≡ sum a b → a ≡ multiple r.min (of_bits binary64 0x3fe0_0000_0000_0000)
    → b ≡ multiple r.max (of_bits binary64 0x3fe0_0000_0000_0000) → m ≡ midpoint r
done r a b m p q s = rw (p, q, s, half_bits)

pub returns : goal.returns
returns c = done _ _ _ _ c.add.ensures c.scale.ensures c.scale-2.ensures
