-- `Mat4d::over` meets its contract: by its tests of the determinant. Assumes nothing.
use Rattle.std.specs.Prelude.{None, Some}
use mathlib.Core.Path.{◌≡◌, sym}
use mathlib.Core.Bool.{true, false}
use lib.Ieee.{Float, binary64, of_bits, lt}
use Rattle.number.specs.Arithmetic.{◌⊘◌, abs_of}
use Rattle.number.proofs.Nan.{nan_is}
use Rattle.matrix.specs.declared.matrix.Mat4d.{Mat4d}
use Rattle.matrix.specs.Inverse.{scaled, over}
use Rattle.matrix.proofs.Literals.{one_bits}
use Rattle.matrix.proofs.Composed.{no_number}
use Rattle.matrix.proofs.matrix.Mat4d.over.Goals as goal

module _ (epsilon d a : Float) (i : Mat4d) (q : a ≡ abs_of d) where
  accepted : (s : Mat4d) → lt epsilon a ≡ true → s ≡ scaled i (of_bits binary64 0x3ff0_0000_0000_0000 ⊘ d) → Some s ≡ over epsilon d i
  unfolding over
  accepted s t r = rw (r, one_bits, ← q, t)

  refused : lt epsilon a ≡ false → None ≡ over epsilon d i
  unfolding over
  refused t = rw (← q, t)

pub returns-then-is_nan : goal.returns-then-is_nan
returns-then-is_nan c = no_number _ _ _ (nan_is _ (sym c.if-is_nan.ensures.value))

pub returns-then-abs-epsilon : goal.returns-then-abs-epsilon
returns-then-abs-epsilon c = accepted _ _ _ _ c.abs.ensures _ c.if-abs-epsilon.true c.scaled.ensures

pub returns : goal.returns
returns c = refused _ _ _ _ c.abs.ensures c.if-abs-epsilon.false
