-- `Projection::from_number` meets its contract by its two tests. Assumes nothing.
use Rattle.std.specs.Prelude.{None, Some}
use mathlib.Core.Path.{◌≡◌}
use mathlib.Core.Bool.{true, false}
use lib.Ieee.{Float, binary64, of_bits, eq}
use Rattle.matrix.proofs.Literals.{zero_bits, one_bits}
use Rattle.projection.specs.declared.projection.Projection.TheVariants.{Perspective, Orthographic}
use Rattle.projection.specs.Projection.{kind_of}
use Rattle.projection.proofs.projection.Projection.from_number.Goals as goal

module _ (k : Float) where
  first : eq k (of_bits binary64 0) ≡ true → Some Perspective ≡ kind_of k
  first t = let u = rw zero_bits at t in rw u

  module _ (t : eq k (of_bits binary64 0) ≡ false) where
    second : eq k (of_bits binary64 0x3ff0_0000_0000_0000) ≡ true → Some Orthographic ≡ kind_of k
    second v = let u = rw zero_bits at t in let w = rw one_bits at v in rw (u, w)

    neither : eq k (of_bits binary64 0x3ff0_0000_0000_0000) ≡ false → None ≡ kind_of k
    neither v = let u = rw zero_bits at t in let w = rw one_bits at v in rw (u, w)

pub returns-then-kind : goal.returns-then-kind
returns-then-kind c = first _ c.if-kind.true

pub returns-then-kind-2 : goal.returns-then-kind-2
returns-then-kind-2 c = second _ c.if-kind.false c.if-kind-2.true

pub returns : goal.returns
returns c = neither _ c.if-kind.false c.if-kind-2.false
