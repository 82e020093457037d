-- The bits of the number that the code of this crate writes out are those of its rounded value, by computation. Assumes nothing.
use mathlib.Core.Path.{◌≡◌, refl}
use lib.Count.{count_trailing_zeros}
use lib.Ieee.{binary64, of_bits, round, units, odd, size, span, climb}
use Rattle.projection.specs.Projection.{tolerance}

pub tolerance_bits : of_bits binary64 0x3eb0_c6f7_a0b5_ed8d ≡ tolerance
unfolding of_bits round units odd size span climb count_trailing_zeros
tolerance_bits = refl
