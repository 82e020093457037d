-- The bits of the number that the code of this crate writes out are those of its rounded value, by computation. Assumes nothing.
use mathlib.Core.Path.{◌≡◌, refl}
use lib.Count.{count_trailing_zeros}
use lib.Ieee.{binary64, of_bits, round, units, odd, size, span, climb}
use Rattle.camera.specs.Camera.{camera_unit}

pub unit_bits : of_bits binary64 0x3fb9_9999_9999_999a ≡ camera_unit
unfolding of_bits round units odd size span climb count_trailing_zeros
unit_bits = refl
