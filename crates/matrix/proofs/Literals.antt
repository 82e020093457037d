-- The bits of each number that the code writes out are those of its rounded value, by computation. Assumes nothing.
use mathlib.Core.Path.{◌≡◌, refl}
use lib.Count.{count_trailing_zeros}
use lib.Ieee.{binary64, of_bits, round, units, odd, size, span, climb}
use Rattle.matrix.specs.Constants.{positive_zero, one, half, min_length, singular_determinant}

pub zero_bits : of_bits binary64 0 ≡ positive_zero
unfolding of_bits round units odd size span climb count_trailing_zeros
zero_bits = refl

pub one_bits : of_bits binary64 0x3ff0_0000_0000_0000 ≡ one
unfolding of_bits round units odd size span climb count_trailing_zeros
one_bits = refl

pub half_bits : of_bits binary64 0x3fe0_0000_0000_0000 ≡ half
unfolding of_bits round units odd size span climb count_trailing_zeros
half_bits = refl

pub min_length_bits : of_bits binary64 0x3ddb_7cdf_d9d7_bdbb ≡ min_length
unfolding of_bits round units odd size span climb count_trailing_zeros
min_length_bits = refl

pub singular_bits : of_bits binary64 0x3d71_9799_812d_ea11 ≡ singular_determinant
unfolding of_bits round units odd size span climb count_trailing_zeros
singular_bits = refl
