-- The bits of each number that the code of this crate writes out are those of its rounded value, by computation. Assumes nothing.
use Rattle.std.proofs.Common.{◌≡◌, ◌^◌, refl}
use lib.Count.{count_trailing_zeros}
use lib.Ieee.{binary64, of_bits, round, units, odd, size, span, climb}
use Rattle.matrix.specs.Constants.{rounded}
use Rattle.verdict.specs.BBox.{box_epsilon}
use Rattle.verdict.specs.Steps.Filter.{short, long, least_size, most_size, part}

pub millionth_bits : of_bits binary64 0x3eb0_c6f7_a0b5_ed8d ≡ rounded 1 (10 ^ 6)
unfolding of_bits round units odd size span climb count_trailing_zeros
millionth_bits = refl

pub box_epsilon_bits : of_bits binary64 0x3d3c_25c2_6849_7682 ≡ box_epsilon
unfolding of_bits round units odd size span climb count_trailing_zeros
box_epsilon_bits = refl

pub short_bits : of_bits binary64 0x3e11_2e0b_e826_d695 ≡ short
unfolding of_bits round units odd size span climb count_trailing_zeros
short_bits = refl

pub long_bits : of_bits binary64 0x43ab_c16d_674e_c800 ≡ long
unfolding of_bits round units odd size span climb count_trailing_zeros
long_bits = refl

pub least_bits : of_bits binary64 0x2d40_4bd9_8499_0e6f ≡ least_size
unfolding of_bits round units odd size span climb count_trailing_zeros
least_bits = refl

pub most_bits : of_bits binary64 0x529f_6b0f_0929_59c7 ≡ most_size
unfolding of_bits round units odd size span climb count_trailing_zeros
most_bits = refl

pub part_bits : of_bits binary64 0x3da5_fd7f_e179_6495 ≡ part
unfolding of_bits round units odd size span climb count_trailing_zeros
part_bits = refl

pub three_bits : of_bits binary64 0x4008_0000_0000_0000 ≡ rounded 3 1
unfolding of_bits round units odd size span climb count_trailing_zeros
three_bits = refl
