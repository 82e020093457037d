-- The numbers that the code writes out for the cube are those of the definition's, by computation. Assumes nothing.
use Rattle.std.proofs.Common.{◌≡◌, refl}
use lib.Count.{count_trailing_zeros}
use lib.Ieee.{of_bits, neg, round, units, odd, size, span, climb}
use Rattle.verdict.specs.Marked.{cube}
use Rattle.casebook.specs.declared.TheConstants.{CUBE}

pub the_cube : CUBE ≡ cube
unfolding of_bits neg round units odd size span climb count_trailing_zeros
the_cube = refl
