-- A length of at least 1e-10 is the larger of itself and 1e-10, and the distance of a plane is the quotient by it. Assumes nothing.
use Rattle.std.proofs.Common.{◌≡◌, true, false, T}
use lib.Count.{count_trailing_zeros}
use lib.Ieee.{Float, nan, inf, fin, is_nan, lt, le, eq, neg, round, units, odd, size, span, climb}
use lib.Ieee.Positive.{positive}
use Rattle.number.specs.Arithmetic.{◌⊘◌, precedes, max_of}
use Rattle.number.proofs.Comparisons.{le_through, lt_not_le, eq_le, refuted}
use Rattle.matrix.specs.Constants.{positive_zero, min_length}
use Rattle.verdict.specs.Plane.{offset}

pub larger_is : (x : Float) → T (positive x) → T (le min_length x) → max_of x min_length ≡ x
unfolding max_of precedes is_nan
larger_is nan p h = absurd p
larger_is (inf s) p h = absurd p
larger_is (fin true m e) p h = absurd p
larger_is (fin false m e) p h = rw (refuted (lt (fin false m e) min_length) (λ t. lt_not_le (fin false m e) min_length t h))

least_over_zero : T (lt positive_zero min_length)
unfolding lt round units odd size span climb count_trailing_zeros
least_over_zero = tt

pub offset_is : (w x : Float) → T (le min_length x) → offset w x ≡ neg w ⊘ x
unfolding offset
offset_is w x h = rw (refuted (eq x positive_zero) (λ t. lt_not_le positive_zero min_length least_over_zero (le_through min_length x positive_zero h (eq_le x positive_zero t))))
