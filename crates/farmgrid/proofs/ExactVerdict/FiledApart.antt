-- Where the filed verdict on a box and the exact one part, computed from the definitions; that nothing is shared in the first is one comparison of three bounds.
-- Assumes nothing.
use mathlib.Core.Path.{refl}
use native.Mathlib.Omega.{arith}
use lib.Count.{count_trailing_zeros}
use lib.Dec.{lit<}
use lib.IntN.{pos, negsuc, ◌*ℤ◌}
use lib.Signed.{◌≤ℤ◌}
use lib.Ieee.{to_unsigned, add, sub, mul, div, neg, lt, le, eq, is_nan, round, sum, units, odd, size, span, climb}
use Rattle.number.specs.Every.{every}
use Rattle.number.specs.Arithmetic.{abs_of, min_of, max_of}
use Rattle.number.specs.Root.{sqrt_of}
use Rattle.number.specs.Tabulate.{tabulate}
use Rattle.matrix.specs.Vec.{length_of, normalized}
use Rattle.matrix.specs.Inverse.{adjugate, determinant, inverse_above}
use Rattle.matrix.specs.Range.{is_empty}
use Rattle.whole.specs.SegmentCall.{planes_of}
use Rattle.whole.proofs.Integer.{of_self as self, of_pos, of_le, ◌⊞◌, ◌⊟◌, ◌⊠◌}
use Rattle.exact.specs.ExactPoint.{BoxInView}
use Rattle.exact.specs.BBoxCall.{low_corner, high_corner}
use Rattle.verdict.specs.Plane.{offset, end_toward, reaches_positive_side}
use Rattle.verdict.specs.View.{plane_count_of, planes_held}
use Rattle.verdict.specs.Frustum.{box_in_view}
use Rattle.verdict.specs.FrustumCalls.{have_lengths, verdict_after, verdict_by, intersects_box_call}
use Rattle.farmgrid.specs.FarmGrid.{exactly}
use Rattle.farmgrid.specs.FiledApart.{wedge, beside, corner_cut, touching, FiledApart}
use Rattle.farmgrid.proofs.Placements.Singles.{three}

-- y is at least 3, x at least y, and x at most 2
none_shared : ¬ BoxInView (planes_of wedge 6) (low_corner beside) (high_corner beside)
unfolding tabulate
none_shared v =
    let X = v.point in
    let x = X.numbers 0 in
    let y = X.numbers 1 in
    let z = X.numbers 2 in
    let k = of_pos X.k in
    let first = (of_le (of_pos 0) (of_pos 1 ⊠ self x ⊞ self (negsuc 0) ⊠ self y ⊞ of_pos 0 ⊠ self z ⊟ k ⊠ of_pos 0)).0 v.seen.0.side in
    let last = (of_le (of_pos 0) (self (negsuc 0) ⊠ self x ⊞ of_pos 0 ⊠ self y ⊞ of_pos 0 ⊠ self z ⊟ k ⊠ self (negsuc 1))).0 v.seen.1.1.1.1.1.0.side in
    let least = (of_le (k ⊠ of_pos 3) (self y)).0 (v.held.least 1 (lit< tt)) in
    omega (arith, first, last, least, X.some)

-- 0,0,3
corner_shared : BoxInView (planes_of corner_cut 6) (low_corner touching) (high_corner touching)
unfolding tabulate
corner_shared = record {
  point = exactly (low_corner touching);
  held = record {
    least = three (λ j. (pos 1 *ℤ low_corner touching j) ≤ℤ low_corner touching j) (record { le = tt }) (record { le = tt }) (record { le = tt });
    greatest = three (λ j. low_corner touching j ≤ℤ (pos 1 *ℤ high_corner touching j)) (record { le = tt }) (record { le = tt }) (record { le = tt });
  };
  seen = (
    record { side = record { le = tt } },
    (
      record { side = record { le = tt } },
      (
        record { side = record { le = tt } },
        (record { side = record { le = tt } }, (record { side = record { le = tt } }, (record { side = record { le = tt } }, tt))),
      ),
    ),
  );
}

pub filed_apart : FiledApart
unfolding have_lengths verdict_after verdict_by intersects_box_call plane_count_of planes_held every box_in_view tabulate offset end_toward reaches_positive_side is_empty adjugate determinant inverse_above length_of normalized sqrt_of abs_of min_of max_of to_unsigned add sub mul div neg lt le eq is_nan round sum units odd size span climb count_trailing_zeros
filed_apart = record { yes = refl; unseen = none_shared; no_yes = refl; seen = corner_shared; other = refl }
