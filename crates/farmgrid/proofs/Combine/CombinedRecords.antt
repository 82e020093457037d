-- The records that combining makes of records of grid boxes: `combine` of two of them, and `aligned_range` of one, is not refused, and
-- leaves a record again, or the range that the box is placed as. The idea: a box written into its record is read back as it was, its flag
-- a 0 or a 1; the rest is said of boxes. Assumes nothing.
use mathlib.Core.Path.{◌≡◌, refl, sym, ap, subst}
use mathlib.Core.Bool.{true, false}
use mathlib.Core.List.{List}
use Prim.Native.Nat.{ℕ, ◌<◌}
use lib.Dec.{lit≤}
use lib.ListN.{length}
use lib.IntN.{ℤ}
use lib.Ieee.{Float}
use lib.Ieee.Bits.{is_true}
use Rattle.number.specs.Limits.{box_length}
use Rattle.number.specs.Answer.{Reply, write}
use Rattle.farmgrid.specs.Whole.{Whole}
use Rattle.matrix.specs.Vec.{axis}
use Rattle.matrix.specs.Range.{bounds, range_of}
use Rattle.matrix.specs.declared.range.Range3d.{Range3d}
use Rattle.farmgrid.specs.Placement.{WholeRange}
use Rattle.farmgrid.proofs.Placements.QuarterTurns.{widen, widen_placement}
use Rattle.farmgrid.proofs.Placements.WholeRanges.{transformed_whole}
use Rattle.verdict.specs.declared.bbox.BBox3d.{BBox3d}
use Rattle.verdict.specs.BBox.{numbers, box_of, aligned_range, combined}
use Rattle.verdict.specs.BBoxCalls.{flagged, combine_call, aligned_range_call}
use Rattle.group.proofs.Written.{flag_read, combine_writes}
use Rattle.placed.specs.Placement.{WholeBox}
use Rattle.farmgrid.specs.Records.{BoxRecord, Accepted}
use Rattle.farmgrid.proofs.Records.Answers.{range_writes}
use Rattle.farmgrid.proofs.Combine.Extents.{Extent, join}
use Rattle.farmgrid.proofs.Combine.CombinedBoxes.{Holds, extent_of, box_holds, combined_holds}

-- the record s is of a box that is placed as the extent e
pub record Stands (s : List Float) (e : Extent) : Type 0 where
  pub numbers : length s ≡ box_length
  pub flag : flagged s ≡ true
  pub holds : Holds (box_of s).range (box_of s).matrix e

pub grid_stands : {s : List Float} {B : WholeBox} → BoxRecord s B → Stands s (extent_of B)
grid_stands {s} {B} h = record { numbers = h.numbers; flag = is_true (flagged s) h.flag; holds = box_holds h.box }

-- ---- a box in its record

pub written : (b : BBox3d) {e : Extent} → Holds b.range b.matrix e → Stands (numbers b) e
written b h = record { numbers = refl; flag = flag_read b.flag; holds = h }

-- ---- the calls

-- `combine` of two records, in a slice of its record's length
module _ {a b : List Float} {e f : Extent} (A : Stands a e) (B : Stands b f) (out : List Float) (room : length out ≡ box_length) where
  writes : combine_call a b out ≡ write (numbers (combined (box_of a) (box_of b)))
  writes = combine_writes a b out A.numbers B.numbers room A.flag B.flag

  pub combine_accepted : Accepted (combine_call a b out) (λ s. length s ≡ box_length)
  combine_accepted = subst (λ (r : Reply Float). Accepted r (λ s. length s ≡ box_length)) (sym writes) (record { status = refl; left = refl })

  pub combine_stands : Stands (combine_call a b out).out (join e f)
  combine_stands = subst (λ (r : Reply Float). Stands r.out (join e f)) (sym writes)
      (written (combined (box_of a) (box_of b)) (combined_holds (box_of a) (box_of b) A.holds B.holds))

-- `aligned_range` of one
same_range : {r : Range3d} {low high low' high' : ℕ → ℤ} → WholeRange r low high → ((j : ℕ) → j < 3 → low j ≡ low' j)
    → ((j : ℕ) → j < 3 → high j ≡ high' j) → WholeRange r low' high'
same_range {r} R p q = record {
  min = record { at = λ j h. subst (Whole (axis r.min j)) (p j h) (R.min.at j h) };
  max = record { at = λ j h. subst (Whole (axis r.max j)) (q j h) (R.max.at j h) };
}

pub range_whole : {s : List Float} {e : Extent} → Stands s e → WholeRange (aligned_range (box_of s)) (e false) (e true)
range_whole S =
    let H = S.holds in
    same_range
    (transformed_whole H.matrix_is (widen_placement (lit≤ tt) H.placement) H.range_is (widen (lit≤ tt) H.low_size)
    (widen (lit≤ tt) H.high_size) H.some)
    (H.extent false) (H.extent true)

module _ {s : List Float} {e : Extent} (S : Stands s e) (out : List Float) (room : length out ≡ 6) where
  pub range_is : aligned_range_call s out ≡ write (bounds (aligned_range (box_of s)))
  range_is = range_writes s out S.numbers room S.flag

  pub range_status : (aligned_range_call s out).status ≡ 0
  range_status = ap (λ (r : Reply Float). r.status) range_is

  pub range_numbers : length (aligned_range_call s out).out ≡ 6
  range_numbers = ap (λ (r : Reply Float). length r.out) range_is

  pub range_exact : WholeRange (range_of (aligned_range_call s out).out) (e false) (e true)
  range_exact = subst (λ (r : Reply Float). WholeRange (range_of r.out) (e false) (e true)) (sym range_is) (range_whole S)
