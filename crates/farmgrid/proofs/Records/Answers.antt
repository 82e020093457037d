-- What the operations answer on records of the right lengths: the lengths, the flag and the numbers pass their tests, and the result is that of the values. Assumes
-- nothing.
use mathlib.Core.Path.{◌≡◌, sym}
use mathlib.Core.Bool.{true}
use mathlib.Core.List.{List}
use Prim.Native.Nat.{ℕ}
use native.Mathlib.Omega.{arith}
use borrow.Author.Tests.{eq-eqb}
use lib.ListN.{length}
use lib.Ieee.{Float}
use Rattle.number.specs.Limits.{box_length, matrix_length}
use Rattle.number.specs.Answer.{outcome, write, leaving}
use Rattle.number.specs.Every.{every}
use Rattle.number.specs.Slice.{at, all_finite}
use Rattle.matrix.specs.Vec.{vec3_of, coordinates}
use Rattle.matrix.specs.Matrix.{matrix_of, entries, product}
use Rattle.matrix.specs.Range.{bounds}
use Rattle.matrix.specs.Transform.{transformed}
use Rattle.matrix.specs.MatrixCalls.{product_call, transform_call}
use Rattle.verdict.specs.BBox.{box_of, numbers, transformed_box, aligned_range}
use Rattle.verdict.specs.BBoxCalls.{flagged, transform_box_call, aligned_range_call}
use Rattle.verdict.specs.declared.plane.Plane.{Plane}
use Rattle.verdict.specs.View.{planes_held, planes_of}
use Rattle.verdict.specs.Frustum.{point_in_view, segment_in_view, box_in_view, box_in_view_volume}
use Rattle.verdict.specs.FrustumCalls.{have_lengths, verdict_after, intersects_point_call, intersects_segment_call, intersects_box_call, view_volume_call}
use Rattle.verdict.proofs.PlanesHeld.{all_held}
use Rattle.verdict.proofs.VerdictCalls.{point_answered, segment_answered, box_answered}
use Rattle.farmgrid.specs.Records.{VolumeRecord}
use Rattle.farmgrid.proofs.Records.Counts.{count_exact}

-- ---- verdicts

module _ (v : List Float) {n : ℕ} (W : VolumeRecord v n) where
  abbrev planes : List Plane
  planes = planes_of v n

  -- the volume passes its checks
  pub passed : outcome n ≡ planes_held v
  passed =
      let h = W.counted.fewest in
      all_held v (omega (arith, W.numbers)) n (sym ((count_exact (at v 0) n).1 W.counted)) W.numbers

  module _ (f : all_finite v ≡ true) where
    pub point_answer : (p : List Float) → length p ≡ 3 → all_finite p ≡ true → intersects_point_call v p ≡ outcome (point_in_view planes (vec3_of p))
    point_answer = point_answered v n passed f

    pub segment_answer : (p q : List Float) → length p ≡ 3 → length q ≡ 3 → all_finite p ≡ true → all_finite q ≡ true
        → intersects_segment_call v p q ≡ outcome (segment_in_view planes (vec3_of p) (vec3_of q))
    segment_answer = segment_answered v n passed f

    pub box_answer : (b : List Float) → length b ≡ box_length → flagged b ≡ true → all_finite b ≡ true → intersects_box_call v b ≡ outcome (box_in_view planes (box_of b))
    box_answer = box_answered v n passed f

-- by a camera's matrix
pub clip_answer : (b m : List Float) → length b ≡ box_length → length m ≡ matrix_length → flagged b ≡ true → all_finite b ≡ true → all_finite m ≡ true
    → view_volume_call b m ≡ outcome (box_in_view_volume (box_of b) (matrix_of m))
unfolding view_volume_call have_lengths verdict_after every
clip_answer b m h i f j k = rw (eq-eqb _ _ h, eq-eqb _ _ i, f, j, k)

-- ---- operations that write

pub point_moves : (m p out : List Float) → length m ≡ 16 → length p ≡ 3 → length out ≡ 3
    → transform_call m p out ≡ write (coordinates (transformed (matrix_of m) (vec3_of p)))
unfolding transform_call leaving
point_moves m p out h i j = rw (eq-eqb _ _ h, eq-eqb _ _ i, eq-eqb _ _ j)

pub product_writes : (a b out : List Float) → length a ≡ matrix_length → length b ≡ matrix_length → length out ≡ matrix_length
    → product_call a b out ≡ write (entries (product (matrix_of a) (matrix_of b)))
unfolding product_call leaving
product_writes a b out h i j = rw (eq-eqb _ _ h, eq-eqb _ _ i, eq-eqb _ _ j)

pub box_moves : (b m out : List Float) → length b ≡ box_length → length m ≡ 16 → length out ≡ box_length → flagged b ≡ true
    → transform_box_call b m out ≡ write (numbers (transformed_box (box_of b) (matrix_of m)))
unfolding transform_box_call leaving
box_moves b m out h i j f = rw (eq-eqb _ _ h, eq-eqb _ _ i, eq-eqb _ _ j, f)

pub range_writes : (s out : List Float) → length s ≡ box_length → length out ≡ 6 → flagged s ≡ true
    → aligned_range_call s out ≡ write (bounds (aligned_range (box_of s)))
unfolding aligned_range_call leaving
range_writes s out h i f = rw (eq-eqb _ _ h, eq-eqb _ _ i, f)
