-- The exact verdict on boxes from a farm file's numbers: the whole numbers of a view's record are its planes, and those of what `aligned_range` leaves of a box's record
-- are the bounds of the placed box. The idea: a float is one whole number at most. Assumes nothing.
use mathlib.Core.Path.{◌≡◌, sym, subst}
use mathlib.Core.Bool.{Bool, true, false}
use mathlib.Core.List.{List}
use Prim.Native.Nat.{ℕ, zero, suc, ◌+◌, ◌≤◌, ◌<◌}
use native.Mathlib.Omega.{arith}
use lib.Dec.{lit<}
use lib.ListN.{length}
use lib.IntN.{ℤ, nat_abs}
use lib.Ieee.{Float}
use Rattle.number.specs.Limits.{range_length, grid_limit, normal_limit, distance_limit}
use Rattle.number.specs.Tabulate.{tabulate}
use Rattle.whole.specs.Plane.{WholePlane}
use Rattle.whole.specs.SegmentCall.{number_at, plane_start, plane_at as whole_plane_at, planes_of as whole_planes_of, view_length}
use Rattle.exact.specs.ExactPoint.{Every}
use Rattle.verdict.specs.declared.plane.Plane.{Plane}
use Rattle.verdict.specs.View.{plane_at, planes_of}
use Rattle.verdict.specs.BBoxCalls.{aligned_range_call}
use Rattle.placed.specs.Placement.{movedℤ, WholeBox}
use Rattle.farmgrid.specs.Placement.{GridPoint}
use Rattle.farmgrid.specs.FarmGrid.{SegmentPlane, GridBox, IsPlane, ArePlanes, none, more, low_of, high_of}
use Rattle.farmgrid.specs.Records.{ViewRecord, BoxRecord}
use Rattle.farmgrid.specs.WholeNumbers.{FloatsOf, SameView}
use Rattle.farmgrid.specs.ExactBoxes.{SamePlane, SamePlanes, none as no_planes, more as plane_more, ViewOf, BoundsOf, RecordsExact}
use Rattle.farmgrid.proofs.Placements.Singles.{three}
use Rattle.farmgrid.proofs.Placements.PlacedRanges.{placed, placed_is, placed_nonempty}
use Rattle.farmgrid.proofs.Combine.Extents.{extreme_ind}
use Rattle.farmgrid.proofs.Records.BothEngines.{one_whole_number}
use Rattle.farmgrid.proofs.Combine.CombinedRecords.{grid_stands, range_exact}
use Rattle.farmgrid.proofs.ExactVerdict.ExactBoxes.{box_verdict_exact}

-- ---- the planes of a view

segment_alike : {O P : WholePlane} → SamePlane O P → SegmentPlane P → SegmentPlane O
segment_alike {O} {P} s k = record {
  entries = record { size = λ j h. subst (λ (z : ℤ). nat_abs z ≤ normal_limit) (sym (s.normal j h)) (k.entries.size j h) };
  far = subst (λ (z : ℤ). nat_abs z ≤ distance_limit) (sym s.distance) k.far;
}

pub kinds : {Os Ps : List WholePlane} {ps : List Plane} → SamePlanes Os Ps → ArePlanes SegmentPlane ps Ps → Every SegmentPlane Os
kinds no_planes hs = tt
kinds (plane_more s ss) (more h hs) = (segment_alike s h.kind, kinds ss hs)

each : (f : ℕ → Plane) (g : ℕ → WholePlane) (n : ℕ) {Ps : List WholePlane} → ((i : ℕ) (P : WholePlane) → i < n → IsPlane SegmentPlane (f i) P → SamePlane (g i) P)
    → ArePlanes SegmentPlane (tabulate f n) Ps → SamePlanes (tabulate g n) Ps
unfolding tabulate
each f g zero h none = no_planes
each f g (suc n) h (more {P = P} k ks) = plane_more (h 0 P (omega arith) k) (each (λ i. f (suc i)) (λ i. g (suc i)) n (λ i P l. h (suc i) P (omega arith)) ks)

module _ {view : List ℤ} {v : List Float} (F : FloatsOf view v) where
  plane_same : (i : ℕ) (P : WholePlane) → plane_start i + 3 < length view → IsPlane SegmentPlane (plane_at v i) P → SamePlane (whole_plane_at view i) P
  plane_same i P h k =
      let from = plane_start i in record {
        normal = three (λ j. number_at view (from + j) ≡ P.normal j)
            (one_whole_number (F.same (from + 0) (omega arith)) (k.normal.at 0 (lit< tt)))
            (one_whole_number (F.same (from + 1) (omega arith)) (k.normal.at 1 (lit< tt)))
            (one_whole_number (F.same (from + 2) (omega arith)) (k.normal.at 2 (lit< tt)));
        distance = one_whole_number (F.same (from + 3) h) k.distance;
      }

  pub planes_same : (n : ℕ) {Ps : List WholePlane} → plane_start n ≤ length view → ArePlanes SegmentPlane (planes_of v n) Ps → SamePlanes (whole_planes_of view n) Ps
  planes_same n h = each (plane_at v) (whole_plane_at view) n (λ i P l. plane_same i P (omega arith))

view_of : {view : List ℤ} {v : List Float} {Ps : List WholePlane} → ViewRecord SegmentPlane v Ps → SameView view v → ViewOf view Ps
view_of {view} {v} {Ps} R S =
    let n = R.count in
    let l : length view ≡ view_length n = omega (arith, R.volume.numbers, S.numbers) in
    let same = planes_same S.floats n (omega (arith, l)) R.planes in record {
      count = n;
      lent = record {
        counted = one_whole_number (S.floats.same 0 (omega (arith, l))) R.volume.counted.whole;
        fewest = R.volume.counted.fewest;
        most = R.volume.counted.most;
        numbers = l;
        kind = kinds same R.planes;
      };
      planes = same;
    }

-- ---- the bounds of a placed box

pub placed_grid : {B : WholeBox} → GridBox B → (u : Bool) → GridPoint (placed u B.matrix B.low B.high)
placed_grid {B} G u = record {
  size = λ j h. subst (λ (z : ℤ). nat_abs z ≤ grid_limit) (sym (placed_is G.placement u B.low B.high j h))
      (extreme_ind (λ z. nat_abs z ≤ grid_limit) u (movedℤ B.matrix B.low j) (movedℤ B.matrix B.high j)
      ((G.placed 0 (lit< tt)).size j h) ((G.placed 7 (lit< tt)).size j h));
}

bounds_of : (b out : List Float) {box : List ℤ} {B : WholeBox} → BoxRecord b B → length out ≡ range_length → length box ≡ range_length
    → FloatsOf box (aligned_range_call b out).out → BoundsOf box (low_of B) (high_of B)
bounds_of b out {box} {B} R room l F =
    let G = R.box.grid in
    let r = range_exact (grid_stands R) out room in record {
      numbers = l;
      least = three (λ j. number_at box j ≡ low_of B j)
          (one_whole_number (F.same 0 (omega (arith, l))) (r.min.at 0 (lit< tt)))
          (one_whole_number (F.same 1 (omega (arith, l))) (r.min.at 1 (lit< tt)))
          (one_whole_number (F.same 2 (omega (arith, l))) (r.min.at 2 (lit< tt)));
      greatest = three (λ j. number_at box (3 + j) ≡ high_of B j)
          (one_whole_number (F.same 3 (omega (arith, l))) (r.max.at 0 (lit< tt)))
          (one_whole_number (F.same 4 (omega (arith, l))) (r.max.at 1 (lit< tt)))
          (one_whole_number (F.same 5 (omega (arith, l))) (r.max.at 2 (lit< tt)));
      low_grid = placed_grid G false;
      high_grid = placed_grid G true;
      some = placed_nonempty G.placement B.low B.high;
    }

pub records_exact : RecordsExact
records_exact v b out view box w Ps B answer left D C room S l F r h =
    box_verdict_exact view box w Ps (low_of B) (high_of B) answer left (view_of D S) (bounds_of b out C room l F) r h
