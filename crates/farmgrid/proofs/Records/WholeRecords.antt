-- Records of whole numbers: what the engine's test of the grid says of them, and what it answers on the grid. Assumes nothing.
use mathlib.Core.Path.{◌≡◌, refl, sym, ap}
use mathlib.Core.Bool.{true, ◌&&◌}
use mathlib.Core.List.{List, [], ◌∷◌}
use Prim.Native.Nat.{ℕ, ◌≤◌}
use native.Mathlib.Omega.{arith}
use borrow.Author.Tests.{le-leb}
use lib.Dec.{lit<}
use lib.ListN.{length}
use lib.IntN.{ℤ, nat_abs}
use Rattle.number.specs.Limits.{grid_limit, normal_limit, fewest_planes}
use Rattle.number.specs.Every.{every}
use Rattle.whole.specs.Plane.{WholePlane}
use Rattle.whole.specs.Segment.{segment_in_view}
use Rattle.whole.specs.SegmentCall.{point_of, planes_of, view_length, count_of, point_within, plane_within, segment_on_grid}
use Rattle.whole.proofs.Limits.{point_sizes, plane_sizes}
use Rattle.whole.proofs.Checks.{answered}
use Rattle.farmgrid.specs.Placement.{GridPoint}
use Rattle.exact.specs.ExactPoint.{Every}
use Rattle.farmgrid.specs.FarmGrid.{SegmentPlane}
use Rattle.farmgrid.specs.WholeNumbers.{WholeSegmentExact}
use Rattle.farmgrid.proofs.Placements.Singles.{three}
use Rattle.farmgrid.proofs.Segments.WholeSegment.{whole_segment_is}

-- ---- the test of a point, and of planes

pub grid_point : (A : ℕ → ℤ) → point_within A ≡ true → GridPoint A
grid_point A e = let s = point_sizes A e in record { size = three (λ i. nat_abs (A i) ≤ grid_limit) s.0 s.1 s.2 }

pub point_passes : (A : ℕ → ℤ) → GridPoint A → point_within A ≡ true
point_passes A g = λ t. le-leb _ _ (g.size 0 (lit< tt)) t && le-leb _ _ (g.size 1 (lit< tt)) t && le-leb _ _ (g.size 2 (lit< tt)) t

pub segment_plane : (P : WholePlane) → plane_within P ≡ true → SegmentPlane P
segment_plane P e =
    let s = plane_sizes P e in
    record { entries = record { size = three (λ i. nat_abs (P.normal i) ≤ normal_limit) s.0 s.1 s.2 }; far = s.3 }

plane_passes : (P : WholePlane) → SegmentPlane P → plane_within P ≡ true
plane_passes P k = let n = k.entries.size in λ t.
    le-leb _ _ (n 0 (lit< tt)) t && le-leb _ _ (n 1 (lit< tt)) t && le-leb _ _ (n 2 (lit< tt)) t && le-leb _ _ k.far t

pub planes_pass : (Ps : List WholePlane) → Every SegmentPlane Ps → every plane_within Ps ≡ true
unfolding every
planes_pass [] h = refl
planes_pass (P ∷ Ps) h = λ t. plane_passes P h.0 t && planes_pass Ps h.1 t

-- ---- on the grid the engine is never refused, and exact

pub whole_segment_exact : WholeSegmentExact
whole_segment_exact view p q n W P Q =
    let f = W.fewest in
    let l : view_length fewest_planes ≤ length view = omega (arith, W.numbers) in
    let Ps = planes_of view n in
    let g : segment_on_grid Ps (point_of p) (point_of q) ≡ true =
    λ t. point_passes (point_of p) P.grid t && point_passes (point_of q) Q.grid t && planes_pass Ps W.kind t in record {
      verdict = segment_in_view Ps (point_of p) (point_of q);
      answered = sym (answered view p q P.numbers Q.numbers l n (ap count_of (sym W.counted)) W.fewest W.most W.numbers g _ refl);
      exact = whole_segment_is (point_of p) (point_of q) Ps;
    }
