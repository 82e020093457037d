-- Point and segment verdicts are the same after a turn of planes and points alike.
-- The idea: normal' · point' − (distance + normal' · translation) = normal · point − distance, since a quarter turn keeps dot products;
-- and exact verdicts depend on these distances alone.
use mathlib.Core.Path.{◌≡◌}
use mathlib.Core.Logic.Iff
use mathlib.Core.Logic.{◌↔◌}
use mathlib.Core.List.{List, map}
use Prim.Native.Nat.{ℕ}
use native.Mathlib.Omega.{arith}
use lib.IntN.{ℤ, ◌+ℤ◌, ◌-ℤ◌}
use Rattle.whole.proofs.Integer.{of_self, of_sum, of_minus, of_eq}
use Rattle.matrix.specs.declared.vec.Vec3d.{Vec3d}
use Rattle.whole.specs.Plane.{WholePlane, dotℤ, gap}
use Rattle.placed.specs.Placement.{turnedℤ, movedℤ}
use Rattle.farmgrid.specs.Placement.{QuarterTurn}
use Rattle.verdict.specs.declared.plane.Plane.{Plane}
use Rattle.verdict.specs.Frustum.{point_in_view, segment_in_view}
use Rattle.exact.specs.ExactPoint.{Satisfies, InView}
use Rattle.farmgrid.specs.FarmGrid.{SegmentPlane, IsPoint, ArePlanes, exactly, SegmentInView, moved_plane}
use Rattle.whole.proofs.Dot.{dot_sum}
use Rattle.farmgrid.proofs.Turn.TurnedDot.{keeps_dot}
use Rattle.farmgrid.proofs.Segments.Distance.{same_test}
use Rattle.farmgrid.proofs.Segments.Span.{Keeps, place_map}
use Rattle.farmgrid.proofs.Segments.EveryPlane.{every_moved}
use Rattle.farmgrid.proofs.Segments.ExactPoints.{point_gap, Kept, segment_place}
use Rattle.farmgrid.proofs.Segments.Segment.{point_is, segment_is}

module _ {f : ℕ → ℕ → ℤ} (F : QuarterTurn f) where
  -- the distance of a plane from a point stays
  pub gap_moved : (P : WholePlane) (A : ℕ → ℤ) → gap (moved_plane f P) (movedℤ f A) ≡ gap P A
  gap_moved P A =
      let n = turnedℤ f P.normal in
      rw (dot_sum n (turnedℤ f A) (f 3), keeps_dot F P.normal A) (shift (dotℤ P.normal A) P.distance (dotℤ n (f 3)))
    where
      shift : (x d s : ℤ) → x +ℤ s -ℤ (d +ℤ s) ≡ x -ℤ d
      shift x d s =
          let X = of_self x in
          let D = of_self d in
          let S = of_self s in
          of_eq (of_minus (of_sum X S) (of_sum D S)) (of_minus X D) (omega arith)

  module _ (Ps : List WholePlane) (A : ℕ → ℤ) where
    pub point_in_view_lem : InView (map (moved_plane f) Ps) (exactly (movedℤ f A)) ↔ InView Ps (exactly A)
    point_in_view_lem = every_moved (λ P. Satisfies P (exactly (movedℤ f A))) (λ P. Satisfies P (exactly A)) (moved_plane f)
        (λ P. Iff.trans (point_gap (moved_plane f P) (movedℤ f A)) (rw (gap_moved P A) (Iff.symm (point_gap P A)))) Ps

    module _ (B : ℕ → ℤ) where
      abbrev Before : ℕ → ℕ → Type 0
      Before = Kept Ps A B

      abbrev After : ℕ → ℕ → Type 0
      After = Kept (map (moved_plane f) Ps) (movedℤ f A) (movedℤ f B)

      kept_moved : (u m : ℕ) → After u m ↔ Before u m
      kept_moved u m = every_moved (λ P. Keeps (gap P (movedℤ f A)) (gap P (movedℤ f B)) u m) (λ P. Keeps (gap P A) (gap P B) u m) (moved_plane f)
          (λ P. rw (gap_moved P A, gap_moved P B) (λ k. k, λ k. k)) Ps

      pub segment_in_view_lem : SegmentInView (map (moved_plane f) Ps) (movedℤ f A) (movedℤ f B) ↔ SegmentInView Ps A B
      segment_in_view_lem = Iff.trans (segment_place (map (moved_plane f) Ps) (movedℤ f A) (movedℤ f B))
          (Iff.trans (place_map (λ u m. (kept_moved u m).0), place_map (λ u m. (kept_moved u m).1)) (Iff.symm (segment_place Ps A B)))

  -- ---- and the verdicts: floats ps, a and b of the grid, and floats ps', a' and b' that are the moved ones and on the grid again
  module _ {ps ps' : List Plane} {Ps : List WholePlane} (hs : ArePlanes SegmentPlane ps Ps) (hs' : ArePlanes SegmentPlane ps' (map (moved_plane f) Ps))
      {a a' : Vec3d} {A : ℕ → ℤ} (g : IsPoint a A) (g' : IsPoint a' (movedℤ f A)) where
    pub point_turned : point_in_view ps' a' ≡ point_in_view ps a
    point_turned = same_test (point_in_view ps' a') (point_in_view ps a)
        (Iff.trans (point_is hs' g') (Iff.trans (point_in_view_lem Ps A) (Iff.symm (point_is hs g))))

    pub segment_turned : {b b' : Vec3d} {B : ℕ → ℤ} → IsPoint b B → IsPoint b' (movedℤ f B) → segment_in_view ps' a' b' ≡ segment_in_view ps a b
    segment_turned {b} {b'} {B} k k' = same_test (segment_in_view ps' a' b') (segment_in_view ps a b)
        (Iff.trans (segment_is hs' g' k') (Iff.trans (segment_in_view_lem Ps A B) (Iff.symm (segment_is hs g k))))
