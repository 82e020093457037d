-- On the farm grid the point verdict is yes exactly where the point is in the view, and the segment verdict exactly where some exact
-- point of the segment is, for any number of segment planes.
-- The idea: plane by plane the engine compares rounded crossings as `Span` compares the fractions, so that it leaves some of the segment
-- exactly where that does. Assumes nothing.
use mathlib.Core.Path.{◌≡◌, refl}
use mathlib.Core.Logic.Iff
use mathlib.Core.Logic.{◌↔◌, ◌⊎◌, inl, inr}
use mathlib.Core.Bool.{Bool, true, false, ◌&&◌, ◌||◌}
use mathlib.Core.List.{List, [], ◌∷◌}
use Prim.Native.Nat.{ℕ}
use lib.Dec.{T, lit<}
use lib.IntN.{ℤ}
use lib.Ieee.{Float}
use lib.Ieee.Fits.{and_i, and_l, and_r}
use Rattle.number.specs.Every.{every}
use Rattle.whole.specs.Plane.{WholePlane, gap}
use Rattle.farmgrid.proofs.Numbers.Exact.{neg_whole}
use Rattle.matrix.specs.Constants.{positive_zero, one}
use Rattle.matrix.specs.declared.vec.Vec3d.{Vec3d}
use Rattle.verdict.specs.declared.plane.Plane.{Plane}
use Rattle.verdict.specs.Plane.{on_positive_side}
use Rattle.verdict.specs.Frustum.{point_in_view, has_end, span_left, segment_in_view}
use Rattle.farmgrid.specs.FarmGrid.{SegmentPlane, IsPoint, ArePlanes, none, more}
use Rattle.exact.specs.ExactPoint.{Satisfies, InView}
use Rattle.farmgrid.specs.FarmGrid.{exactly, SegmentInView}
use Rattle.farmgrid.proofs.Numbers.WholeSums.{zero_whole, one_whole}
use Rattle.farmgrid.proofs.Segments.Distance.{non_negative, distance_whole, side, slope_fit}
use Rattle.whole.specs.declared.fraction.Fraction.{Fraction}
use Rattle.farmgrid.proofs.Segments.Span.{Place, place_map, each_has_end, span_by, KeptBy, span_is}
use Rattle.farmgrid.proofs.Segments.RoundedSpan.{Rounded, first_rounded, second_rounded, less_rounded, start_rounded, end_rounded}
use Rattle.farmgrid.proofs.Segments.EveryPlane.{every_is}
use Rattle.farmgrid.proofs.Segments.ExactPoints.{point_gap, Kept, first_kept, second_kept, segment_place}

-- ---- tests
or_cases : (u v : Bool) → T (u || v) → T u ⊎ T v
or_cases true v t = inl tt
or_cases false v t = inr t

or_second : (u v : Bool) → T v → T (u || v)
or_second true v t = tt
or_second false v t = t

-- ---- the point verdict
pub point_is : {ps : List Plane} {Ps : List WholePlane} {a : Vec3d} {A : ℕ → ℤ} → ArePlanes SegmentPlane ps Ps → IsPoint a A
    → T (point_in_view ps a) ↔ InView Ps (exactly A)
unfolding point_in_view
point_is {a = a} {A = A} hs g =
    every_is SegmentPlane (λ p. on_positive_side p a) (λ P. Satisfies P (exactly A)) (λ p P h.
    rw (side h g) (Iff.trans (non_negative (gap P A)) (Iff.symm (point_gap P A)))) hs

-- ---- the segment verdict
module _ {a b : Vec3d} {A B : ℕ → ℤ} (g : IsPoint a A) (g' : IsPoint b B) where
  -- the exact distances of a plane from the two ends
  abbrev first : WholePlane → ℤ
  first P = gap P A

  abbrev second : WholePlane → ℤ
  second P = gap P B

  ends_same : {ps : List Plane} {Ps : List WholePlane} → ArePlanes SegmentPlane ps Ps → every (has_end a b) ps ≡ each_has_end first second Ps
  unfolding every each_has_end
  ends_same none = refl
  ends_same (more h hs) = rw (side h g, side h g', ends_same hs)

  -- the loop, from any two fractions on
  span_same : {ps : List Plane} {Ps : List WholePlane} {start end : Float} {f l : Fraction} → ArePlanes SegmentPlane ps Ps → Rounded start f → Rounded end l
      → span_left ps a b start end ≡ span_by first second Ps f l
  unfolding span_left span_by
  span_same none F L = refl
  span_same (more {p} {P} h hs) F L =
      let n = neg_whole (distance_whole h g) in
      let d = slope_fit h g g' in
      let F' = start_rounded (gap P A) (gap P B) n d.whole d.size F in
      let L' = end_rounded (gap P A) (gap P B) n d.whole d.size L in
      rw (side h g, side h g', less_rounded L' F', span_same hs F' L')

  -- what is kept plane by plane is what the planes of the view keep
  kept_by : (Ps : List WholePlane) (u m : ℕ) → KeptBy first second Ps u m ↔ Kept Ps A B u m
  kept_by [] u m = (λ t. t, λ t. t)
  kept_by (P ∷ Ps) u m = let r = kept_by Ps u m in (λ t. (t.0, r.0 t.1), λ t. (t.0, r.1 t.1))

  segment_places : {ps : List Plane} {Ps : List WholePlane} → ArePlanes SegmentPlane ps Ps → T (segment_in_view ps a b) ↔ Place (Kept Ps A B)
  unfolding segment_in_view
  segment_places {ps} {Ps} hs = (to, back)
    where
      each : Bool
      each = every (has_end a b) ps

      ends : Bool
      ends = point_in_view ps a || point_in_view ps b

      left : Bool
      left = span_left ps a b positive_zero one

      loop : T (each && left) ↔ Place (Kept Ps A B)
      loop = Iff.trans
          (rw (ends_same hs, span_same hs (first_rounded zero_whole) (second_rounded one_whole)) (span_is first second Ps))
          (place_map (λ u m. (kept_by Ps u m).0), place_map (λ u m. (kept_by Ps u m).1))

      to : T (each && (ends || left)) → Place (Kept Ps A B)
      to t = elim (or_cases ends left (and_r each (ends || left) t)) [
        | inl e ↦ elim (or_cases (point_in_view ps a) (point_in_view ps b) e) [
          | inl i ↦ record { u = 1; m = 0; some = lit< tt; holds = first_kept Ps A B ((point_is hs g).0 i) }
          | inr i ↦ record { u = 0; m = 1; some = lit< tt; holds = second_kept Ps A B ((point_is hs g').0 i) }
        ]
        | inr l ↦ loop.0 (and_i each left (and_l each (ends || left) t) l)
      ]

      back : Place (Kept Ps A B) → T (each && (ends || left))
      back w = let t = loop.1 w in and_i each (ends || left) (and_l each left t) (or_second ends left (and_r each left t))

pub segment_is : {ps : List Plane} {Ps : List WholePlane} {a b : Vec3d} {A B : ℕ → ℤ} → ArePlanes SegmentPlane ps Ps → IsPoint a A → IsPoint b B
    → T (segment_in_view ps a b) ↔ SegmentInView Ps A B
segment_is {Ps = Ps} {A = A} {B = B} hs g g' = Iff.trans (segment_places g g' hs) (Iff.symm (segment_place Ps A B))
