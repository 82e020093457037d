-- The whole-number engine leaves some of a segment exactly where some exact point of it satisfies every plane.
-- The idea: the induction of `Span`, by the same cuts as for the float engine. No float occurs (of the kit's `Ieee.Fits` only the laws of `&&`). Assumes nothing.
use mathlib.Core.Logic.Iff
use mathlib.Core.Logic.{◌↔◌}
use mathlib.Core.List.{List, [], ◌∷◌}
use Prim.Native.Nat.{ℕ}
use lib.Dec.{T}
use lib.IntN.{ℤ}
use lib.Ieee.Fits.{and_i, and_l, and_r}
use Rattle.whole.specs.declared.fraction.Fraction.{Fraction}
use Rattle.whole.specs.Plane.{WholePlane, gap}
use Rattle.whole.specs.Segment.{has_end, start_by, end_by, leaves, segment_in_view}
use Rattle.farmgrid.specs.FarmGrid.{SegmentInView}
use Rattle.farmgrid.proofs.Segments.Span.{Keeps, Both, Place, place_map, Span, whole_span, has_place, not_past, cut, kept_end}
use Rattle.farmgrid.proofs.Segments.ExactPoints.{Kept, segment_place}

module _ (A B : ℕ → ℤ) where
  -- where the planes so far leave a span, the rest of them decides
  leaves_is : {start end : Fraction} {R : ℕ → ℕ → Type 0} (Ps : List WholePlane) → Span start end R → T (leaves Ps A B start end) ↔ Place (Both R (Kept Ps A B))
  unfolding leaves
  leaves_is [] s = (λ t. place_map (λ u m r. (r, tt)) (has_place s t), λ w. not_past s (place_map (λ u m r. r.0) w))
  leaves_is {start} {end} {R} (P ∷ Ps) s =
      let D = gap P A in
      let D' = gap P B in
      let here = has_end D D' in
      let rest = leaves Ps A B (start_by D D' start) (end_by D D' end) in (
        λ v. place_map {R' = Both R (Kept (P ∷ Ps) A B)} (λ u m r. (r.0.0, (r.0.1, r.1))) ((leaves_is {start = start_by D D' start} {end = end_by D D' end} {R = Both R (Keeps D D')} Ps (cut D D' (and_l here rest v) s)).0 (and_r here rest v)),
        λ w. let h = kept_end D D' w.u w.m w.some w.holds.1.0 in
            let w' = place_map {R' = Both (Both R (Keeps D D')) (Kept Ps A B)} (λ u m r. ((r.0, r.1.0), r.1.1)) w in
            and_i here rest h ((leaves_is {start = start_by D D' start} {end = end_by D D' end} {R = Both R (Keeps D D')} Ps (cut D D' h s)).1 w'),
      )

  segment_places : (Ps : List WholePlane) → T (segment_in_view Ps A B) ↔ Place (Kept Ps A B)
  unfolding segment_in_view
  segment_places Ps = (
    λ t. place_map (λ u m r. r.1) ((leaves_is Ps whole_span).0 t),
    λ w. (leaves_is Ps whole_span).1 (place_map (λ u m r. (tt, r)) w),
  )

  pub whole_segment_is : (Ps : List WholePlane) → T (segment_in_view Ps A B) ↔ SegmentInView Ps A B
  whole_segment_is Ps = Iff.trans (segment_places Ps) (Iff.symm (segment_place Ps A B))
