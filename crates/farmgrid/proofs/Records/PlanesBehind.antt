-- On the farm grid, by axis planes, the planes that a box is behind are those that every exact point of the placed box fails. The idea: the box verdict is exact over any
-- list of axis planes that share a point, so over one of them. Assumes nothing.
use mathlib.Core.Path.{◌≡◌, refl, sym, ap, subst, ◌∙◌}
use mathlib.Core.Logic.{◌↔◌}
use mathlib.Core.Bool.{Bool, true, false, not}
use mathlib.Core.List.{List, [], ◌∷◌, ◌++◌}
use Prim.Native.Nat.{◌<◌}
use native.Mathlib.Omega.{arith}
use lib.Dec.{T}
use lib.ListN.{length, length-append, take, drop}
use lib.Ieee.{Float}
use lib.Ieee.Bits.{is_true}
use Rattle.whole.proofs.Integer.{of_self as self, of_pos, of_le, ◌⊟◌, ◌⊠◌}
use Rattle.whole.specs.Plane.{WholePlane}
use Rattle.verdict.specs.declared.plane.Plane.{Plane}
use Rattle.verdict.specs.declared.bbox.BBox3d.{BBox3d}
use Rattle.verdict.specs.BBox.{box_of}
use Rattle.verdict.specs.BBoxCalls.{flagged}
use Rattle.verdict.specs.View.{planes_of}
use Rattle.verdict.specs.Frustum.{box_in_view}
use Rattle.verdict.specs.PlanesBehind.{blocking_planes}
use Rattle.verdict.specs.PlanesMeaning.{is_set}
use Rattle.verdict.proofs.PlanesBehind.{planes_answered}
use Rattle.verdict.proofs.PlanesMeaning.{bits_mean}
use Rattle.placed.specs.Placement.{WholeBox}
use Rattle.farmgrid.specs.FarmGrid.{AxisPlane, IsBox, ArePlanes, none, more, exactly, Share}
use Rattle.farmgrid.specs.Records.{ViewRecord, BoxRecord}
use Rattle.farmgrid.specs.PlanesBehind.{AllFail, BehindExact}
use Rattle.farmgrid.proofs.Numbers.WholeSigns.{flip, flip_flip}
use Rattle.farmgrid.proofs.Placements.Singles.{single, single_dot}
use Rattle.farmgrid.proofs.Records.FiniteNumbers.{box_record_finite, view_finite}
use Rattle.farmgrid.proofs.Records.Answers.{passed, box_answer}
use Rattle.farmgrid.proofs.Boxes.BoxInView.{box_is}
use Rattle.farmgrid.proofs.Records.BlockingPlane.{one_by_one}

-- ---- one plane

-- an axis plane has a point
has_point : {P : WholePlane} → AxisPlane P → Share (P ∷ [])
has_point {P} A =
    let s = single {p = P.normal} A.single in
    let d = P.distance in
    let x = exactly (λ i. flip s.sign d) in
    let e = single_dot s x.numbers ∙ flip_flip s.sign d in
    record { point = x; satisfied = (record { side = rw e ((of_le (of_pos 0) (self d ⊟ of_pos 1 ⊠ self d)).1 (omega arith)) }, tt) }

-- the plane at a place, of both lists
alone : {ps : List Plane} {Ps : List WholePlane} → ArePlanes AxisPlane ps Ps → (Qs : List WholePlane) (P : WholePlane) (Rs : List WholePlane)
    → Ps ≡ Qs ++ P ∷ Rs → ArePlanes AxisPlane (take 1 (drop (length Qs) ps)) (P ∷ [])
alone {ps} {Ps} hs Qs P Rs e = go Qs (subst (ArePlanes AxisPlane ps) e hs)
  where
    go : {qs : List Plane} (Os : List WholePlane) → ArePlanes AxisPlane qs (Os ++ P ∷ Rs) → ArePlanes AxisPlane (take 1 (drop (length Os) qs)) (P ∷ [])
    go [] (more h hs) = more h none
    go (O ∷ Os) (more h hs) = go Os hs

axis : {ps : List Plane} {P : WholePlane} → ArePlanes AxisPlane ps (P ∷ []) → AxisPlane P
axis (more h none) = h.kind

fails_is : {ps : List Plane} {P : WholePlane} {b : BBox3d} {B : WholeBox} → ArePlanes AxisPlane ps (P ∷ []) → IsBox b B → T (not (box_in_view ps b)) ↔ AllFail P B
fails_is {ps} {P} {b} {B} hs g =
    let e = box_is hs (has_point (axis hs)) g in (
      λ t X i s. refute (box_in_view ps b) t (e.1 (record { point = X; held = i; seen = (s, tt) })),
      λ f. confirm (box_in_view ps b) (λ t. let w = e.0 t in f w.point w.held w.seen.0),
    )
  where
    refute : (x : Bool) → T (not x) → T x → ⊥
    refute true t u = t
    refute false t u = u

    confirm : (x : Bool) → (T x → ⊥) → T (not x)
    confirm true f = f tt
    confirm false f = tt

-- ---- the call

module _ (v b : List Float) (Ps : List WholePlane) (B : WholeBox) (W : ViewRecord AxisPlane v Ps) (C : BoxRecord b B) where
  abbrev ps : List Plane
  ps = planes_of v W.count

  at_place : (Qs : List WholePlane) (P : WholePlane) (Rs : List WholePlane) → Ps ≡ Qs ++ P ∷ Rs → length Qs < length ps
  at_place Qs P Rs e = omega (arith, one_by_one W.planes, ap length e, length-append Qs (P ∷ Rs))

  is_exact : (Qs : List WholePlane) (P : WholePlane) (Rs : List WholePlane) → Ps ≡ Qs ++ P ∷ Rs → T (is_set (blocking_planes ps (box_of b)) (length Qs)) ↔ AllFail P B
  is_exact Qs P Rs e =
      let m = bits_mean ps (box_of b) (length Qs) in
      let f = fails_is (alone W.planes Qs P Rs e) C.box in
      (λ s. f.0 (m.0 s).1, λ s. m.1 (at_place Qs P Rs e, f.1 s))

pub behind_exact : BehindExact
behind_exact v b Ps B W C = record {
  bits = blocking_planes (planes_of v W.count) (box_of b);
  answered = sym (planes_answered v b _ (sym (box_answer v W.volume (view_finite W) b C.numbers (is_true (flagged b) C.flag) (box_record_finite C))) W.count _ (passed v W.volume) refl);
  exact = is_exact v b Ps B W C;
}
