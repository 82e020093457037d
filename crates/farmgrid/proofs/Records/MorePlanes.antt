-- Another plane, put anywhere among those of a view, may turn a verdict from yes to no, and never from no to yes.
-- The idea: the verdict is exact, and what satisfies all of the planes, or reaches them, does so for those that were there before. Of points and boxes each
-- plane is asked by itself, so that it holds of all planes by definition. Assumes nothing.
use mathlib.Core.Path.{sym, subst}
use mathlib.Core.Bool.{Bool, not}
use mathlib.Core.List.{List, [], ◌∷◌, ◌++◌}
use Prim.Native.Nat.{ℕ, suc}
use lib.Dec.{T}
use lib.IntN.{ℤ}
use lib.Ieee.{Float}
use lib.Ieee.Bits.{is_true}
use lib.Ieee.Fits.{and_i, and_l, and_r}
use Rattle.number.specs.Every.{every}
use Rattle.number.specs.Slice.{all_finite}
use Rattle.matrix.specs.Vec.{vec3_of}
use Rattle.matrix.specs.Range.{is_empty}
use Rattle.matrix.specs.declared.vec.Vec3d.{Vec3d}
use Rattle.verdict.specs.declared.plane.Plane.{Plane}
use Rattle.verdict.specs.declared.bbox.BBox3d.{BBox3d}
use Rattle.verdict.specs.BBox.{box_of}
use Rattle.verdict.specs.BBoxCalls.{flagged}
use Rattle.verdict.specs.Plane.{on_positive_side, reaches_positive_side, under_inverse_transpose}
use Rattle.verdict.specs.View.{planes_of}
use Rattle.verdict.specs.Frustum.{point_in_view, segment_in_view, box_in_view, into_space_of}
use Rattle.whole.specs.Plane.{WholePlane}
use Rattle.exact.specs.ExactPoint.{Satisfies, Every}
use Rattle.placed.specs.Placement.{WholeBox}
use Rattle.farmgrid.specs.FarmGrid.{SegmentPlane, AxisPlane, IsPoint, IsBox, ArePlanes, exactly, between}
use Rattle.farmgrid.specs.Screens.{PlaneMore, PointScreened, SegmentScreened, BoxScreened, EachPlaneScreens}
use Rattle.farmgrid.proofs.Records.FiniteNumbers.{point_finite, box_record_finite, view_finite}
use Rattle.farmgrid.proofs.Records.Answers.{point_answer, segment_answer, box_answer}
use Rattle.farmgrid.proofs.Segments.Segment.{point_is, segment_is}
use Rattle.farmgrid.proofs.Boxes.BoxReach.{Reaches}
use Rattle.farmgrid.proofs.Boxes.BoxPlane.{grid_wide, box_reaches}

-- ---- what holds of every plane holds of every plane without one

module _ (K : WholePlane → Type 0) (P : WholePlane) (Qs : List WholePlane) where
  pub every_without : (Ps : List WholePlane) → Every K (Ps ++ P ∷ Qs) → Every K (Ps ++ Qs)
  every_without [] h = h.1
  every_without (O ∷ Ps) h = (h.0, every_without Ps h.1)

module _ (test : Plane → Bool) (p : Plane) (qs : List Plane) where
  tested_without : (ps : List Plane) → T (every test (ps ++ p ∷ qs)) → T (every test (ps ++ qs))
  unfolding every
  tested_without [] t = and_r (test p) (every test qs) t
  tested_without (o ∷ ps) t =
      and_i (test o) (every test (ps ++ qs)) (and_l (test o) (every test (ps ++ p ∷ qs)) t) (tested_without ps (and_r (test o) (every test (ps ++ p ∷ qs)) t))

module _ (ps : List Plane) (p : Plane) (qs : List Plane) where
  point_kept : (x : Vec3d) → T (point_in_view (ps ++ p ∷ qs) x) → T (point_in_view (ps ++ qs) x)
  unfolding point_in_view
  point_kept x t = tested_without (λ o. on_positive_side o x) p qs ps t

  box_kept : (b : BBox3d) → T (box_in_view (ps ++ p ∷ qs) b) → T (box_in_view (ps ++ qs) b)
  unfolding box_in_view
  box_kept b t =
      let some = not (is_empty b.range) in
      let test : Plane → Bool = λ o. reaches_positive_side (under_inverse_transpose (into_space_of b) o) b.range in
      and_i some (every test (ps ++ qs)) (and_l some (every test (ps ++ p ∷ qs)) t) (tested_without test p qs ps (and_r some (every test (ps ++ p ∷ qs)) t))

-- ---- on the farm grid: floats ps of the planes Ps and Qs, and floats ps' of these with P between them

module _ {ps ps' : List Plane} (Ps : List WholePlane) (P : WholePlane) (Qs : List WholePlane) where
  module _ (hs : ArePlanes SegmentPlane ps (Ps ++ Qs)) (hs' : ArePlanes SegmentPlane ps' (Ps ++ P ∷ Qs)) where
    point_without : {a : Vec3d} {A : ℕ → ℤ} → IsPoint a A → T (point_in_view ps' a) → T (point_in_view ps a)
    point_without {A = A} g t = (point_is hs g).1 (every_without (λ O. Satisfies O (exactly A)) P Qs Ps ((point_is hs' g).0 t))

    segment_without : {a b : Vec3d} {A B : ℕ → ℤ} → IsPoint a A → IsPoint b B → T (segment_in_view ps' a b) → T (segment_in_view ps a b)
    segment_without {A = A} {B = B} g g' t =
        let s = (segment_is hs' g g').0 t in
        let X = between A B s.k s.m s.some in
        (segment_is hs g g').1
        (record { k = s.k; m = s.m; some = s.some; part = s.part; seen = every_without (λ O. Satisfies O X) P Qs Ps s.seen })

  box_without : ArePlanes AxisPlane ps (Ps ++ Qs) → ArePlanes AxisPlane ps' (Ps ++ P ∷ Qs) → {b : BBox3d} {B : WholeBox} → IsBox b B → T (box_in_view ps' b) → T (box_in_view ps b)
  box_without hs hs' {B = B} g t = let w = grid_wide g in (box_reaches w hs).1 (every_without (Reaches B) P Qs Ps ((box_reaches w hs').0 t))

-- ---- records

pub point_screened : PointScreened
point_screened v v' p Ps P Qs A S R = record {
  was = point_in_view (planes_of v S.before.count) (vec3_of p);
  is = point_in_view (planes_of v' S.after.count) (vec3_of p);
  answered_before = point_answer v S.before.volume (view_finite S.before) p R.numbers (point_finite R);
  answered_after = point_answer v' S.after.volume (view_finite S.after) p R.numbers (point_finite R);
  kept = point_without Ps P Qs S.before.planes S.after.planes R.point;
}

pub segment_screened : SegmentScreened
segment_screened v v' p q Ps P Qs A B S R R' = record {
  was = segment_in_view (planes_of v S.before.count) (vec3_of p) (vec3_of q);
  is = segment_in_view (planes_of v' S.after.count) (vec3_of p) (vec3_of q);
  answered_before = segment_answer v S.before.volume (view_finite S.before) p q R.numbers R'.numbers (point_finite R) (point_finite R');
  answered_after = segment_answer v' S.after.volume (view_finite S.after) p q R.numbers R'.numbers (point_finite R) (point_finite R');
  kept = segment_without Ps P Qs S.before.planes S.after.planes R.point R'.point;
}

pub box_screened : BoxScreened
box_screened v v' b Ps P Qs B S R =
    let f = is_true (flagged b) R.flag in record {
      was = box_in_view (planes_of v S.before.count) (box_of b);
      is = box_in_view (planes_of v' S.after.count) (box_of b);
      answered_before = box_answer v S.before.volume (view_finite S.before) b R.numbers f (box_record_finite R);
      answered_after = box_answer v' S.after.volume (view_finite S.after) b R.numbers f (box_record_finite R);
      kept = box_without Ps P Qs S.before.planes S.after.planes R.box;
    }

-- a verdict that keeps its yes without a plane, of volumes of any finite numbers
module _ (verdict : List Plane → Bool) (kept : (ps : List Plane) (p : Plane) (qs : List Plane) → T (verdict (ps ++ p ∷ qs)) → T (verdict (ps ++ qs)))
    {v v' : List Float} (M : PlaneMore v v') where
  any_kept : T (verdict (planes_of v' (suc M.count))) → T (verdict (planes_of v M.count))
  any_kept t =
      subst (λ (os : List Plane). T (verdict os)) (sym M.planes)
      (kept M.ps M.p M.qs (subst (λ (os : List Plane). T (verdict os)) M.planes_more t))

pub each_plane_screens : EachPlaneScreens
each_plane_screens = record {
  point = λ v v' x M h g. let f = is_true (all_finite x) g in record {
    was = point_in_view (planes_of v M.count) (vec3_of x);
    is = point_in_view (planes_of v' (suc M.count)) (vec3_of x);
    answered_before = point_answer v M.before (is_true (all_finite v) M.finite) x h f;
    answered_after = point_answer v' M.after (is_true (all_finite v') M.finite_more) x h f;
    kept = any_kept (λ os. point_in_view os (vec3_of x)) (λ ps p qs. point_kept ps p qs (vec3_of x)) M;
  };
  box = λ v v' b M h f g. let flag = is_true (flagged b) f in let numbers = is_true (all_finite b) g in record {
    was = box_in_view (planes_of v M.count) (box_of b);
    is = box_in_view (planes_of v' (suc M.count)) (box_of b);
    answered_before = box_answer v M.before (is_true (all_finite v) M.finite) b h flag numbers;
    answered_after = box_answer v' M.after (is_true (all_finite v') M.finite_more) b h flag numbers;
    kept = any_kept (λ os. box_in_view os (box_of b)) (λ ps p qs. box_kept ps p qs (box_of b)) M;
  };
}
