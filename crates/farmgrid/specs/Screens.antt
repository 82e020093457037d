-- Screens on the farm grid: what another plane of a view does to a verdict. Definitions and statements only.
-- "Adding such a plane may turn its yes into no, never its no into yes." `T v` says that the verdict v is yes.
use Rattle.std.specs.Prelude.{◌≡◌, Bool, List, ◌∷◌, ◌++◌, ℕ, suc, T, length, ℤ, Float}
use Rattle.number.specs.Answer.{Outcome, outcome}
use Rattle.number.specs.Slice.{all_finite}
use Rattle.verdict.specs.declared.plane.Plane.{Plane}
use Rattle.verdict.specs.BBoxCalls.{flagged}
use Rattle.verdict.specs.View.{planes_of}
use Rattle.verdict.specs.FrustumCalls.{intersects_point_call, intersects_segment_call, intersects_box_call}
use Rattle.whole.specs.Plane.{WholePlane}
use Rattle.placed.specs.Placement.{WholeBox}
use Rattle.farmgrid.specs.FarmGrid.{SegmentPlane, AxisPlane}
use Rattle.farmgrid.specs.Records.{PointRecord, VolumeRecord, ViewRecord, BoxRecord}

-- ---- records

-- a view v, and a view v' that has the plane P besides, at any place of the list: Ps stand before it and Qs behind it
pub record Screened (Kind : WholePlane → Type 0) (v v' : List Float) (Ps : List WholePlane) (P : WholePlane) (Qs : List WholePlane) : Type 0 where
  pub before : ViewRecord Kind v (Ps ++ Qs)
  pub after : ViewRecord Kind v' (Ps ++ P ∷ Qs)

-- volumes of any finite numbers: v, and v' that has the plane p besides, at any place of the list
pub record PlaneMore (v v' : List Float) : Type 0 where
  pub count : ℕ
  pub before : VolumeRecord v count
  pub finite : T (all_finite v)
  pub after : VolumeRecord v' (suc count)
  pub finite_more : T (all_finite v')
  pub ps : List Plane
  pub p : Plane
  pub qs : List Plane
  pub planes : planes_of v count ≡ ps ++ qs
  pub planes_more : planes_of v' (suc count) ≡ ps ++ p ∷ qs

-- neither answer is refused, and a yes after is a yes before: no no becomes a yes
pub record NeverToYes (before after : Outcome Bool) : Type 0 where
  pub was : Bool
  pub is : Bool
  pub answered_before : before ≡ outcome was
  pub answered_after : after ≡ outcome is
  pub kept : T is → T was

-- ---- the claims

abbrev pub PointScreened : Type 0
PointScreened =
    (v v' p : List Float) (Ps : List WholePlane) (P : WholePlane) (Qs : List WholePlane) (A : ℕ → ℤ)
    → Screened SegmentPlane v v' Ps P Qs → PointRecord p A → NeverToYes (intersects_point_call v p) (intersects_point_call v' p)

abbrev pub SegmentScreened : Type 0
SegmentScreened =
    (v v' p0 p1 : List Float) (Ps : List WholePlane) (P : WholePlane) (Qs : List WholePlane) (A B : ℕ → ℤ)
    → Screened SegmentPlane v v' Ps P Qs → PointRecord p0 A → PointRecord p1 B → NeverToYes (intersects_segment_call v p0 p1) (intersects_segment_call v' p0 p1)

-- whether or not the planes share a point
abbrev pub BoxScreened : Type 0
BoxScreened =
    (v v' b : List Float) (Ps : List WholePlane) (P : WholePlane) (Qs : List WholePlane) (B : WholeBox)
    → Screened AxisPlane v v' Ps P Qs → BoxRecord b B → NeverToYes (intersects_box_call v b) (intersects_box_call v' b)

-- Of points and boxes this holds for planes, points and boxes of all finite numbers, since each plane is asked by itself: of every point and every box that
-- passes its own checks.
pub record EachPlaneScreens : Type 0 where
  pub point : (v v' x : List Float) → PlaneMore v v' → length x ≡ 3 → T (all_finite x) → NeverToYes (intersects_point_call v x) (intersects_point_call v' x)
  pub box : (v v' b : List Float) → PlaneMore v v' → length b ≡ 23 → T (flagged b) → T (all_finite b)
      → NeverToYes (intersects_box_call v b) (intersects_box_call v' b)
