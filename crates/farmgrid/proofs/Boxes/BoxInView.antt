-- On the farm grid the box verdict by axis planes that share an exact point is yes exactly where placed box and view share one.
-- The idea: an axis plane looks at one coordinate alone. A point of the box that satisfies it shows that the box reaches it; and where the
-- box reaches every plane, the point that the planes share, each coordinate moved to the nearest one of the box, still satisfies them all.
use mathlib.Core.Logic.{◌↔◌}
use mathlib.Core.Bool.{Bool, true, false}
use mathlib.Core.List.{List}
use Prim.Native.Nat.{ℕ, ◌+◌, ◌*◌, ◌≤◌}
use native.Mathlib.Nat.{le_of_mul-le-mul_right, mul-le-mul_right}
use native.Mathlib.Omega.{arith}
use lib.Dec.{T}
use lib.IntN.{ℤ, pos, ◌-ℤ◌, ◌*ℤ◌}
use lib.Signed.{◌≤ℤ◌}
use Rattle.whole.proofs.Integer.{hi, lo, of_self as self, of_pos, of_neg, of_le, of_min, of_max, le_is, ◌⊟◌, ◌⊠◌}
use Rattle.whole.specs.Plane.{WholePlane}
use Rattle.placed.specs.Placement.{smaller, larger, WholeBox}
use Rattle.farmgrid.proofs.Numbers.WholeSigns.{flip}
use Rattle.farmgrid.proofs.Placements.Singles.{Single, single, single_dot}
use Rattle.farmgrid.proofs.Placements.PlacedRanges.{placed_nonempty}
use Rattle.verdict.specs.declared.plane.Plane.{Plane}
use Rattle.verdict.specs.declared.bbox.BBox3d.{BBox3d}
use Rattle.verdict.specs.Frustum.{box_in_view}
use Rattle.farmgrid.specs.FarmGrid.{AxisPlane, GridBox, ArePlanes, IsBox, low_of, high_of}
use Rattle.exact.specs.ExactPoint.{ExactPoint, Satisfies, InBox, BoxInView}
use Rattle.farmgrid.specs.FarmGrid.{Share}
use Rattle.farmgrid.proofs.Segments.EveryPlane.{every_of, every_both}
use Rattle.farmgrid.proofs.Boxes.BoxReach.{Reaches, end_of, reaches_along}
use Rattle.farmgrid.proofs.Boxes.BoxPlane.{grid_wide, box_reaches}

-- ---- along one axis: a coordinate x over k, the box from low to high, and a plane at d; its normal is turned where s is true
-- the coordinate of the box that is nearest to x
abbrev nearest : ℕ → ℤ → ℤ → ℤ → ℤ
nearest k low high x = larger (pos k *ℤ low) (smaller (pos k *ℤ high) x)

module _ (k : ℕ) (low high x d : ℤ) where
  -- the plane has y on its positive side, and the box reaches the plane
  abbrev Has : Bool → ℤ → Type 0
  Has s y = pos 0 ≤ℤ (flip s y -ℤ pos k *ℤ d)

  abbrev Meets : Bool → Type 0
  Meets s = d ≤ℤ end_of s low high

  -- what a point of the box shows
  meets : 1 ≤ k → (s : Bool) → (pos k *ℤ low) ≤ℤ x → x ≤ℤ (pos k *ℤ high) → Has s x → Meets s
  meets K false l l' t =
      let r : (hi d + lo high) * k ≤ (hi high + lo d) * k =
      omega (arith, (of_le (self x) (of_pos k ⊠ self high)).0 l', (of_le (of_pos 0) (self x ⊟ of_pos k ⊠ self d)).0 t) in
      (of_le (self d) (self high)).1 (omega (arith, le_of_mul-le-mul_right {k = k} r K))
  meets K true l l' t =
      let r : (hi d + hi low) * k ≤ (lo low + lo d) * k =
      omega (arith, (of_le (of_pos k ⊠ self low) (self x)).0 l, (of_le (of_pos 0) (of_neg (self x) ⊟ of_pos k ⊠ self d)).0 t) in
      (of_le (self d) (of_neg (self low))).1 (omega (arith, le_of_mul-le-mul_right {k = k} r K))

  -- the plane has the nearest coordinate as well
  has_nearest : (s : Bool) → Meets s → Has s x → Has s (nearest k low high x)
  has_nearest false m t =
      let r = mul-le-mul_right k ((of_le (self d) (self high)).0 m) in
      (of_le (of_pos 0) (of_max (of_pos k ⊠ self low) (of_min (of_pos k ⊠ self high) (self x)) ⊟ of_pos k ⊠ self d)).1
      (omega (arith, r, (of_le (of_pos 0) (self x ⊟ of_pos k ⊠ self d)).0 t))
  has_nearest true m t =
      let r = mul-le-mul_right k ((of_le (self d) (of_neg (self low))).0 m) in
      (of_le (of_pos 0) (of_neg (of_max (of_pos k ⊠ self low) (of_min (of_pos k ⊠ self high) (self x))) ⊟ of_pos k ⊠ self d)).1
      (omega (arith, r, (of_le (of_pos 0) (of_neg (self x) ⊟ of_pos k ⊠ self d)).0 t))

  -- which is one of the box
  nearest_least : (pos k *ℤ low) ≤ℤ nearest k low high x
  nearest_least =
      (of_le (of_pos k ⊠ self low) (of_max (of_pos k ⊠ self low) (of_min (of_pos k ⊠ self high) (self x)))).1 (omega arith)

  nearest_greatest : low ≤ℤ high → nearest k low high x ≤ℤ (pos k *ℤ high)
  nearest_greatest l =
      let r = mul-le-mul_right k ((le_is low high).0 l) in
      (of_le (of_max (of_pos k ⊠ self low) (of_min (of_pos k ⊠ self high) (self x))) (of_pos k ⊠ self high)).1 (omega (arith, r))

-- ---- an axis plane and a grid box
module _ {B : WholeBox} (G : GridBox B) where
  -- the point X moved into the box
  abbrev clamped : ExactPoint → ExactPoint
  clamped X = record { numbers = λ j. nearest X.k (low_of B j) (high_of B j) (X.numbers j); k = X.k; some = X.some }

  clamped_in : (X : ExactPoint) → InBox (low_of B) (high_of B) (clamped X)
  clamped_in X = record {
    least = λ j h. nearest_least X.k (low_of B j) (high_of B j) (X.numbers j) (pos 0);
    greatest = λ j h. nearest_greatest X.k (low_of B j) (high_of B j) (X.numbers j) (pos 0)
        ((placed_nonempty G.placement B.low B.high).ordered j h);
  }

  module _ {P : WholePlane} (A : AxisPlane P) (X : ExactPoint) where
    abbrev s : Single P.normal
    s = single A.single

    abbrev j : ℕ
    j = s.from

    -- the exact test along the plane's axis
    met : Reaches B P ↔ (P.distance ≤ℤ end_of s.sign (low_of B s.from) (high_of B s.from))
    met = reaches_along P B G.placement s

    reached : InBox (low_of B) (high_of B) X → Satisfies P X → Reaches B P
    reached h t = met.1 (meets X.k (low_of B j) (high_of B j) (X.numbers j) P.distance X.some s.sign
        (h.least j s.below) (h.greatest j s.below) (rw (single_dot s X.numbers) at t.side))

    kept : Reaches B P → Satisfies P X → Satisfies P (clamped X)
    kept r t = record {
      side = rw (single_dot s (clamped X).numbers) (has_nearest X.k (low_of B j) (high_of B j) (X.numbers j) P.distance s.sign
          (met.0 r) (rw (single_dot s X.numbers) at t.side));
    }

pub box_is : {ps : List Plane} {Ps : List WholePlane} {b : BBox3d} {B : WholeBox} → ArePlanes AxisPlane ps Ps → Share Ps → IsBox b B
    → T (box_in_view ps b) ↔ BoxInView Ps (low_of B) (high_of B)
box_is {Ps = Ps} {B = B} hs S g =
    let G = g.grid in
    let X = S.point in
    let r = box_reaches (grid_wide g) hs in (
      λ v. record {
        point = clamped G X;
        held = clamped_in G X;
        seen = every_of (λ P A h. kept G A X h.0 h.1) hs (every_both (Reaches B) (λ P. Satisfies P X) Ps (r.0 v) S.satisfied);
      },
      λ w. r.1 (every_of (λ P A t. reached G A w.point w.held t) hs w.seen),
    )
