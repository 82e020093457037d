-- Where the box of a group is out of a view of axis planes, every member is. The idea: the verdict asks plane by plane whether a box reaches the plane, and along
-- an axis the group reaches as far as the furthest of its members; so a plane that a member reaches is reached by the group. Assumes nothing.
use mathlib.Core.Path.{◌≡◌, refl, sym, ap, ◌∙◌, subst}
use mathlib.Core.Bool.{Bool, true, false}
use mathlib.Core.List.{List, ◌∷◌}
use Prim.Native.Nat.{ℕ, ◌<◌}
use native.Mathlib.Omega.{arith}
use lib.Dec.{T}
use lib.IntN.{ℤ}
use lib.Signed.{◌≤ℤ◌}
use lib.Ieee.{Float}
use lib.Ieee.Bits.{is_true}
use Rattle.number.specs.Answer.{outcome}
use Rattle.verdict.specs.BBox.{box_of}
use Rattle.verdict.specs.BBoxCalls.{flagged}
use Rattle.verdict.specs.View.{planes_of}
use Rattle.verdict.specs.Frustum.{box_in_view}
use Rattle.verdict.specs.FrustumCalls.{intersects_box_call}
use Rattle.whole.proofs.Integer.{of_self as self, of_neg, of_le, le_is}
use Rattle.whole.specs.Plane.{WholePlane}
use Rattle.farmgrid.proofs.Placements.Singles.{single}
use Rattle.farmgrid.specs.Placement.{PlacementWithin}
use Rattle.placed.specs.Placement.{WholeBox}
use Rattle.farmgrid.specs.FarmGrid.{AxisPlane, low_of, high_of}
use Rattle.farmgrid.specs.Records.{ViewRecord, BoxRecord, BoxRecords, none, more}
use Rattle.farmgrid.specs.Combining.{CornerCoordinate, other}
use Rattle.farmgrid.specs.Grouping.{EachRecord, GroupOut}
use Rattle.farmgrid.proofs.Segments.EveryPlane.{every_of}
use Rattle.farmgrid.proofs.Boxes.BoxReach.{Reaches, end_of, reaches_along}
use Rattle.farmgrid.proofs.Boxes.BoxPlane.{Wide, grid_wide, box_reaches}
use Rattle.farmgrid.proofs.Records.FiniteNumbers.{box_finite, box_record_finite, view_finite}
use Rattle.farmgrid.proofs.Records.Answers.{box_answer}
use Rattle.farmgrid.proofs.Combine.CombinedBoxes.{extent_of}
use Rattle.farmgrid.proofs.Combine.PlacedCorners.{listed, box_among, listed_least, listed_greatest}
use Rattle.farmgrid.proofs.Combine.CombinedRecords.{Stands}
use Rattle.farmgrid.proofs.Group.Mixed.{last_placed}

-- ---- along one axis

further : (s : Bool) (low high low' high' d : ℤ) → low' ≤ℤ low → high ≤ℤ high' → d ≤ℤ end_of s low high → d ≤ℤ end_of s low' high'
further false low high low' high' d l h t = (le_is d high').1 (omega (arith, (le_is high high').0 h, (le_is d high).0 t))
further true low high low' high' d l h t =
    (of_le (self d) (of_neg (self low'))).1 (omega (arith, (le_is low' low).0 l, (of_le (self d) (of_neg (self low))).0 t))

-- ---- a box C inside what a box B is placed as

module _ {a b : ℕ} {B C : WholeBox} (F : PlacementWithin a B.matrix) (G : PlacementWithin b C.matrix) (least : (j : ℕ) → j < 3 → low_of B j ≤ℤ low_of C j)
    (greatest : (j : ℕ) → j < 3 → high_of C j ≤ℤ high_of B j) where
  pub reaches_as_well : (P : WholePlane) → AxisPlane P → Reaches C P → Reaches B P
  reaches_as_well P A r =
      let s = single A.single in
      let j = s.from in
      (reaches_along P B F s).1
      (further s.sign (low_of C j) (high_of C j) (low_of B j) (high_of B j) P.distance (least j s.below) (greatest j s.below) ((reaches_along P C G s).0 r))

-- ---- the verdicts

-- where one verdict brings another, and that one is no, so is it
no_as_well : (u w : Bool) → (T u → T w) → w ≡ false → u ≡ false
no_as_well false w f e = refl
no_as_well true true f e = e
no_as_well true false f e = absurd (f tt)

module _ (B : WholeBox) (Bs : List WholeBox) {last : List Float} (S : Stands last (listed B Bs)) {v : List Float} {Ps : List WholePlane} (W : ViewRecord AxisPlane v Ps) where
  -- the box of the record left, in whole numbers
  abbrev L : WholeBox
  L = record { low = S.holds.low; high = S.holds.high; matrix = S.holds.matrix }

  wide : Wide (box_of last) L
  wide =
      let H = S.holds in
      record { range = H.range_is; matrix = H.matrix_is; low = H.low_size; high = H.high_size; some = H.some; placement = H.placement }

  abbrev verdict : List Float → Bool
  verdict s = box_in_view (planes_of v W.count) (box_of s)

  -- a box of the list lies inside it
  module _ {C : WholeBox} (among : (u : Bool) (j : ℕ) → CornerCoordinate j (extent_of C u j) (B ∷ Bs)) where
    least : (j : ℕ) → j < 3 → low_of L j ≤ℤ low_of C j
    least j h = subst (λ (z : ℤ). z ≤ℤ low_of C j) (sym (S.holds.extent false j h)) ((listed_least B Bs j).least (among false j))

    greatest : (j : ℕ) → j < 3 → high_of C j ≤ℤ high_of L j
    greatest j h = subst (λ (z : ℤ). high_of C j ≤ℤ z) (sym (S.holds.extent true j h)) ((listed_greatest B Bs j).greatest (among true j))

    member_out : verdict last ≡ false → {s : List Float} → BoxRecord s C → intersects_box_call v s ≡ outcome false
    member_out e {s} h =
        let brings : T (verdict s) → T (verdict last) =
        λ t. (box_reaches wide W.planes).1 (every_of (reaches_as_well S.holds.placement h.box.grid.placement least greatest) W.planes
        ((box_reaches (grid_wide h.box) W.planes).0 t)) in
        box_answer v W.volume (view_finite W) s h.numbers (is_true (flagged s) h.flag) (box_record_finite h) ∙ ap outcome (no_as_well (verdict s) (verdict last) brings e)

  members_out : verdict last ≡ false → {ss : List (List Float)} {Cs : List WholeBox} → ((j : ℕ) (z : ℤ) → CornerCoordinate j z Cs → CornerCoordinate j z (B ∷ Bs))
      → BoxRecords ss Cs → EachRecord (λ s. intersects_box_call v s ≡ outcome false) ss
  members_out e f none = tt
  members_out e f (more {B = C} {Bs = Cs} h hs) = (member_out (λ u j. f j (extent_of C u j) (box_among u j C Cs)) e h, members_out e (λ j z c. f j z (other c)) hs)

pub group_out : GroupOut
group_out ss B Bs last v Ps h l W =
    let S = last_placed h l in
    record {
      verdict = box_in_view (planes_of v W.count) (box_of last);
      -- what the calls leave is a box of whole numbers, and so a finite one
      answered = box_answer v W.volume (view_finite W) last S.numbers S.flag (box_finite last S.numbers S.flag S.holds.range_is S.holds.matrix_is);
      members = λ e. members_out B Bs S W e (λ j z c. c) h;
    }
