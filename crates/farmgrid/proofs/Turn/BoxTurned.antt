-- The box verdict by axis planes is the same after a turn of planes and box alike, whether or not the planes share a point.
-- The idea: the product of the two placements moves a corner by the box's own and then by the turn, and a turn of plane and point keeps
-- their distance; so that the moved box reaches exactly as far past the moved plane.
use mathlib.Core.Path.{◌≡◌, ap, ◌∙◌}
use mathlib.Core.Logic.Iff
use mathlib.Core.Logic.{◌↔◌}
use mathlib.Core.List.{List, map}
use Prim.Native.Nat.{ℕ}
use lib.IntN.{ℤ, ◌-ℤ◌}
use Rattle.whole.specs.Plane.{WholePlane, gap}
use Rattle.placed.specs.Placement.{movedℤ, larger, WholeBox}
use Rattle.farmgrid.specs.Placement.{PlacementWithin, productℤ}
use Rattle.farmgrid.proofs.Placements.Singles.{same_dot}
use Rattle.farmgrid.proofs.Placements.QuarterTurns.{product_moves}
use Rattle.verdict.specs.declared.plane.Plane.{Plane}
use Rattle.verdict.specs.declared.bbox.BBox3d.{BBox3d}
use Rattle.verdict.specs.Frustum.{box_in_view}
use Rattle.exact.specs.ExactPoint.{Every}
use Rattle.farmgrid.specs.FarmGrid.{AxisPlane, ArePlanes, IsBox, moved_plane, moved_box}
use Rattle.farmgrid.proofs.Segments.Distance.{same_test}
use Rattle.farmgrid.proofs.Segments.EveryPlane.{every_moved}
use Rattle.farmgrid.proofs.Turn.Turned.{gap_moved}
use Rattle.farmgrid.proofs.Boxes.BoxReach.{Reaches, reach_of}
use Rattle.farmgrid.proofs.Boxes.BoxPlane.{grid_wide, box_reaches}

module _ {a : ℕ} {f : ℕ → ℕ → ℤ} (F : PlacementWithin a f) where
  module _ {c : ℕ} (B : WholeBox) (G : PlacementWithin c B.matrix) where
    -- the moved plane is as far from a corner of the moved box
    corner_moved : (P : WholePlane) (A : ℕ → ℤ) → gap (moved_plane f P) (movedℤ (productℤ B.matrix f) A) ≡ gap P (movedℤ B.matrix A)
    corner_moved P A =
        ap (λ (z : ℤ). z -ℤ (moved_plane f P).distance)
        (same_dot (moved_plane f P).normal {q = movedℤ (productℤ B.matrix f) A} {q' = movedℤ f (movedℤ B.matrix A)} (product_moves G F A))
        ∙ gap_moved F.turn P (movedℤ B.matrix A)

    pub reach_moved : (P : WholePlane) → reach_of (moved_plane f P) (moved_box f B) ≡ reach_of P B
    reach_moved P t = larger (corner_moved P B.low t) (corner_moved P B.high t)

    all_moved : (Ps : List WholePlane) → Every (Reaches (moved_box f B)) (map (moved_plane f) Ps) ↔ Every (Reaches B) Ps
    all_moved = every_moved (Reaches (moved_box f B)) (Reaches B) (moved_plane f)
        (λ P. (λ t. record { reach = rw (← reach_moved P) t.reach }, λ t. record { reach = rw (reach_moved P) t.reach }))

  -- floats ps and b of the grid, and floats ps' and b' that are the moved ones and on the grid again
  module _ {ps ps' : List Plane} {Ps : List WholePlane} (hs : ArePlanes AxisPlane ps Ps) (hs' : ArePlanes AxisPlane ps' (map (moved_plane f) Ps))
      {b b' : BBox3d} {B : WholeBox} (g : IsBox b B) (g' : IsBox b' (moved_box f B)) where
    pub box_turned : box_in_view ps' b' ≡ box_in_view ps b
    box_turned = same_test (box_in_view ps' b') (box_in_view ps b)
        (Iff.trans (box_reaches (grid_wide g') hs') (Iff.trans (all_moved B g.grid.placement Ps) (Iff.symm (box_reaches (grid_wide g) hs))))
