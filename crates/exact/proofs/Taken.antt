-- Taking the constraints one by one: from a point that those taken have in view to one more of them, or to that no point satisfies them. Assumes nothing.
use mathlib.Core.Path.{◌≡◌, sym, subst, ◌∙◌}
use mathlib.Core.Bool.{Bool, true, false}
use mathlib.Core.List.{List}
use Prim.Native.Nat.{ℕ, zero, suc, ◌+◌, ◌≤◌, ◌<◌}
use native.Mathlib.Omega.{arith}
use lib.Dec.{T, lit≤}
use lib.IntN.{ℤ, pos, ◌-ℤ◌, ◌*ℤ◌}
use lib.Signed.{le_z, ◌≤ℤ◌}
use Rattle.whole.specs.Plane.{WholePlane, dotℤ}
use Rattle.whole.proofs.Integer.{of_self as self, of_pos, of_le, ◌⊠◌}
use Rattle.exact.specs.declared.plane.Plane.{Plane}
use Rattle.exact.specs.declared.plane.Point.{Point}
use Rattle.exact.specs.ExactPoint.{ExactPoint, Satisfies, InBox}
use Rattle.exact.specs.BBoxCall.{low_corner, high_corner, box_within}
use Rattle.exact.specs.Steps.{vec_of, vec, plane_of, plane, gap_at, faces, constraint_at, farthest, whole_point, Shared, Satisfying, Good}
use Rattle.exact.proofs.Crossing.{Holds}
use Rattle.exact.proofs.Faces.{grid_box, in_box, faces_hold}
use Rattle.exact.proofs.Step.{none_shared}
use Rattle.exact.proofs.Seeing.{one_seen}
use Rattle.exact.proofs.Farthest.{reaches_it, corner_small, corner_found}

-- ---- a point that was found, as an exact point
module _ {view box : List ℤ} {n : ℕ} {p : Point} (f : Satisfying view box n p) where
  abbrev pub point_of : ExactPoint
  point_of = record { numbers = vec_of p.numbers; k = f.k; some = f.some }

  pub satisfied : (P : WholePlane) → pos 0 ≤ℤ gap_at P p → Satisfies P point_of
  satisfied P h = record { side = subst (λ (z : ℤ). pos 0 ≤ℤ (dotℤ P.normal (vec_of p.numbers) -ℤ z *ℤ P.distance)) f.is h }

  seen_by : (P : WholePlane) → Satisfies P point_of → pos 0 ≤ℤ gap_at P p
  seen_by P h = subst (λ (z : ℤ). pos 0 ≤ℤ (dotℤ P.normal (vec_of p.numbers) -ℤ z *ℤ P.distance)) (sym f.is) h.side

  holds : Holds (constraint_at view box) n point_of
  holds = record { each = λ i l. satisfied (constraint_at view box i) (f.seen.each i l) }

  -- one constraint more holds there
  pub more_found : pos 0 ≤ℤ gap_at (constraint_at view box n) p → Satisfying view box (n + 1) p
  more_found h = record { k = f.k; is = f.is; some = f.some; small = f.small; seen = one_seen n f.seen h }

  -- or it fails there, and no vertex is good
  pub none_more : faces ≤ n → ¬ (pos 0 ≤ℤ gap_at (constraint_at view box n) p) → ((b c : ℕ) → b < n → c < b → ¬ Good view box n b c) → ¬ Shared view box (n + 1)
  none_more l m none = none_shared view box n none point_of holds (λ s. m (seen_by (constraint_at view box n) s)) l

pub fewer_shared : {view box : List ℤ} {n : ℕ} (m : ℕ) → m ≤ n → Shared view box n → Shared view box m
fewer_shared m l s = record { point = s.point; each = λ i k. s.each i (omega arith) }

-- ---- the least corner
module _ (view box : List ℤ) (e : box_within box ≡ true) where
  abbrev X : ExactPoint
  X = record { numbers = vec_of (vec (low_corner box)); k = 1; some = lit≤ tt }

  itself : (z : ℤ) → (pos 1 *ℤ z) ≤ℤ z
  itself z = (of_le (of_pos 1 ⊠ self z) (self z)).1 (omega arith)

  below : (y z : ℤ) → le_z y z ≡ true → y ≤ℤ (pos 1 *ℤ z)
  below y z e = let h : y ≤ℤ z = record { le = subst T (sym e) tt } in (of_le (self y) (of_pos 1 ⊠ self z)).1 (omega (arith, (of_le (self y) (self z)).0 h))

  in_it : InBox (low_corner box) (high_corner box) X
  in_it = record { least = least; greatest = greatest }
    where
      least : (j : ℕ) → j < 3 → (pos 1 *ℤ low_corner box j) ≤ℤ vec_of (vec (low_corner box)) j
      least zero l = itself (low_corner box 0)
      least (suc zero) l = itself (low_corner box 1)
      least (suc (suc zero)) l = itself (low_corner box 2)
      least (suc (suc (suc j))) l = absurd (omega arith)

      greatest : (j : ℕ) → j < 3 → vec_of (vec (low_corner box)) j ≤ℤ (pos 1 *ℤ high_corner box j)
      greatest zero l = below (low_corner box 0) (high_corner box 0) (grid_box box e).0.ordered
      greatest (suc zero) l = below (low_corner box 1) (high_corner box 1) (grid_box box e).1.ordered
      greatest (suc (suc zero)) l = below (low_corner box 2) (high_corner box 2) (grid_box box e).2.ordered
      greatest (suc (suc (suc j))) l = absurd (omega arith)

  pub first_found : Satisfying view box faces (whole_point (low_corner box))
  first_found = corner_found (low_corner box) (corner_small box e) (record { each = λ i l. (faces_hold view box X in_it i l).side })

-- ---- a plane that the box is wholly behind
pub behind_none : (view box : List ℤ) (i n : ℕ) → faces ≤ n → i < n
    → (q : Plane) → q ≡ plane (constraint_at view box i) → (p : Point) → p ≡ whole_point (farthest box (vec_of q.normal))
    → (r : Bool) → r ≡ le_z (pos 0) (gap_at (plane_of q) p) → r ≡ false → ¬ Shared view box n
behind_none view box i n l m q e p f r g h s =
    let P = constraint_at view box i in
    let t = reaches_it box P s.point (in_box view box s.point (λ j k. s.each j (omega arith))) (s.each i m) in
    let v = f ∙ (λ t. whole_point (farthest box (vec_of (e t).normal))) in
    subst T (sym (g ∙ (λ t. le_z (pos 0) (gap_at (plane_of (e t)) (v t)))) ∙ h) t.le
