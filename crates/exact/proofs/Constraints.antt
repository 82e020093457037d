-- The constraints of a box and a view by their places: the faces first, then the planes. An exact point satisfies them all exactly where it is in the box and in the
-- view. Assumes nothing.
use mathlib.Core.Path.{◌≡◌, refl, ap, subst}
use mathlib.Core.Bool.{Bool, true, false, cond}
use mathlib.Core.List.{List}
use Prim.Native.Nat.{ℕ, zero, suc, ◌+◌, ◌-◌, ◌≤◌, ◌<◌}
use native.Mathlib.Omega.{arith}
use borrow.Author.Tests.{ltb-true, ltb-false, lt-ltb, le-ltb}
use lib.Dec.{ltb}
use lib.ListN.{length}
use lib.IntN.{ℤ}
use Rattle.number.specs.Limits.{range_length, most_planes}
use Rattle.number.specs.Every.{every}
use Rattle.number.specs.Tabulate.{tabulate}
use Rattle.number.proofs.Tabulate.{passes_at}
use Rattle.whole.specs.Plane.{WholePlane}
use Rattle.whole.specs.SegmentCall.{plane_at, planes_of, view_length, plane_within}
use Rattle.exact.specs.ExactPoint.{ExactPoint, Satisfies, Every, InView, InBox}
use Rattle.exact.specs.BBoxCall.{low_corner, high_corner, box_within}
use Rattle.exact.specs.Steps.{faces, face_at, constraint_at, Constraints}
use Rattle.exact.proofs.Faces.{in_box, faces_hold, faces_within}

-- ---- which constraint stands at a place
module _ (view box : List ℤ) (i : ℕ) where
  pub face_there : i < faces → constraint_at view box i ≡ face_at box i
  face_there l = ap (λ (b : Bool). cond b (face_at box i) (plane_at view (i - faces))) (lt-ltb i faces l)

  pub plane_there : faces ≤ i → constraint_at view box i ≡ plane_at view (i - faces)
  plane_there l = ap (λ (b : Bool). cond b (face_at box i) (plane_at view (i - faces))) (le-ltb i faces l)

-- what holds of every face and every plane holds of every constraint
by_place : (view box : List ℤ) (n : ℕ) (K : WholePlane → Type 0)
    → ((i : ℕ) → i < faces → K (face_at box i)) → ((j : ℕ) → j < n → K (plane_at view j)) → (i : ℕ) → i < faces + n → K (constraint_at view box i)
by_place view box n K f g i l = go (ltb i faces) refl
  where
    go : (b : Bool) → ltb i faces ≡ b → K (cond b (face_at box i) (plane_at view (i - faces)))
    go true e = f i (ltb-true i faces e)
    go false e = let h = ltb-false i faces e in g (i - faces) (omega arith)

-- ---- the planes of a list by their places
module _ (K : WholePlane → Type 0) where
  listed : (f : ℕ → WholePlane) (n : ℕ) → Every K (tabulate f n) → (j : ℕ) → j < n → K (f j)
  unfolding tabulate
  listed f zero h j l = absurd (omega arith)
  listed f (suc n) h zero l = h.0
  listed f (suc n) h (suc j) l = listed (λ i. f (suc i)) n h.1 j (omega arith)

  list : (f : ℕ → WholePlane) (n : ℕ) → ((j : ℕ) → j < n → K (f j)) → Every K (tabulate f n)
  unfolding tabulate
  list f zero h = tt
  list f (suc n) h = (h 0 (omega arith), list (λ i. f (suc i)) n (λ j l. h (suc j) (omega arith)))

-- ---- a view and a box on the grid
module _ (view box : List ℤ) (n : ℕ) where
  pub constraints : n ≤ most_planes → length box ≡ range_length → view_length n ≤ length view → every plane_within (planes_of view n) ≡ true → box_within box ≡ true
      → Constraints view box (faces + n)
  constraints few l m p b = record {
    few = omega arith;
    corners = l;
    planes = let e : n ≡ faces + n - faces = omega arith in subst (λ (k : ℕ). view_length k ≤ length view) e m;
    within = by_place view box n (λ P. plane_within P ≡ true) (faces_within box b) (passes_at plane_within (plane_at view) n p);
  }

  -- a point satisfies them all exactly where it is in the box and in the view
  module _ (X : ExactPoint) where
    abbrev Each : Type 0
    Each = (i : ℕ) → i < faces + n → Satisfies (constraint_at view box i) X

    pub each_of : InBox (low_corner box) (high_corner box) X → InView (planes_of view n) X → Each
    each_of b v = by_place view box n (λ P. Satisfies P X)
        (λ i l. subst (λ (P : WholePlane). Satisfies P X) (face_there view box i l) (faces_hold view box X b i l))
        (listed (λ P. Satisfies P X) (plane_at view) n v)

    pub held_of : Each → InBox (low_corner box) (high_corner box) X
    held_of h = in_box view box X (λ i l. h i (omega arith))

    pub seen_of : Each → InView (planes_of view n) X
    seen_of h = list (λ P. Satisfies P X) (plane_at view) n (λ j l.
        let e : faces + j - faces ≡ j = omega arith in
        subst (λ (k : ℕ). Satisfies (plane_at view k) X) e
        (subst (λ (P : WholePlane). Satisfies P X) (plane_there view box (faces + j) (omega arith)) (h (faces + j) (omega arith))))
