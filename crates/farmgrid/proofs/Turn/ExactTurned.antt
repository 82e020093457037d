-- A turn of planes and box alike changes no answer of the exact verdict on boxes. The idea: an exact point moves with them, by the placement whose translation is
-- multiplied by its k. A moved plane has it on the same side, and along each axis the placed box's bounds move as its coordinate does. Assumes nothing.
use mathlib.Core.Path.{◌≡◌, refl, sym, subst, transport, ◌∙◌}
use mathlib.Core.Logic.{◌↔◌}
use mathlib.Core.Bool.{Bool, true, false, cond, not, ◌&&◌}
use mathlib.Core.List.{List, map}
use Prim.Native.Nat.{ℕ, ◌*◌, ◌≤◌, ◌<◌}
use native.Mathlib.Nat.{mul-le-mul, le_refl}
use native.Mathlib.Omega.{arith}
use lib.Dec.{eqb, lit<}
use lib.IntN.{ℤ, pos, neg_ℤ, nat_abs, ◌+ℤ◌, ◌-ℤ◌, ◌*ℤ◌}
use lib.Signed.{◌≤ℤ◌}
use Rattle.whole.specs.Plane.{WholePlane, dotℤ}
use Rattle.whole.proofs.Integer.{of_self as self, of_pos, of_neg, of_eq, of_le, le_is, abs_times, min_left, min_right, max_left, max_right, ◌⊞◌, ◌⊟◌, ◌⊠◌}
use Rattle.whole.proofs.Dot.{dot_sum, dot_times}
use Rattle.exact.specs.ExactPoint.{ExactPoint, Satisfies, InView, InBox, BoxInView}
use Rattle.placed.specs.Placement.{turnedℤ, movedℤ, sizes, smaller, larger, WholeBox}
use Rattle.farmgrid.specs.Placement.{NonEmpty, QuarterTurn, PlacementWithin, placed_low, placed_high}
use Rattle.farmgrid.specs.FarmGrid.{low_of, high_of, moved_plane, moved_box}
use Rattle.farmgrid.specs.ExactBoxes.{ExactTurned}
use Rattle.farmgrid.proofs.Numbers.WholeSigns.{flip}
use Rattle.farmgrid.proofs.Placements.Singles.{three}
use Rattle.farmgrid.proofs.Placements.QuarterTurns.{source, target, turned_is, moved_is}
use Rattle.farmgrid.proofs.Placements.InversePlacements.{inverseℤ, crossing, undone}
use Rattle.farmgrid.proofs.Placements.PlacedRanges.{placed_is, placed_nonempty, placed_product}
use Rattle.farmgrid.proofs.Turn.TurnedDot.{keeps_dot}
use Rattle.farmgrid.proofs.Segments.EveryPlane.{every_moved}
use Rattle.farmgrid.proofs.Segments.ExactPoints.{every_map}
use Rattle.farmgrid.proofs.ExactVerdict.ExactBoxes.{box_verdict_exact, same_answer}

-- ---- a placement that moves three numbers over k
abbrev stretched : ℕ → (ℕ → ℕ → ℤ) → ℕ → ℕ → ℤ
stretched k f i j = cond (eqb i 3 && not (eqb j 3)) (pos k *ℤ f i j) (f i j)

stretched_last : (k : ℕ) (f : ℕ → ℕ → ℤ) (j : ℕ) → j < 3 → stretched k f 3 j ≡ pos k *ℤ f 3 j
stretched_last k f = three (λ j. stretched k f 3 j ≡ pos k *ℤ f 3 j) refl refl refl

stretched_placement : {b : ℕ} {f : ℕ → ℕ → ℤ} (k : ℕ) → PlacementWithin b f → PlacementWithin (k * b) (stretched k f)
stretched_placement {b} {f} k F = record {
  turn = record {
    rows = three (λ i. sizes (stretched k f i) ≡ 1) (F.turn.rows 0 (lit< tt)) (F.turn.rows 1 (lit< tt)) (F.turn.rows 2 (lit< tt));
    columns = F.turn.columns;
  };
  translation = record {
    size = λ j h. subst (λ (z : ℤ). nat_abs z ≤ k * b) (sym (stretched_last k f j h)) (rw (abs_times (pos k) (f 3 j)) (mul-le-mul (le_refl k) (F.translation.size j h)));
  };
  zeros = three (λ i. stretched k f i 3 ≡ pos 0) (F.zeros 0 (lit< tt)) (F.zeros 1 (lit< tt)) (F.zeros 2 (lit< tt));
  last = F.last;
}

abbrev moved : (ℕ → ℕ → ℤ) → ExactPoint → ExactPoint
moved f X = record { numbers = movedℤ (stretched X.k f) X.numbers; k = X.k; some = X.some }

-- ---- a moved plane has a moved point on the same side
module _ {f : ℕ → ℕ → ℤ} (F : QuarterTurn f) (P : WholePlane) (X : ExactPoint) where
  gap_moved : dotℤ (moved_plane f P).normal (moved f X).numbers -ℤ pos X.k *ℤ (moved_plane f P).distance ≡ dotℤ P.normal X.numbers -ℤ pos X.k *ℤ P.distance
  gap_moved =
      let n : ℕ → ℤ = turnedℤ f P.normal in
      let k = pos X.k in
      (λ t. (dot_sum n (turnedℤ f X.numbers) (λ j. k *ℤ f 3 j) ∙ (λ t. keeps_dot F P.normal X.numbers t +ℤ dot_times n (f 3) k t)) t
      -ℤ k *ℤ (P.distance +ℤ dotℤ n (f 3)))
      ∙ shift (dotℤ P.normal X.numbers) P.distance (dotℤ n (f 3))
    where
      shift : (x d s : ℤ) → x +ℤ pos X.k *ℤ s -ℤ pos X.k *ℤ (d +ℤ s) ≡ x -ℤ pos X.k *ℤ d
      shift x d s = of_eq (self x ⊞ of_pos X.k ⊠ self s ⊟ of_pos X.k ⊠ (self d ⊞ self s)) (self x ⊟ of_pos X.k ⊠ self d) (omega arith)

  side_moved : Satisfies (moved_plane f P) (moved f X) ↔ Satisfies P X
  side_moved = (
    λ h. record { side = subst (λ (z : ℤ). pos 0 ≤ℤ z) gap_moved h.side },
    λ h. record { side = subst (λ (z : ℤ). pos 0 ≤ℤ z) (sym gap_moved) h.side },
  )

-- ---- along one axis: a coordinate x over k, the box from l to h, a sign turned or not, and a translation t
abbrev Lies : ℕ → ℤ → ℤ → ℤ → Type 0
Lies k l h x = ((pos k *ℤ l) ≤ℤ x) × (x ≤ℤ (pos k *ℤ h))

along : (s : Bool) (k : ℕ) (l h x t : ℤ) → l ≤ℤ h
    → Lies k l h x ↔ Lies k (smaller (flip s l +ℤ t) (flip s h +ℤ t)) (larger (flip s l +ℤ t) (flip s h +ℤ t)) (flip s x +ℤ pos k *ℤ t)
along false k l h x t o =
    let p : (l +ℤ t) ≤ℤ (h +ℤ t) = (of_le (self l ⊞ self t) (self h ⊞ self t)).1 (omega (arith, (le_is l h).0 o)) in
    let a = of_le (of_pos k ⊠ self l) (self x) in
    let b = of_le (self x) (of_pos k ⊠ self h) in
    let c = of_le (of_pos k ⊠ (self l ⊞ self t)) (self x ⊞ of_pos k ⊠ self t) in
    let d = of_le (self x ⊞ of_pos k ⊠ self t) (of_pos k ⊠ (self h ⊞ self t)) in
    subst (λ (u : ℤ). Lies k l h x ↔ Lies k u (larger (l +ℤ t) (h +ℤ t)) (x +ℤ pos k *ℤ t)) (sym (min_left p))
    (subst (λ (u : ℤ). Lies k l h x ↔ Lies k (l +ℤ t) u (x +ℤ pos k *ℤ t)) (sym (max_right p))
    (λ g. (c.1 (omega (arith, a.0 g.0)), d.1 (omega (arith, b.0 g.1))), λ g. (a.1 (omega (arith, c.0 g.0)), b.1 (omega (arith, d.0 g.1)))))
along true k l h x t o =
    let p : (neg_ℤ h +ℤ t) ≤ℤ (neg_ℤ l +ℤ t) = (of_le (of_neg (self h) ⊞ self t) (of_neg (self l) ⊞ self t)).1 (omega (arith, (le_is l h).0 o)) in
    let a = of_le (of_pos k ⊠ self l) (self x) in
    let b = of_le (self x) (of_pos k ⊠ self h) in
    let c = of_le (of_pos k ⊠ (of_neg (self h) ⊞ self t)) (of_neg (self x) ⊞ of_pos k ⊠ self t) in
    let d = of_le (of_neg (self x) ⊞ of_pos k ⊠ self t) (of_pos k ⊠ (of_neg (self l) ⊞ self t)) in
    subst (λ (u : ℤ). Lies k l h x ↔ Lies k u (larger (neg_ℤ l +ℤ t) (neg_ℤ h +ℤ t)) (neg_ℤ x +ℤ pos k *ℤ t)) (sym (min_right p))
    (subst (λ (u : ℤ). Lies k l h x ↔ Lies k (neg_ℤ h +ℤ t) u (neg_ℤ x +ℤ pos k *ℤ t)) (sym (max_left p))
    (λ g. (c.1 (omega (arith, b.0 g.1)), d.1 (omega (arith, a.0 g.0))), λ g. (a.1 (omega (arith, d.0 g.1)), b.1 (omega (arith, c.0 g.0)))))

-- ---- a point is in a box exactly where the moved one is in the placed box
module _ {b : ℕ} {f : ℕ → ℕ → ℤ} (F : PlacementWithin b f) {low high : ℕ → ℤ} (o : NonEmpty low high) (X : ExactPoint) where
  axis_moved : (j : ℕ) (h : j < 3) → let i = (source F.turn j h).from in
      Lies X.k (low i) (high i) (X.numbers i) ↔ Lies X.k (placed_low f low high j) (placed_high f low high j) ((moved f X).numbers j)
  axis_moved j h =
      let s = source F.turn j h in
      let i = s.from in
      let p = placed_is F false low high j h ∙ (λ t. smaller (moved_is F low j h t) (moved_is F high j h t)) in
      let q = placed_is F true low high j h ∙ (λ t. larger (moved_is F low j h t) (moved_is F high j h t)) in
      let r : (moved f X).numbers j ≡ flip s.sign (X.numbers i) +ℤ pos X.k *ℤ f 3 j =
      λ t. turned_is F.turn X.numbers j h t +ℤ stretched_last X.k f j h t in
      transport (λ t. Lies X.k (low i) (high i) (X.numbers i) ↔ Lies X.k (sym p t) (sym q t) (sym r t))
      (along s.sign X.k (low i) (high i) (X.numbers i) (f 3 j) (o.ordered i s.below))

  in_moved : InBox low high X → InBox (placed_low f low high) (placed_high f low high) (moved f X)
  in_moved h =
      let at : (j : ℕ) (l : j < 3) → Lies X.k (placed_low f low high j) (placed_high f low high j) ((moved f X).numbers j) =
      λ j l. let s = source F.turn j l in (axis_moved j l).0 (h.least s.from s.below, h.greatest s.from s.below) in
      record { least = λ j l. (at j l).0; greatest = λ j l. (at j l).1 }

  in_back : InBox (placed_low f low high) (placed_high f low high) (moved f X) → InBox low high X
  in_back h =
      let at : (i : ℕ) → i < 3 → Lies X.k (low i) (high i) (X.numbers i) =
      λ i l.
      let t = target F.turn i l in
      let j = t.from in
      let m = t.below in
      let s = source F.turn j m in
      let c = (crossing t s i l refl).0 in
      subst (λ (i : ℕ). Lies X.k (low i) (high i) (X.numbers i)) c ((axis_moved j m).1 (h.least j m, h.greatest j m)) in
      record { least = λ i l. (at i l).0; greatest = λ i l. (at i l).1 }

-- ---- points and bounds of the same numbers
same_point : (P : WholePlane) (X Y : ExactPoint) → ((j : ℕ) → j < 3 → X.numbers j ≡ Y.numbers j) → X.k ≡ Y.k → Satisfies P X → Satisfies P Y
same_point P X Y e f h = record {
  side = subst (λ (z : ℤ). pos 0 ≤ℤ z)
      (λ t. P.normal 0 *ℤ e 0 (lit< tt) t +ℤ P.normal 1 *ℤ e 1 (lit< tt) t +ℤ P.normal 2 *ℤ e 2 (lit< tt) t -ℤ pos (f t) *ℤ P.distance) h.side;
}

same_box : {low high low' high' : ℕ → ℤ} (X Y : ExactPoint) → ((j : ℕ) → j < 3 → low j ≡ low' j) → ((j : ℕ) → j < 3 → high j ≡ high' j)
    → ((j : ℕ) → j < 3 → X.numbers j ≡ Y.numbers j) → X.k ≡ Y.k → InBox low high X → InBox low' high' Y
same_box {low} {high} {low'} {high'} X Y e f g k h = record {
  least = λ j l. transport (λ t. (pos (k t) *ℤ e j l t) ≤ℤ g j l t) (h.least j l);
  greatest = λ j l. transport (λ t. g j l t ≤ℤ (pos (k t) *ℤ f j l t)) (h.greatest j l);
}

-- ---- placed box and view, moved
module _ {b c : ℕ} {f : ℕ → ℕ → ℤ} (F : PlacementWithin b f) (B : WholeBox) (G : PlacementWithin c B.matrix) (Ps : List WholePlane) where
  some_box : NonEmpty (low_of B) (high_of B)
  some_box = placed_nonempty G B.low B.high

  placed_there : (j : ℕ) (h : j < 3) → (placed_low f (low_of B) (high_of B) j ≡ low_of (moved_box f B) j) × (placed_high f (low_of B) (high_of B) j ≡ high_of (moved_box f B) j)
  placed_there j h = (sym (placed_product F G false B.low B.high j h), sym (placed_product F G true B.low B.high j h))

  views : (X : ExactPoint) → InView (map (moved_plane f) Ps) (moved f X) ↔ InView Ps X
  views X = every_moved (λ P. Satisfies P (moved f X)) (λ P. Satisfies P X) (moved_plane f) (λ P. side_moved F.turn P X) Ps

  there : BoxInView Ps (low_of B) (high_of B) → BoxInView (map (moved_plane f) Ps) (low_of (moved_box f B)) (high_of (moved_box f B))
  there v = record {
    point = moved f v.point;
    held = same_box (moved f v.point) (moved f v.point) (λ j h. (placed_there j h).0) (λ j h. (placed_there j h).1) (λ j h. refl) refl
        (in_moved F some_box v.point v.held);
    seen = (views v.point).1 v.seen;
  }

  back : BoxInView (map (moved_plane f) Ps) (low_of (moved_box f B)) (high_of (moved_box f B)) → BoxInView Ps (low_of B) (high_of B)
  back v =
      let Y = v.point in
      let X : ExactPoint = record { numbers = movedℤ (inverseℤ (stretched Y.k f)) Y.numbers; k = Y.k; some = Y.some } in
      let e : (j : ℕ) → j < 3 → Y.numbers j ≡ (moved f X).numbers j = λ j h. sym (undone (stretched_placement Y.k F) Y.numbers j h) in record {
        point = X;
        held = in_back F some_box X (same_box Y (moved f X) (λ j h. sym (placed_there j h).0) (λ j h. sym (placed_there j h).1) e refl v.held);
        seen = (views X).0 (every_map (λ P. same_point P Y (moved f X) e refl) (map (moved_plane f) Ps) v.seen);
      }

  pub seen_alike : BoxInView (map (moved_plane f) Ps) (low_of (moved_box f B)) (high_of (moved_box f B)) ↔ BoxInView Ps (low_of B) (high_of B)
  seen_alike = (back, there)

pub exact_turned : ExactTurned
exact_turned f view view' box box' w w' Ps B answer answer' left left' F G D D' C C' r r' h h' =
    same_answer (seen_alike F B G.placement Ps)
    (box_verdict_exact view' box' w' (map (moved_plane f) Ps) (low_of (moved_box f B)) (high_of (moved_box f B)) answer' left' D' C' r' h').settled
    (box_verdict_exact view box w Ps (low_of B) (high_of B) answer left D C r h).settled
