-- The exact verdict on boxes on the farm grid: what its contract says of records. The idea: on the grid nothing is refused, and then the contract speaks of the planes
-- and the box that the records are of. Assumes nothing.
use mathlib.Core.Path.{◌≡◌, refl, sym, ap, subst, ◌∙◌}
use mathlib.Core.Logic.Iff
use mathlib.Core.Logic.{◌↔◌, inl, inr}
use mathlib.Core.Bool.{Bool, true, false, ◌&&◌}
use mathlib.Core.List.{List, ◌∷◌, ◌++◌}
use Prim.Native.Nat.{ℕ, ◌≤◌, ◌<◌}
use native.Mathlib.Omega.{arith}
use borrow.Author.Tests.{le-leb}
use lib.Dec.{T, lit<}
use lib.ListN.{length}
use lib.IntN.{ℤ, pos, nat_abs, ◌+ℤ◌, ◌-ℤ◌, ◌*ℤ◌}
use lib.Signed.{le_z, ◌≤ℤ◌}
use Rattle.number.specs.Limits.{grid_limit, fewest_planes}
use Rattle.number.specs.Answer.{Outcome, outcome}
use Rattle.number.specs.Every.{every}
use Rattle.whole.specs.Plane.{WholePlane}
use Rattle.whole.specs.SegmentCall.{planes_of, view_length, count_of, plane_within}
use Rattle.exact.specs.ExactPoint.{ExactPoint, Satisfies, InView, InBox, BoxInView}
use Rattle.exact.specs.BBoxCall.{low_corner, high_corner, witness_length, axis_within, box_within, Decided, Answers, WholeBoxCall}
use Rattle.exact.proofs.Calls.{on_grid_lem}
use Rattle.farmgrid.specs.FarmGrid.{low_of, high_of}
use Rattle.farmgrid.specs.Records.{Settled}
use Rattle.farmgrid.specs.WholeNumbers.{WholeView}
use Rattle.farmgrid.specs.ExactBoxes.{SamePlane, SamePlanes, none, more, ViewOf, BoundsOf, Exact, BoxVerdictExact, FiledAgrees, ExactScreened}
use Rattle.farmgrid.proofs.Segments.Distance.{same_test}
use Rattle.farmgrid.proofs.Records.WholeRecords.{planes_pass}
use Rattle.farmgrid.proofs.Records.MorePlanes.{every_without}
use Rattle.farmgrid.proofs.Records.Verdicts.{box_exact}

-- ---- the same numbers are satisfied by the same points, and hold the same

same_side : {O P : WholePlane} → SamePlane O P → (X : ExactPoint) → Satisfies O X ↔ Satisfies P X
same_side {O} {P} s X = (
  λ h. record { side = subst (λ (z : ℤ). pos 0 ≤ℤ z) e h.side },
  λ h. record { side = subst (λ (z : ℤ). pos 0 ≤ℤ z) (sym e) h.side },
)
  where
    e : O.normal 0 *ℤ X.numbers 0 +ℤ O.normal 1 *ℤ X.numbers 1 +ℤ O.normal 2 *ℤ X.numbers 2 -ℤ pos X.k *ℤ O.distance
        ≡ P.normal 0 *ℤ X.numbers 0 +ℤ P.normal 1 *ℤ X.numbers 1 +ℤ P.normal 2 *ℤ X.numbers 2 -ℤ pos X.k *ℤ P.distance
    e = λ t. s.normal 0 (lit< tt) t *ℤ X.numbers 0 +ℤ s.normal 1 (lit< tt) t *ℤ X.numbers 1 +ℤ s.normal 2 (lit< tt) t *ℤ X.numbers 2
        -ℤ pos X.k *ℤ s.distance t

pub same_view : {Os Ps : List WholePlane} → SamePlanes Os Ps → (X : ExactPoint) → InView Os X ↔ InView Ps X
same_view none X = (λ h. h, λ h. h)
same_view (more s ss) X =
    let r = same_side s X in
    let rs = same_view ss X in
    (λ h. (r.0 h.0, rs.0 h.1), λ h. (r.1 h.0, rs.1 h.1))

module _ {box : List ℤ} {low high : ℕ → ℤ} (b : BoundsOf box low high) (X : ExactPoint) where
  in_bounds : InBox (low_corner box) (high_corner box) X → InBox low high X
  in_bounds h = record {
    least = λ j l. subst (λ (z : ℤ). (pos X.k *ℤ z) ≤ℤ X.numbers j) (b.least j l) (h.least j l);
    greatest = λ j l. subst (λ (z : ℤ). X.numbers j ≤ℤ (pos X.k *ℤ z)) (b.greatest j l) (h.greatest j l);
  }

  in_corners : InBox low high X → InBox (low_corner box) (high_corner box) X
  in_corners h = record {
    least = λ j l. subst (λ (z : ℤ). (pos X.k *ℤ z) ≤ℤ X.numbers j) (sym (b.least j l)) (h.least j l);
    greatest = λ j l. subst (λ (z : ℤ). X.numbers j ≤ℤ (pos X.k *ℤ z)) (sym (b.greatest j l)) (h.greatest j l);
  }

-- ---- on the grid nothing is refused

is_true : (b : Bool) → T b → b ≡ true
is_true true t = refl
is_true false t = absurd t

bounds_pass : {box : List ℤ} {low high : ℕ → ℤ} → BoundsOf box low high → box_within box ≡ true
bounds_pass {box} {low} {high} b = λ t. along 0 (lit< tt) t && along 1 (lit< tt) t && along 2 (lit< tt) t
  where
    small : (z y : ℤ) → z ≡ y → nat_abs y ≤ grid_limit → nat_abs z ≤ grid_limit
    small z y e = subst (λ (w : ℤ). nat_abs w ≤ grid_limit) (sym e)

    along : (j : ℕ) → j < 3 → axis_within box j ≡ true
    along j l =
        let p = le-leb _ _ (small (low_corner box j) (low j) (b.least j l) (b.low_grid.size j l)) in
        let q = le-leb _ _ (small (high_corner box j) (high j) (b.greatest j l) (b.high_grid.size j l)) in
        let r = (λ t. le_z (b.least j l t) (b.greatest j l t)) ∙ is_true (le_z (low j) (high j)) (b.some.ordered j l).le in
        λ t. p t && q t && r t

module _ (view box w : List ℤ) {Ps : List WholePlane} {low high : ℕ → ℤ} (v : ViewOf view Ps) (b : BoundsOf box low high) (r : length w ≡ witness_length)
    (answer : Outcome Bool) (left : List ℤ) (h : WholeBoxCall view box w answer left) where
  abbrev W : WholeView view v.count
  W = v.lent

  decided : Decided (planes_of view v.count) (low_corner box) (high_corner box) w answer left
  decided =
      let f = W.fewest in
      let l : view_length fewest_planes ≤ length view = omega (arith, W.numbers) in
      let g : every plane_within (planes_of view v.count) && box_within box ≡ true = λ t. planes_pass (planes_of view v.count) W.kind t && bounds_pass b t in
      subst (Answers view box w answer left)
      (sym (on_grid_lem view box (length w) b.numbers l v.count (ap count_of (sym W.counted)) W.fewest W.most W.numbers r g)) h

  shown : BoxInView (planes_of view v.count) (low_corner box) (high_corner box) → BoxInView Ps low high
  shown s = record { point = s.point; held = in_bounds b s.point s.held; seen = (same_view v.planes s.point).0 s.seen }

  hidden : BoxInView Ps low high → BoxInView (planes_of view v.count) (low_corner box) (high_corner box)
  hidden s = record { point = s.point; held = in_corners b s.point s.held; seen = (same_view v.planes s.point).1 s.seen }

  yes_or_no_lem : outcome true ≡ outcome false → ⊥
  yes_or_no_lem e = let z : true ≡ false = cc in subst T z tt

  pub exactly_so : Exact Ps low high w answer left
  exactly_so = elim decided [
    | inl y ↦
        let q = y.1 in
        let s : BoxInView (planes_of view v.count) (low_corner box) (high_corner box) = record { point = q.point; held = q.held; seen = q.seen } in record {
          settled = record { verdict = true; answered = y.0; exact = (λ t. shown s, λ t. tt) };
          yes = λ e. record { point = q.point; numbers = q.numbers; held = in_bounds b q.point q.held; seen = (same_view v.planes q.point).0 q.seen };
          kept = λ e. absurd (yes_or_no_lem (sym y.0 ∙ e));
        }
    | inr m ↦ record {
      settled = record { verdict = false; answered = m.0; exact = (λ t. absurd t, λ s. m.2 (hidden s)) };
      yes = λ e. absurd (yes_or_no_lem (sym e ∙ m.0));
      kept = λ e. m.1;
    }
  ]

pub box_verdict_exact : BoxVerdictExact
box_verdict_exact view box w Ps low high answer left v b r h = exactly_so view box w v b r answer left h

-- ---- two settled answers to one question are one
pub same_answer : {a a' : Outcome Bool} {A A' : Type 0} → A ↔ A' → Settled a A → Settled a' A' → a ≡ a'
same_answer e s s' = s.answered ∙ ap outcome (same_test s.verdict s'.verdict (Iff.trans s.exact (Iff.trans e (Iff.symm s'.exact)))) ∙ sym s'.answered

pub filed_agrees : FiledAgrees
filed_agrees v b view box w Ps B answer left D S C W G r h =
    same_answer (λ t. t, λ t. t) (box_verdict_exact view box w Ps (low_of B) (high_of B) answer left W G r h).settled (box_exact v b Ps B D S C)

pub exact_screened : ExactScreened
exact_screened view view' box w w' Ps P Qs low high answer answer' left left' D D' G r r' h h' =
    let s = (box_verdict_exact view box w (Ps ++ Qs) low high answer left D G r h).settled in
    let s' = (box_verdict_exact view' box w' (Ps ++ P ∷ Qs) low high answer' left' D' G r' h').settled in record {
      was = s.verdict;
      is = s'.verdict;
      answered_before = s.answered;
      answered_after = s'.answered;
      kept = λ t.
          let q = s'.exact.0 t in
          s.exact.1 (record { point = q.point; held = q.held; seen = every_without (λ O. Satisfies O q.point) P Qs Ps q.seen });
    }
