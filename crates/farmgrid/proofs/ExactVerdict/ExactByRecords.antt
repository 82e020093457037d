-- The exact verdict on records, claimed and proved: on the grid the tests pass, and the whole numbers are those that the records are of; elsewhere a test fails, and the
-- refusals of the filed verdict are never 7. Assumes nothing.
use mathlib.Core.Path.{◌≡◌, refl, sym, ap, subst, ◌∙◌}
use mathlib.Core.Logic.{◌↔◌, inl, inr}
use mathlib.Core.Bool.{Bool, true, false, true≢false, ◌&&◌}
use mathlib.Core.List.{List, [], ◌∷◌}
use Prim.Native.Nat.{ℕ, ◌<◌}
use native.Mathlib.Omega.{arith}
use borrow.Author.Tests.{eqb-true}
use lib.Dec.{leb}
use lib.ListN.{length}
use lib.IntN.{ℤ, pos, ◌*ℤ◌}
use lib.Signed.{◌≤ℤ◌}
use lib.Ieee.{Float}
use lib.Ieee.Bits.{is_true}
use Rattle.number.specs.Limits.{box_length, fewest_planes}
use Rattle.number.specs.Answer.{Outcome, refused, outcome, and_then, unless, has}
use Rattle.number.specs.Every.{every}
use Rattle.number.specs.Slice.{at, all_finite}
use Rattle.number.proofs.Tests.{both_hold}
use Rattle.whole.specs.Plane.{WholePlane}
use Rattle.whole.specs.SegmentCall.{plane_within}
use Rattle.exact.specs.ExactPoint.{ExactPoint, InBox, BoxInView}
use Rattle.verdict.specs.BBox.{box_of}
use Rattle.verdict.specs.BBoxCalls.{flagged}
use Rattle.verdict.specs.View.{volume_length, whole_part, is_count, plane_count_of, planes_held, planes_of}
use Rattle.verdict.specs.Frustum.{box_in_view}
use Rattle.verdict.specs.FrustumCalls.{have_lengths, verdict_after, intersects_box_call}
use Rattle.verdict.proofs.VerdictChecks.{one_input}
use Rattle.verdict.proofs.VerdictCalls.{box_call}
use Rattle.placed.specs.Numbers.{are_whole_numbers}
use Rattle.placed.specs.Placement.{WholeBox, placed_least, placed_greatest, is_grid_box}
use Rattle.placed.specs.BBoxCall.{view_numbers, planes_in, box_numbers, box_in, on_grid, Decides, ByGrid, After, ExactBoxCall}
use Rattle.placed.proofs.Counted.{counted, counted_in}
use Rattle.farmgrid.specs.FarmGrid.{SegmentPlane, AxisPlane, ArePlanes, none, more, low_of, high_of}
use Rattle.farmgrid.specs.Records.{ViewRecord, BoxRecord, Settled}
use Rattle.farmgrid.specs.ExactByRecords.{ByRecords, OneBlock, TurnedByRecords, FiledAgreesByRecords, GridRecords, Answered, SevenOffGrid}
use Rattle.farmgrid.proofs.Records.FiniteNumbers.{box_record_finite, view_finite}
use Rattle.farmgrid.proofs.Records.Answers.{box_answer}
use Rattle.farmgrid.proofs.Records.Verdicts.{box_exact}
use Rattle.farmgrid.proofs.ExactVerdict.ExactBoxes.{same_view, same_answer}
use Rattle.farmgrid.proofs.Turn.ExactTurned.{seen_alike}
use Rattle.farmgrid.proofs.ExactVerdict.GridViews.{planes_alike, view_record}
use Rattle.farmgrid.proofs.ExactVerdict.GridBoxes.{least_is, greatest_is, both_pass, box_record_lem}

-- ---- boxes that are placed alike hold the same points

module _ {low high low' high' : ℕ → ℤ} (e : (j : ℕ) → j < 3 → low j ≡ low' j) (f : (j : ℕ) → j < 3 → high j ≡ high' j) where
  held_alike : {X : ExactPoint} → InBox low high X → InBox low' high' X
  held_alike {X} i = record {
    least = λ j m. subst (λ (z : ℤ). (pos X.k *ℤ z) ≤ℤ X.numbers j) (e j m) (i.least j m);
    greatest = λ j m. subst (λ (z : ℤ). X.numbers j ≤ℤ (pos X.k *ℤ z)) (f j m) (i.greatest j m);
  }

-- ---- on the grid

module _ {v b : List Float} {Ps : List WholePlane} {B : WholeBox} (R : ViewRecord SegmentPlane v Ps) (C : BoxRecord b B) where
  there : BoxInView (planes_in v) (placed_least (box_in b)) (placed_greatest (box_in b)) → BoxInView Ps (low_of B) (high_of B)
  there s = record { point = s.point; held = held_alike (least_is C) (greatest_is C) s.held; seen = (same_view (planes_alike R) s.point).0 s.seen }

  back : BoxInView Ps (low_of B) (high_of B) → BoxInView (planes_in v) (placed_least (box_in b)) (placed_greatest (box_in b))
  back s = record {
    point = s.point;
    held = held_alike (λ j h. sym (least_is C j h)) (λ j h. sym (greatest_is C j h)) s.held;
    seen = (same_view (planes_alike R) s.point).1 s.seen;
  }

  filed : intersects_box_call v b ≡ outcome (box_in_view (planes_of v R.count) (box_of b))
  filed = box_answer v R.volume (view_finite R) b C.numbers (is_true (flagged b) C.flag) (box_record_finite C)

  settled : (answer : Outcome Bool) → ExactBoxCall v b answer → Settled answer (BoxInView Ps (low_of B) (high_of B))
  settled answer h = by (subst (ByGrid v b answer) (both_pass R C) (subst (After v b answer) filed h))
    where
      by : Decides answer (BoxInView (planes_in v) (placed_least (box_in b)) (placed_greatest (box_in b))) → Settled answer (BoxInView Ps (low_of B) (high_of B))
      by (inl y) = record { verdict = true; answered = y.0; exact = (λ t. there y.1, λ s. tt) }
      by (inr n) = record { verdict = false; answered = n.0; exact = (λ t. absurd t, λ s. n.1 (back s)) }

pub by_records : ByRecords
by_records v b Ps B answer R C h = settled R C answer h

pub one_block : OneBlock
one_block v b b' Ps B B' answer answer' R C C' P h h' =
    same_answer (
      λ q. record { point = q.point; held = held_alike P.least P.greatest q.held; seen = q.seen },
      λ q. record { point = q.point; held = held_alike (λ j m. sym (P.least j m)) (λ j m. sym (P.greatest j m)) q.held; seen = q.seen },
    )
    (settled R C answer h) (settled R C' answer' h')

pub turned_by_records : TurnedByRecords
turned_by_records f v v' b b' Ps B answer answer' F W C h h' =
    same_answer (seen_alike F B C.before.box.grid.placement Ps) (settled W.after C.after answer' h') (settled W.before C.before answer h)

-- axis planes are segment planes
segment_view : {v : List Float} {Ps : List WholePlane} → ViewRecord AxisPlane v Ps → ViewRecord SegmentPlane v Ps
segment_view R = record { count = R.count; volume = R.volume; planes = segments R.planes; rays = R.rays }
  where
    segments : {ps : _} {Ps : List WholePlane} → ArePlanes AxisPlane ps Ps → ArePlanes SegmentPlane ps Ps
    segments none = none
    segments (more h hs) = more (record { normal = h.normal; distance = h.distance; kind = h.kind.segment }) (segments hs)

pub filed_agrees_by_records : FiledAgreesByRecords
filed_agrees_by_records v b Ps B answer R S C h = same_answer (λ q. q, λ q. q) (settled (segment_view R) C answer h) (box_exact v b Ps B R S C)

-- ---- what the filed verdict answers, and what it refuses with

no_result : {A : Type 0} {B : Type 0} {k : ℕ} {x : A} → ◌≡◌ {A = Outcome A} (refused k) (outcome x) → B
no_result e = let z : ◌≡◌ {A = ℕ} 0 1 = cc in absurd (omega (arith, z))

record Checked {A : Type 0} (l : Bool) (h : Outcome A) (f w : Bool) : Type 0 where
  lengths : l ≡ true
  found : A
  held : outcome found ≡ h
  flag : f ≡ true
  finite : w ≡ true

checked : {A : Type 0} (l : Bool) (h : Outcome A) (f w : Bool) (g : A → Bool) (y : Bool)
    → unless l (refused 1) (and_then h (λ x. unless f (refused 3) (unless w (refused 13) (outcome (g x))))) ≡ outcome y → Checked l h f w
checked true (outcome x) true true g y e = record { lengths = refl; found = x; held = refl; flag = refl; finite = refl }
checked true (outcome x) true false g y e = no_result e
checked true (outcome x) false w g y e = no_result e
checked true (refused k) f w g y e = no_result e
checked false h f w g y e = no_result e

not_seven : {A : Type 0} (l : Bool) (h : Outcome A) (f w : Bool) (g : A → Bool) → (h ≡ refused 7 → ⊥)
    → unless l (refused 1) (and_then h (λ x. unless f (refused 3) (unless w (refused 13) (outcome (g x))))) ≡ refused 7 → ⊥
not_seven true (outcome x) true true g n e = no_result (sym e)
not_seven true (outcome x) true false g n e = let z : ◌≡◌ {A = ℕ} 13 7 = cc in omega (arith, z)
not_seven true (outcome x) false w g n e = let z : ◌≡◌ {A = ℕ} 3 7 = cc in omega (arith, z)
not_seven true (refused k) f w g n e = let z : k ≡ 7 = cc in n (ap refused z)
not_seven false h f w g n e = let z : ◌≡◌ {A = ℕ} 1 7 = cc in omega (arith, z)

held_not_seven : (v : List Float) → planes_held v ≡ refused 7 → ⊥
unfolding planes_held plane_count_of
held_not_seven v = go (leb (volume_length fewest_planes) (length v)) (is_count (at v 0)) (whole_part (at v 0))
  where
    own : (c : Bool) (k : ℕ) → unless c (refused 1) (outcome k) ≡ refused 7 → ⊥
    own true k e = no_result (sym e)
    own false k e = let z : ◌≡◌ {A = ℕ} 1 7 = cc in omega (arith, z)

    go : (a c : Bool) (k : ℕ)
        → unless a (refused 1) (and_then (unless c (refused 12) (outcome k)) (λ n. unless (has (volume_length n) v) (refused 1) (outcome n))) ≡ refused 7 → ⊥
    go true true k e = own (has (volume_length k) v) k e
    go true false k e = let z : ◌≡◌ {A = ℕ} 12 7 = cc in omega (arith, z)
    go false c k e = let z : ◌≡◌ {A = ℕ} 1 7 = cc in omega (arith, z)

module _ (v b : List Float) where
  filed_not_seven : intersects_box_call v b ≡ refused 7 → ⊥
  unfolding verdict_after
  filed_not_seven e =
      not_seven (have_lengths ((box_length, b) ∷ [])) (planes_held v) (flagged b) (every all_finite (v ∷ b ∷ [])) (λ n. box_in_view (planes_of v n) (box_of b)) (held_not_seven v)
      (box_call v b ∙ e)

  filed_checked : (y : Bool) → intersects_box_call v b ≡ outcome y → Checked (have_lengths ((box_length, b) ∷ [])) (planes_held v) (flagged b) (every all_finite (v ∷ b ∷ []))
  unfolding verdict_after
  filed_checked y e =
      checked (have_lengths ((box_length, b) ∷ [])) (planes_held v) (flagged b) (every all_finite (v ∷ b ∷ [])) (λ n. box_in_view (planes_of v n) (box_of b)) y (box_call v b ∙ e)

  both_finite : every all_finite (v ∷ b ∷ []) ≡ true → (all_finite v ≡ true) × (all_finite b ≡ true)
  unfolding every
  both_finite e =
      let h = both_hold (all_finite v) (all_finite b && true) e in
      (h.0, (both_hold (all_finite b) true h.1).0)

  -- what passes every test is on the grid
  grid_records : (y : Bool) → intersects_box_call v b ≡ outcome y → on_grid v b ≡ true → GridRecords v b
  unfolding on_grid
  grid_records y e g =
      let k = filed_checked y e in
      let W = are_whole_numbers (view_numbers v) in
      let P = every plane_within (planes_in v) in
      let N = are_whole_numbers (box_numbers b) in
      let h = both_hold (W && P && N) (is_grid_box (box_in b)) g in
      let i = both_hold (W && P) N h.0 in
      let j = both_hold W P i.0 in
      let n = k.found in record {
        planes = planes_in v;
        box = box_in b;
        view_record = view_record v (counted_in v n (counted v n k.held)) (both_finite k.finite).0 j.0 j.1;
        box_record = box_record_lem b (eqb-true _ _ (sym (one_input box_length b) ∙ k.lengths)) k.flag i.1 h.1;
      }

  abbrev Seven : Outcome Bool → Type 0
  Seven answer = (answer ≡ refused 7) ↔ (Answered (intersects_box_call v b) × ¬ GridRecords v b)

  seven : (answer : Outcome Bool) → ExactBoxCall v b answer → Seven answer
  seven answer = go (intersects_box_call v b) refl
    where
      by_test : (y : Bool) → intersects_box_call v b ≡ outcome y → (g : Bool) → on_grid v b ≡ g → ByGrid v b answer g → Seven answer
      by_test y e false f p = (λ q. (record { verdict = y; is = e }, λ r. true≢false (sym (both_pass r.view_record r.box_record) ∙ f)), λ q. p)
      by_test y e true f (inl p) = (λ q. no_result (sym q ∙ p.0), λ q. absurd (q.1 (grid_records y e f)))
      by_test y e true f (inr p) = (λ q. no_result (sym q ∙ p.0), λ q. absurd (q.1 (grid_records y e f)))

      go : (o : Outcome Bool) → intersects_box_call v b ≡ o → After v b answer o → Seven answer
      go (refused k) e p = (λ q. absurd (filed_not_seven (e ∙ sym p ∙ q)), λ q. no_result (sym e ∙ q.0.is))
      go (outcome y) e p = by_test y e (on_grid v b) refl p

pub seven_off_grid : SevenOffGrid
seven_off_grid v b answer h = seven v b answer h
