-- Both segment engines give one answer, of records that are the same numbers: their checks stop at the same place, and on the grid both verdicts are exact.
-- Assumes nothing.
use mathlib.Core.Path.{◌≡◌, refl, sym, ap, subst, ◌∙◌}
use mathlib.Core.Logic.Iff
use mathlib.Core.Bool.{Bool, true, false, ◌&&◌}
use mathlib.Core.List.{List, [], ◌∷◌}
use Prim.Native.Nat.{ℕ, zero, suc, ◌+◌, ◌≤◌, ◌<◌}
use native.Mathlib.Omega.{arith}
use borrow.Author.Tests.{eq-eqb, ne_eqb}
use lib.Dec.{T, T_not, eqb, leb, eqb→eq, leb→le, nleb→lt}
use lib.ListN.{length}
use lib.IntN.{ℤ, pos, negsuc}
use lib.Ieee.{Float}
use lib.Ieee.Bits.{is_true, is_false}
use Rattle.number.specs.Limits.{point_length, fewest_planes, most_planes}
use Rattle.number.specs.Answer.{refused, outcome, has}
use Rattle.number.specs.Slice.{at}
use Rattle.number.specs.Every.{every}
use Rattle.number.specs.Tabulate.{tabulate}
use Rattle.number.proofs.Tabulate.{passes_at}
use Rattle.matrix.specs.Vec.{axis, vec3_of}
use Rattle.whole.specs.Plane.{WholePlane}
use Rattle.whole.specs.Segment.{segment_in_view as whole_in_view}
use Rattle.whole.specs.SegmentCall.{number_at, point_of, plane_start, plane_at as whole_plane_at, planes_of as whole_planes_of, view_length, count_of, plane_within, segment_on_grid, whole_segment_call}
use Rattle.whole.proofs.Integer.{by_test}
use Rattle.whole.proofs.Limits.{grid_parts}
use Rattle.whole.proofs.Checks.{other_first, other_second, too_short, too_few, too_many, other_length, off_grid, answered}
use Rattle.verdict.specs.declared.plane.Plane.{Plane}
use Rattle.verdict.specs.View.{volume_length, whole_part, is_count, plane_count_of, planes_held, plane_at, planes_of}
use Rattle.verdict.specs.Frustum.{segment_in_view}
use Rattle.verdict.specs.FrustumCalls.{have_lengths, intersects_segment_call}
use Rattle.verdict.proofs.PlaneCount.{no_count, a_count}
use Rattle.verdict.proofs.PlanesHeld.{too_short as short_volume, no_count as uncounted, other_length as other_volume, all_held}
use Rattle.verdict.proofs.VerdictChecks.{two_inputs, wrong_length, not_held}
use Rattle.verdict.proofs.VerdictCalls.{segment_call, segment_answered}
use Rattle.farmgrid.specs.Whole.{Whole}
use Rattle.farmgrid.specs.Placement.{WholeVec}
use Rattle.farmgrid.specs.FarmGrid.{SegmentPlane, IsPoint, IsPlane, ArePlanes, none, more}
use Rattle.farmgrid.specs.WholeNumbers.{FloatsOf, SameEnd, SameView, OneVerdict, OneAnswer}
use Rattle.farmgrid.proofs.Placements.Singles.{three}
use Rattle.farmgrid.proofs.Numbers.Exact.{eq_whole}
use Rattle.farmgrid.proofs.Records.Counts.{count_exact}
use Rattle.farmgrid.proofs.Records.FiniteNumbers.{end_finite, same_view_finite}
use Rattle.farmgrid.proofs.Segments.Distance.{same_test}
use Rattle.farmgrid.proofs.Segments.Segment.{segment_is}
use Rattle.farmgrid.proofs.Records.Verdicts.{segment_exact}
use Rattle.farmgrid.proofs.Segments.WholeSegment.{whole_segment_is}
use Rattle.farmgrid.proofs.Records.WholeRecords.{grid_point, segment_plane, whole_segment_exact}

-- ---- the count in front

-- a float is one whole number at most
pub one_whole_number : {x : Float} {a b : ℤ} → Whole x a → Whole x b → a ≡ b
one_whole_number g h = (eq_whole g h).0 ((eq_whole g g).1 refl)

module _ {x : Float} {z : ℤ} (w : Whole x z) where
  -- a number that is taken for a count is the whole number's
  same_count : (n : ℕ) → plane_count_of x ≡ outcome n → (fewest_planes ≤ count_of z) × (count_of z ≤ most_planes)
  same_count n e =
      let c = (count_exact x n).0 e in
      let f = ap count_of (one_whole_number w c.whole) in
      let l = c.fewest in
      let m = c.most in
      (omega (arith, f), omega (arith, f))

  not_counted : ((fewest_planes ≤ count_of z) × (count_of z ≤ most_planes) → ⊥) → refused 12 ≡ plane_count_of x
  not_counted h = by_test (λ t. is_count x ≡ t → refused 12 ≡ plane_count_of x) (is_count x)
      (λ t e. absurd (h (same_count (whole_part x) (sym (a_count x (whole_part x) e refl)))))
      (λ t e. no_count x e) refl

counted_whole : {x : Float} (z : ℤ) → Whole x z → fewest_planes ≤ count_of z → count_of z ≤ most_planes → outcome (count_of z) ≡ plane_count_of x
counted_whole {x} (pos n) w l m = sym ((count_exact x n).1 (record { whole = w; fewest = l; most = m }))
counted_whole (negsuc n) w l m = absurd (omega (arith, l))

-- ---- points and planes

module _ {p : List ℤ} {q : List Float} (F : FloatsOf p q) where
  end_whole : length p ≡ point_length → WholeVec (vec3_of q) (point_of p)
  end_whole h = record {
    at = three (λ i. Whole (axis (vec3_of q) i) (point_of p i)) (F.same 0 (omega (arith, h))) (F.same 1 (omega (arith, h))) (F.same 2 (omega (arith, h)));
  }

each : (f : ℕ → Plane) (g : ℕ → WholePlane) (n : ℕ) → ((i : ℕ) → i < n → IsPlane SegmentPlane (f i) (g i)) → ArePlanes SegmentPlane (tabulate f n) (tabulate g n)
unfolding tabulate
each f g zero h = none
each f g (suc n) h = more (h 0 (omega arith)) (each (λ i. f (suc i)) (λ i. g (suc i)) n (λ i l. h (suc i) (omega arith)))

module _ {view : List ℤ} {v : List Float} (F : FloatsOf view v) where
  plane_whole : (i : ℕ) → plane_start i + 3 < length view → plane_within (whole_plane_at view i) ≡ true → IsPlane SegmentPlane (plane_at v i) (whole_plane_at view i)
  plane_whole i h e =
      let from = plane_start i in record {
        normal = record {
          at = three (λ j. Whole (axis (plane_at v i).normal j) (number_at view (from + j)))
              (F.same (from + 0) (omega arith)) (F.same (from + 1) (omega arith)) (F.same (from + 2) (omega arith));
        };
        distance = F.same (from + 3) h;
        kind = segment_plane (whole_plane_at view i) e;
      }

  pub planes_whole : (n : ℕ) → plane_start n ≤ length view → every plane_within (whole_planes_of view n) ≡ true → ArePlanes SegmentPlane (planes_of v n) (whole_planes_of view n)
  planes_whole n h e = each (plane_at v) (whole_plane_at view) n (λ i l. plane_whole i (omega arith) (passes_at plane_within (whole_plane_at view) n e i l))

-- ---- the checks

module _ (view p0 p1 : List ℤ) (v q0 q1 : List Float) (S : SameView view v) (E0 : SameEnd p0 q0) (E1 : SameEnd p1 q1)
    (grid : whole_segment_call view p0 p1 ≡ refused 7 → ⊥) where
  abbrev Goal : Type 0
  Goal = whole_segment_call view p0 p1 ≡ intersects_segment_call v q0 q1

  -- the float engine's test of its ends
  ends : have_lengths ((3, q0) ∷ (3, q1) ∷ []) ≡ (has point_length p0 && has point_length p1)
  ends = two_inputs 3 q0 3 q1 ∙ (λ t. eqb (E0.numbers t) 3 && eqb (E1.numbers t) 3)

  first_other : (length p0 ≡ point_length → ⊥) → Goal
  first_other h =
      sym (other_first view p0 p1 h) ∙ wrong_length _ _ _ _ _ (ends ∙ ap (λ (t : Bool). t && has point_length p1) (ne_eqb _ _ h)) ∙ segment_call v q0 q1

  module _ (h : length p0 ≡ point_length) where
    second_other : (length p1 ≡ point_length → ⊥) → Goal
    second_other i =
        sym (other_second view p0 p1 h i) ∙ wrong_length _ _ _ _ _ (ends ∙ (λ t. eq-eqb _ _ h t && ne_eqb _ _ i t)) ∙ segment_call v q0 q1

    module _ (i : length p1 ≡ point_length) where
      ends_pass : have_lengths ((3, q0) ∷ (3, q1) ∷ []) ≡ true
      ends_pass = ends ∙ (λ t. eq-eqb _ _ h t && eq-eqb _ _ i t)

      -- what the volume is refused with
      refused_both : (k : ℕ) → refused k ≡ whole_segment_call view p0 p1 → refused k ≡ planes_held v → Goal
      refused_both k e f = sym e ∙ not_held _ _ _ _ _ ends_pass k f ∙ segment_call v q0 q1

      short : length view < view_length fewest_planes → Goal
      short l = refused_both 1 (too_short view p0 p1 h i l) (short_volume v (omega (arith, S.numbers)))

      module _ (l : view_length fewest_planes ≤ length view) where
        abbrev n : ℕ
        n = count_of (number_at view 0)

        front : Whole (at v 0) (number_at view 0)
        front = S.floats.same 0 (omega (arith, l))

        long : volume_length fewest_planes ≤ length v
        long = omega (arith, l, S.numbers)

        few : n < fewest_planes → Goal
        few m = refused_both 12 (too_few view p0 p1 h i l n refl m) (uncounted v long 12 (not_counted front (λ o. omega (arith, o.0, m))))

        module _ (m : fewest_planes ≤ n) where
          many : most_planes < n → Goal
          many o = refused_both 12 (too_many view p0 p1 h i l n refl m o) (uncounted v long 12 (not_counted front (λ x. omega (arith, x.1, o))))

          module _ (o : n ≤ most_planes) where
            count : outcome n ≡ plane_count_of (at v 0)
            count = counted_whole (number_at view 0) front m o

            longer : (length view ≡ view_length n → ⊥) → Goal
            longer x = refused_both 1 (other_length view p0 p1 h i l n refl m o x) (other_volume v long n count (λ y. x (omega (arith, y, S.numbers))))

            module _ (x : length view ≡ view_length n) where
              abbrev Ps : List WholePlane
              Ps = whole_planes_of view n

              abbrev A : ℕ → ℤ
              A = point_of p0

              abbrev B : ℕ → ℤ
              B = point_of p1

              off : segment_on_grid Ps A B ≡ false → Goal
              off e = absurd (grid (sym (off_grid view p0 p1 h i l n refl m o x e)))

              on : segment_on_grid Ps A B ≡ true → Goal
              on e =
                  let g = grid_parts Ps A B e in
                  let hs = planes_whole S.floats n (omega (arith, x)) g.2 in
                  let a : IsPoint (vec3_of q0) A = record { numbers = end_whole E0.floats h; grid = grid_point A g.0 } in
                  let b : IsPoint (vec3_of q1) B = record { numbers = end_whole E1.floats i; grid = grid_point B g.1 } in
                  let same = same_test (whole_in_view Ps A B) (segment_in_view (planes_of v n) (vec3_of q0) (vec3_of q1)) (Iff.trans (whole_segment_is A B Ps) (Iff.symm (segment_is hs a b))) in
                  sym (answered view p0 p1 h i l n refl m o x e _ refl) ∙ ap outcome same
                  ∙ sym (segment_answered v n (all_held v long n count (omega (arith, x, S.numbers))) (same_view_finite S) q0 q1 (E0.numbers ∙ h) (E1.numbers ∙ i)
                  (end_finite E0) (end_finite E1))

              decided : Goal
              decided = by_test (λ t. Goal) (segment_on_grid Ps A B) (λ t. on (is_true (segment_on_grid Ps A B) t)) (λ t. off (is_false (segment_on_grid Ps A B) t))

            by_length : Goal
            by_length = by_test (λ t. Goal) (eqb (length view) (view_length n))
                (λ t. decided (eqb→eq (length view) (view_length n) t)) (λ t. longer (λ x. T_not (eqb (length view) (view_length n)) t (subst T (sym (eq-eqb (length view) (view_length n) x)) tt)))

          by_most : Goal
          by_most = by_test (λ t. Goal) (leb n most_planes) (λ t. by_length (leb→le n most_planes t)) (λ t. many (nleb→lt n most_planes t))

        by_fewest : Goal
        by_fewest = by_test (λ t. Goal) (leb fewest_planes n) (λ t. by_most (leb→le fewest_planes n t)) (λ t. few (nleb→lt fewest_planes n t))

      by_view : Goal
      by_view = by_test (λ t. Goal) (leb (view_length fewest_planes) (length view))
          (λ t. by_fewest (leb→le (view_length fewest_planes) (length view) t)) (λ t. short (nleb→lt (view_length fewest_planes) (length view) t))

    by_second : Goal
    by_second = by_test (λ t. Goal) (eqb (length p1) point_length)
        (λ t. by_view (eqb→eq (length p1) point_length t)) (λ t. second_other (λ x. T_not (eqb (length p1) point_length) t (subst T (sym (eq-eqb (length p1) point_length x)) tt)))

  pub both_answer : Goal
  both_answer = by_test (λ t. Goal) (eqb (length p0) point_length)
      (λ t. by_second (eqb→eq (length p0) point_length t)) (λ t. first_other (λ x. T_not (eqb (length p0) point_length) t (subst T (sym (eq-eqb (length p0) point_length x)) tt)))

pub one_answer : OneAnswer
one_answer view p0 p1 v q0 q1 S E0 E1 grid = both_answer view p0 p1 v q0 q1 S E0 E1 grid

-- ---- on records of the farm grid both are exact

pub one_verdict : OneVerdict
one_verdict view p0 p1 n v q0 q1 W P Q W' P' Q' =
    let whole = whole_segment_exact view p0 p1 n W P Q in
    let float = segment_exact v q0 q1 (whole_planes_of view n) (point_of p0) (point_of p1) W' P' Q' in
    whole.answered ∙ ap outcome (same_test whole.verdict float.verdict (Iff.trans whole.exact (Iff.symm float.exact))) ∙ sym float.answered
