-- The checks of the call, in their order: each way out by the test that it failed. Assumes nothing.
use mathlib.Core.Path.{◌≡◌, refl, ap, ◌∙◌}
use mathlib.Core.Bool.{Bool, true, false, ◌&&◌}
use mathlib.Core.List.{List}
use Prim.Native.Nat.{ℕ, ◌≤◌, ◌<◌}
use borrow.Author.Tests.{eq-eqb, ne_eqb, le-leb, lt-leb}
use lib.Dec.{leb}
use lib.ListN.{length}
use lib.IntN.{ℤ}
use Rattle.number.specs.Limits.{point_length, fewest_planes, most_planes}
use Rattle.number.specs.Answer.{Outcome, refused, outcome, unless, has}
use Rattle.number.proofs.Ways.{both, stops, passes}
use Rattle.whole.specs.Segment.{segment_in_view}
use Rattle.whole.specs.SegmentCall.{number_at, point_of, planes_of, view_length, count_of, permitted, segment_on_grid, whole_segment_call}

module _ (view p0 p1 : List ℤ) where
  -- the tests behind the first, of a view that says it has k planes
  abbrev pub after : ℕ → Outcome Bool
  after k =
      unless (permitted k) (refused 12)
      (unless (has (view_length k) view) (refused 1)
      (unless (segment_on_grid (planes_of view k) (point_of p0) (point_of p1)) (refused 7)
      (outcome (segment_in_view (planes_of view k) (point_of p0) (point_of p1)))))

  -- the lengths of the ends, and of the shortest view
  abbrev pub lengths : Bool
  lengths = has point_length p0 && has point_length p1 && leb (view_length fewest_planes) (length view)

  pub call_is : unless lengths (refused 1) (after (count_of (number_at view 0))) ≡ whole_segment_call view p0 p1
  unfolding whole_segment_call
  call_is = refl

  refuses : lengths ≡ false → refused 1 ≡ whole_segment_call view p0 p1
  refuses e = stops lengths (refused 1) _ e ∙ call_is

  pub other_first : (length p0 ≡ point_length → ⊥) → refused 1 ≡ whole_segment_call view p0 p1
  other_first h = refuses (ap (λ (t : Bool). t && has point_length p1 && leb (view_length fewest_planes) (length view)) (ne_eqb _ _ h))

  module _ (h : length p0 ≡ point_length) where
    pub other_second : (length p1 ≡ point_length → ⊥) → refused 1 ≡ whole_segment_call view p0 p1
    other_second i = refuses (ap (λ (t : Bool). t && leb (view_length fewest_planes) (length view)) (both (eq-eqb _ _ h) (ne_eqb _ _ i)))

    module _ (i : length p1 ≡ point_length) where
      pub too_short : length view < view_length fewest_planes → refused 1 ≡ whole_segment_call view p0 p1
      too_short l = refuses (both (both (eq-eqb _ _ h) (eq-eqb _ _ i)) (lt-leb _ _ l))

      -- the lengths hold
      module _ (l : view_length fewest_planes ≤ length view) (k : ℕ) (e : k ≡ count_of (number_at view 0)) where
        counted : (x : Outcome Bool) → x ≡ after k → x ≡ whole_segment_call view p0 p1
        counted x p = passes lengths (refused 1) _ x (both (both (eq-eqb _ _ h) (eq-eqb _ _ i)) (le-leb _ _ l)) (p ∙ ap after e) ∙ call_is

        pub too_few : k < fewest_planes → refused 12 ≡ whole_segment_call view p0 p1
        too_few m = counted (refused 12) (stops (permitted k) (refused 12) _ (ap (λ (t : Bool). t && leb k most_planes) (lt-leb _ _ m)))

        module _ (m : fewest_planes ≤ k) where
          pub too_many : most_planes < k → refused 12 ≡ whole_segment_call view p0 p1
          too_many o = counted (refused 12) (stops (permitted k) (refused 12) _ (both (le-leb _ _ m) (lt-leb _ _ o)))

          -- the count holds
          module _ (o : k ≤ most_planes) where
            abbrev grid : Bool
            grid = segment_on_grid (planes_of view k) (point_of p0) (point_of p1)

            abbrev verdict : Bool
            verdict = segment_in_view (planes_of view k) (point_of p0) (point_of p1)

            measured : (x : Outcome Bool) → x ≡ unless (has (view_length k) view) (refused 1) (unless grid (refused 7) (outcome verdict)) → x ≡ whole_segment_call view p0 p1
            measured x p = counted x (passes (permitted k) (refused 12) _ x (both (le-leb _ _ m) (le-leb _ _ o)) p)

            pub other_length : (length view ≡ view_length k → ⊥) → refused 1 ≡ whole_segment_call view p0 p1
            other_length n = measured (refused 1) (stops (has (view_length k) view) (refused 1) _ (ne_eqb _ _ n))

            -- the view's length holds
            module _ (n : length view ≡ view_length k) where
              tested : (x : Outcome Bool) → x ≡ unless grid (refused 7) (outcome verdict) → x ≡ whole_segment_call view p0 p1
              tested x p = measured x (passes (has (view_length k) view) (refused 1) _ x (eq-eqb _ _ n) p)

              pub off_grid : grid ≡ false → refused 7 ≡ whole_segment_call view p0 p1
              off_grid g = tested (refused 7) (stops grid (refused 7) _ g)

              pub answered : grid ≡ true → (x : Outcome Bool) → x ≡ outcome verdict → x ≡ whole_segment_call view p0 p1
              answered g x p = tested x (passes grid (refused 7) _ x g p)
