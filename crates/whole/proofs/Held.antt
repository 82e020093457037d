-- What the call answers of a view that holds its planes: its own checks come after those of the ends' lengths, and before the grid's. Assumes nothing.
use mathlib.Core.Path.{◌≡◌, refl, sym, ap, ◌∙◌}
use mathlib.Core.Bool.{Bool, true, false, ◌&&◌}
use mathlib.Core.List.{List}
use Prim.Native.Nat.{ℕ}
use lib.Dec.{leb}
use lib.ListN.{length}
use lib.IntN.{ℤ}
use Rattle.number.specs.Limits.{point_length, fewest_planes}
use Rattle.number.specs.Answer.{Outcome, refused, outcome, and_then, unless, has}
use Rattle.number.proofs.Ways.{both, stops, passes}
use borrow.Author.Tests.{eq-eqb, ne_eqb}
use Rattle.whole.specs.Segment.{segment_in_view}
use Rattle.whole.specs.SegmentCall.{number_at, point_of, planes_of, view_length, count_of, permitted, planes_held, segment_on_grid, whole_segment_call}

-- one test after another with the same refusal
pub unless_both : {A : Type 0} (a b : Bool) (refusal rest : A) → unless a refusal (unless b refusal rest) ≡ unless (a && b) refusal rest
unless_both true b refusal rest = refl
unless_both false b refusal rest = refl

-- what comes of a view after the three tests of its own
tested : {A : Type 0} (short few long : Bool) (n : ℕ) (f : ℕ → Outcome A) → and_then (unless short (refused 1) (unless few (refused 12) (unless long (refused 1) (outcome n)))) f
    ≡ unless short (refused 1) (unless few (refused 12) (unless long (refused 1) (f n)))
tested false few long n f = refl
tested true false long n f = refl
tested true true false n f = refl
tested true true true n f = refl

-- a test of lengths beside the view's own
pub after_lengths : {A : Type 0} (view : List ℤ) (lengths : Bool) (f : ℕ → Outcome A) → let n = count_of (number_at view 0) in
    unless lengths (refused 1) (and_then (planes_held view) f)
    ≡ unless (lengths && leb (view_length fewest_planes) (length view)) (refused 1) (unless (permitted n) (refused 12) (unless (has (view_length n) view) (refused 1) (f n)))
unfolding planes_held
after_lengths view lengths f =
    let n = count_of (number_at view 0) in
    ap (unless lengths (refused 1)) (tested (leb (view_length fewest_planes) (length view)) (permitted n) (has (view_length n) view) n f)
    ∙ unless_both lengths (leb (view_length fewest_planes) (length view)) (refused 1) _

-- what is held decides
pub not_held : {A : Type 0} (held : Outcome ℕ) (f : ℕ → Outcome A) (k : ℕ) → refused k ≡ held → refused k ≡ and_then held f
not_held held f k e = ap (λ (x : Outcome ℕ). and_then x f) e

pub is_held : {A : Type 0} (held : Outcome ℕ) (f : ℕ → Outcome A) (n : ℕ) → outcome n ≡ held → (x : Outcome A) → x ≡ f n → x ≡ and_then held f
is_held held f n e x p = p ∙ ap (λ (y : Outcome ℕ). and_then y f) e

-- ---- the call

module _ (view p0 p1 : List ℤ) where
  -- the tests behind these, of a view that holds n planes
  abbrev pub on_planes : ℕ → Outcome Bool
  on_planes n =
      unless (segment_on_grid (planes_of view n) (point_of p0) (point_of p1)) (refused 7)
      (outcome (segment_in_view (planes_of view n) (point_of p0) (point_of p1)))

  call_is : unless (has point_length p0 && has point_length p1) (refused 1) (and_then (planes_held view) on_planes) ≡ whole_segment_call view p0 p1
  unfolding whole_segment_call
  call_is = after_lengths view (has point_length p0 && has point_length p1) on_planes

  pub first_of_another : (length p0 ≡ point_length → ⊥) → refused 1 ≡ whole_segment_call view p0 p1
  first_of_another h = stops _ (refused 1) _ (ap (λ (t : Bool). t && has point_length p1) (ne_eqb _ _ h)) ∙ call_is

  module _ (h : length p0 ≡ point_length) where
    pub second_of_another : (length p1 ≡ point_length → ⊥) → refused 1 ≡ whole_segment_call view p0 p1
    second_of_another i = stops _ (refused 1) _ (both (eq-eqb _ _ h) (ne_eqb _ _ i)) ∙ call_is

    module _ (i : length p1 ≡ point_length) where
      of_lengths : (x : Outcome Bool) → x ≡ and_then (planes_held view) on_planes → x ≡ whole_segment_call view p0 p1
      of_lengths x e = passes _ (refused 1) _ x (both (eq-eqb _ _ h) (eq-eqb _ _ i)) e ∙ call_is

      pub no_view : (k : ℕ) → refused k ≡ planes_held view → refused k ≡ whole_segment_call view p0 p1
      no_view k e = of_lengths (refused k) (not_held (planes_held view) on_planes k e)

      -- what is read is the view, and the two points
      module _ (v a b : List ℤ) (e : v ≡ view) (f : a ≡ p0) (g : b ≡ p1) (n : ℕ) (k : outcome n ≡ planes_held view) where
        on_grid : segment_on_grid (planes_of v n) (point_of a) (point_of b) ≡ segment_on_grid (planes_of view n) (point_of p0) (point_of p1)
        on_grid = λ t. segment_on_grid (planes_of (e t) n) (point_of (f t)) (point_of (g t))

        pub off_grid : segment_on_grid (planes_of v n) (point_of a) (point_of b) ≡ false → refused 7 ≡ whole_segment_call view p0 p1
        off_grid x = of_lengths (refused 7) (is_held (planes_held view) on_planes n k (refused 7) (stops _ (refused 7) _ (sym on_grid ∙ x)))

        pub judged : segment_on_grid (planes_of v n) (point_of a) (point_of b) ≡ true → (z : Bool) → z ≡ segment_in_view (planes_of v n) (point_of a) (point_of b) → outcome z ≡ whole_segment_call view p0 p1
        judged x z q =
            of_lengths (outcome z)
            (is_held (planes_held view) on_planes n k (outcome z)
            (passes _ (refused 7) _ (outcome z) (sym on_grid ∙ x) (ap outcome (q ∙ (λ t. segment_in_view (planes_of (e t) n) (point_of (f t)) (point_of (g t)))))))
