-- The checks of the call in their order, each way out by the test that it failed; and what a search that found a point, or none, answers. Assumes nothing.
use mathlib.Core.Path.{◌≡◌, refl, sym, ap, subst, ◌∙◌}
use mathlib.Core.Logic.{inl, inr}
use mathlib.Core.Bool.{Bool, true, false, ◌&&◌}
use mathlib.Core.List.{List, [], ◌∷◌}
use Prim.Native.Nat.{ℕ, ◌+◌, ◌≤◌, ◌<◌}
use native.Mathlib.Omega.{arith}
use borrow.Author.Tests.{eqb-true, leb-true, eq-eqb, ne_eqb, le-leb}
use lib.Dec.{T, eqb, leb}
use lib.ListN.{length}
use lib.IntN.{ℤ}
use Rattle.number.specs.Limits.{range_length, fewest_planes, most_planes}
use Rattle.number.specs.Answer.{Outcome, refused, outcome, and_then, unless, has}
use Rattle.number.specs.Every.{every}
use Rattle.number.proofs.Tests.{both_hold}
use Rattle.number.proofs.Ways.{both, stops, passes}
use Rattle.whole.specs.SegmentCall.{number_at, planes_of, view_length, count_of, permitted, planes_held, plane_within}
use Rattle.whole.proofs.Held.{after_lengths, not_held, is_held}
use Rattle.exact.specs.declared.plane.Point.{Point}
use Rattle.exact.specs.ExactPoint.{Satisfies}
use Rattle.exact.specs.BBoxCall.{low_corner, high_corner, witness_length, box_within, count_checked, Decided, Answers, WholeBoxCall}
use Rattle.exact.specs.Steps.{faces, constraint_at, Constraints, Shared, Satisfying}
use Rattle.exact.proofs.Constraints.{constraints, each_of, held_of, seen_of}
use Rattle.exact.proofs.Taken.{point_of, satisfied}

-- ---- the checks, of a view and a box, and a witness that has room for so many numbers
module _ (view box : List ℤ) (room : ℕ) where
  abbrev lengths : Bool
  lengths = has range_length box && leb (view_length fewest_planes) (length view)

  abbrev grid : ℕ → Bool
  grid n = every plane_within (planes_of view n) && box_within box

  -- the tests behind the first, of a view that says it has n planes
  abbrev after : ℕ → Outcome ℕ
  after n =
      unless (permitted n) (refused 12)
      (unless (has (view_length n) view) (refused 1)
      (unless (eqb room witness_length) (refused 2)
      (unless (grid n) (refused 7)
      (outcome n))))

  checked_is : unless lengths (refused 1) (after (count_of (number_at view 0))) ≡ count_checked view box room
  unfolding count_checked
  checked_is = refl

  abbrev Gives : Outcome ℕ → Type 0
  Gives x = x ≡ count_checked view box room

  -- the tests behind those of the box's length and the view's own, of a view that holds n planes
  abbrev on_planes : ℕ → Outcome ℕ
  on_planes n = unless (eqb room witness_length) (refused 2) (unless (grid n) (refused 7) (outcome n))

  held_is : unless (has range_length box) (refused 1) (and_then (planes_held view) on_planes) ≡ count_checked view box room
  unfolding count_checked
  held_is = after_lengths view (has range_length box) on_planes

  pub box_of_another : (length box ≡ range_length → ⊥) → Gives (refused 1)
  box_of_another h = stops _ (refused 1) _ (ne_eqb _ _ h) ∙ held_is

  module _ (h : length box ≡ range_length) where
    of_length : (x : Outcome ℕ) → x ≡ and_then (planes_held view) on_planes → Gives x
    of_length x e = passes _ (refused 1) _ x (eq-eqb _ _ h) e ∙ held_is

    pub no_view : (k : ℕ) → refused k ≡ planes_held view → Gives (refused k)
    no_view k e = of_length (refused k) (not_held (planes_held view) on_planes k e)

    -- the view holds n planes
    module _ (n : ℕ) (k : outcome n ≡ planes_held view) where
      held : (x : Outcome ℕ) → x ≡ on_planes n → Gives x
      held x e = of_length x (is_held (planes_held view) on_planes n k x e)

      pub no_room : (room ≡ witness_length → ⊥) → Gives (refused 2)
      no_room r = held (refused 2) (stops _ (refused 2) _ (ne_eqb _ _ r))

      -- what is read is the view, and the box
      module _ (r : room ≡ witness_length) (v b : List ℤ) (e : v ≡ view) (f : b ≡ box) where
        read : every plane_within (planes_of v n) && box_within b ≡ grid n
        read = λ t. every plane_within (planes_of (e t) n) && box_within (f t)

        pub not_on_grid : every plane_within (planes_of v n) && box_within b ≡ false → Gives (refused 7)
        not_on_grid g = held (refused 7) (passes _ (refused 2) _ (refused 7) (eq-eqb _ _ r) (stops _ (refused 7) _ (sym read ∙ g)))

        pub all_on_grid : every plane_within (planes_of v n) && box_within b ≡ true → Gives (outcome n)
        all_on_grid g = held (outcome n) (passes _ (refused 2) _ (outcome n) (eq-eqb _ _ r) (passes _ (refused 7) _ (outcome n) (sym read ∙ g) refl))

    -- the lengths hold
    module _ (l : view_length fewest_planes ≤ length view) (n : ℕ) (e : n ≡ count_of (number_at view 0)) where
      counted : (x : Outcome ℕ) → x ≡ after n → Gives x
      counted x p = passes lengths (refused 1) _ x (both (eq-eqb _ _ h) (le-leb _ _ l)) (p ∙ ap after e) ∙ checked_is

      module _ (m : fewest_planes ≤ n) where
        -- the count holds
        module _ (o : n ≤ most_planes) where
          measured : (x : Outcome ℕ)
              → x ≡ unless (has (view_length n) view) (refused 1) (unless (eqb room witness_length) (refused 2) (unless (grid n) (refused 7) (outcome n))) → Gives x
          measured x p = counted x (passes (permitted n) (refused 12) _ x (both (le-leb _ _ m) (le-leb _ _ o)) p)

          -- the view's length holds
          module _ (k : length view ≡ view_length n) where
            roomy : (x : Outcome ℕ) → x ≡ unless (eqb room witness_length) (refused 2) (unless (grid n) (refused 7) (outcome n)) → Gives x
            roomy x p = measured x (passes (has (view_length n) view) (refused 1) _ x (eq-eqb _ _ k) p)

            -- the witness's room holds
            module _ (r : room ≡ witness_length) where
              tested : (x : Outcome ℕ) → x ≡ unless (grid n) (refused 7) (outcome n) → Gives x
              tested x p = roomy x (passes (eqb room witness_length) (refused 2) _ x (eq-eqb _ _ r) p)

              pub off_grid : grid n ≡ false → Gives (refused 7)
              off_grid g = tested (refused 7) (stops (grid n) (refused 7) _ g)

              pub on_grid_lem : grid n ≡ true → Gives (outcome n)
              on_grid_lem g = tested (outcome n) (passes (grid n) (refused 7) _ (outcome n) g refl)

-- ---- what is known once nothing is refused

abbrev is_result : {A : Type 0} → Outcome A → Bool
is_result (refused k) = false
is_result (outcome x) = true

-- a test that was passed
past : {A : Type 0} (b : Bool) (k : ℕ) (rest : Outcome A) (x : A) → outcome x ≡ unless b (refused k) rest → (b ≡ true) × (outcome x ≡ rest)
past true k rest x e = (refl, e)
past {A} false k rest x e = absurd (subst T (ap (λ (o : Outcome A). is_result o) e) tt)

pub record Passed (view box : List ℤ) (room n : ℕ) : Type 0 where
  pub most : n ≤ most_planes
  pub corners : length box ≡ range_length
  pub numbers : length view ≡ view_length n
  pub roomy : room ≡ witness_length
  pub planes : every plane_within (planes_of view n) ≡ true
  pub bounds : box_within box ≡ true

pub passed : (view box : List ℤ) (room n : ℕ) → outcome n ≡ count_checked view box room → Passed view box room n
passed view box room n e =
    let a = past (lengths view box room) 1 (after view box room (count_of (number_at view 0))) n (e ∙ sym (checked_is view box room)) in
    let m = count_of (number_at view 0) in
    let b = past (permitted m) 12 _ n a.1 in
    let c = past (has (view_length m) view) 1 _ n b.1 in
    let d = past (eqb room witness_length) 2 _ n c.1 in
    let f = past (grid view box room m) 7 (outcome m) n d.1 in
    let l = both_hold (has range_length box) (leb (view_length fewest_planes) (length view)) a.0 in
    let p = both_hold (leb fewest_planes m) (leb m most_planes) b.0 in
    let g = both_hold (every plane_within (planes_of view m)) (box_within box) f.0 in
    let s : n ≡ m = same f.1 in record {
      most = subst (λ (n : ℕ). n ≤ most_planes) (sym s) (leb-true _ _ p.1);
      corners = eqb-true _ _ l.0;
      numbers = subst (λ (n : ℕ). length view ≡ view_length n) (sym s) (eqb-true _ _ c.0);
      roomy = eqb-true _ _ d.0;
      planes = subst (λ (n : ℕ). every plane_within (planes_of view n) ≡ true) (sym s) g.0;
      bounds = g.1;
    }
  where
    same : {n m : ℕ} → ◌≡◌ {A = Outcome ℕ} (outcome n) (outcome m) → n ≡ m
    same e = cc

-- ---- what a search that found a point, or none, answers
module _ (view box before : List ℤ) (answer : Outcome Bool) (left : List ℤ) where
  pub answers : (o : Outcome ℕ) → o ≡ count_checked view box (length before) → Answers view box before answer left o → WholeBoxCall view box before answer left
  answers o e d = subst (Answers view box before answer left) e d

module _ (view box before : List ℤ) (n : ℕ) where
  pub none_shares : ¬ Shared view box (faces + n) → Decided (planes_of view n) (low_corner box) (high_corner box) before (outcome false) before
  none_shares s = inr (refl, refl, λ v. s (record { point = v.point; each = each_of view box n v.point v.held v.seen }))

  pub it_shares : (p : Point) → Satisfying view box (faces + n) p → (left : List ℤ)
      → left ≡ p.numbers.x ∷ p.numbers.y ∷ p.numbers.z ∷ p.k ∷ [] → Decided (planes_of view n) (low_corner box) (high_corner box) before (outcome true) left
  it_shares p f left w =
      let X = point_of f in
      let h : (i : ℕ) → i < faces + n → Satisfies (constraint_at view box i) X = λ i l. satisfied f (constraint_at view box i) (f.seen.each i l) in
      inl (
        refl,
        record {
          point = X;
          numbers = w ∙ (λ t. p.numbers.x ∷ p.numbers.y ∷ p.numbers.z ∷ f.is t ∷ []);
          held = held_of view box n X h;
          seen = seen_of view box n X h;
        },
      )

-- of the view and the box as they are read
pub decided : (view box before left : List ℤ) (n : ℕ) (answer : Outcome Bool) → outcome n ≡ count_checked view box (length before) → (v b : List ℤ) → v ≡ view → b ≡ box
    → Decided (planes_of v n) (low_corner b) (high_corner b) before answer left → WholeBoxCall view box before answer left
decided view box before left n answer c v b e f d =
    answers view box before answer left (outcome n) c
    (subst (λ (y : List ℤ). Decided (planes_of view n) (low_corner y) (high_corner y) before answer left) f
    (subst (λ (x : List ℤ). Decided (planes_of x n) (low_corner b) (high_corner b) before answer left) e d))

-- and so are the constraints that they hold
pub scene : (view box : List ℤ) (room n : ℕ) → outcome n ≡ count_checked view box room → (v b : List ℤ) → v ≡ view → b ≡ box
    → Constraints v b (faces + n) × (box_within b ≡ true)
scene view box room n c v b e f =
    let p = passed view box room n c in
    let h = constraints view box n p.most p.corners (omega (arith, p.numbers)) p.planes p.bounds in (
      subst (λ (x : List ℤ). Constraints x b (faces + n)) (sym e) (subst (λ (y : List ℤ). Constraints view y (faces + n)) (sym f) h),
      subst (λ (y : List ℤ). box_within y ≡ true) (sym f) p.bounds,
    )
