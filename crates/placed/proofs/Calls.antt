-- The verdict by its checks: records that are not on the grid, by the test that fails; the others by the exact verdict on their whole numbers. And no two answers are
-- allowed. Assumes nothing.
use mathlib.Core.Path.{◌≡◌, refl, sym, ap, subst, ◌∙◌}
use mathlib.Core.Logic.{inl, inr}
use mathlib.Core.Bool.{Bool, true, false, ◌&&◌}
use mathlib.Core.List.{List}
use Prim.Native.Nat.{ℕ, zero, suc, ◌-◌, ◌≤◌, ◌<◌}
use native.Mathlib.Omega.{arith}
use lib.Dec.{T, lit<}
use lib.ListN.{length, length-map, get_or-map, take, replicate}
use lib.Seq.{length-take-le, get_or-take}
use lib.IntN.{ℤ, pos, nat_abs, ◌*ℤ◌}
use lib.Signed.{le_z, ◌≤ℤ◌}
use lib.Ieee.{Float, nan, to_signed}
use Rattle.number.specs.Limits.{flag_place, box_length, grid_limit, distance_limit, most_planes}
use Rattle.number.specs.Answer.{Outcome, refused, outcome}
use Rattle.number.specs.Every.{every}
use Rattle.number.specs.Slice.{at}
use Rattle.whole.specs.SegmentCall.{number_at, view_length, count_of, within, point_within, plane_within}
use Rattle.whole.proofs.Integer.{of_self as self, of_le, of_min, of_max}
use Rattle.exact.specs.ExactPoint.{ExactPoint, InBox}
use Rattle.exact.specs.BBoxCall.{low_corner, high_corner, witness_length, box_within, Decided, Answers, WholeBoxCall}
use Rattle.exact.proofs.Calls.{on_grid_lem, off_grid}
use Rattle.verdict.specs.FrustumCalls.{intersects_box_call}
use Rattle.placed.specs.Numbers.{truncated, is_whole_number, are_whole_numbers, whole_numbers}
use Rattle.placed.specs.Placement.{WholeBox, movedℤ, smaller, larger, placed_least, placed_greatest, quarter_turned, is_grid_box}
use Rattle.placed.specs.BBoxCall.{count_in, view_numbers, planes_in, box_numbers, box_in, on_grid, Decides, ByGrid, After, ExactBoxCall, OneAnswerAllowed}
use Rattle.placed.specs.Steps.{placed_bounds, BoxNumbers, HoldsPlanes}
use Rattle.placed.proofs.Truncation.{whole_small}
use Rattle.placed.proofs.Loading.{each}

-- ---- whole numbers of a record, by place

pub number_of : (s : List Float) (i : ℕ) → number_at (whole_numbers s) i ≡ truncated (at s i)
unfolding to_signed
number_of s i = get_or-map truncated s i nan

pub box_numbers_lem : (b : List Float) → length b ≡ box_length → are_whole_numbers (box_numbers b) ≡ true → BoxNumbers (whole_numbers (box_numbers b))
box_numbers_lem b l e =
    let n : length (box_numbers b) ≡ flag_place = length-take-le flag_place b (omega (arith, l)) in record {
      numbers = length-map (box_numbers b) truncated ∙ n;
      small = λ i h. subst (λ (z : ℤ). nat_abs z ≤ distance_limit) (sym (number_of (box_numbers b) i))
          (whole_small (at (box_numbers b) i) (each is_whole_number (box_numbers b) i nan e (omega (arith, n))));
    }

-- ---- the placed box is on the grid where its least and its greatest corner are

ordered : (a b : ℤ) → le_z (smaller a b) (larger a b) ≡ true
ordered a b = is_true _ ((of_le (of_min (self a) (self b)) (of_max (self a) (self b))).1 (omega arith)).le
  where
    is_true : (z : Bool) → T z → z ≡ true
    is_true true t = refl
    is_true false t = absurd t

with_order : (l h o : Bool) → o ≡ true → (l && h && o) ≡ (l && h)
with_order true true o e = e
with_order true false o e = refl
with_order false h o e = refl

regroup : (l h l' h' l'' h'' : Bool) → (l && h && (l' && h') && (l'' && h'')) ≡ (l && l' && l'' && (h && h' && h''))
regroup false h l' h' l'' h'' = refl
regroup true false false h' l'' h'' = refl
regroup true false true h' false h'' = refl
regroup true false true h' true h'' = refl
regroup true true false h' l'' h'' = refl
regroup true true true false false h'' = refl
regroup true true true false true h'' = refl
regroup true true true true false h'' = refl
regroup true true true true true h'' = refl

module _ (B : WholeBox) where
  abbrev low : ℕ → Bool
  low j = within grid_limit (placed_least B j)

  abbrev high : ℕ → Bool
  high j = within grid_limit (placed_greatest B j)

  along : (j : ℕ) → (low j && high j && le_z (placed_least B j) (placed_greatest B j)) ≡ (low j && high j)
  along j = with_order (low j) (high j) _ (ordered (movedℤ B.matrix B.low j) (movedℤ B.matrix B.high j))

  bounds_within : box_within (placed_bounds B) ≡ (point_within (placed_least B) && point_within (placed_greatest B))
  bounds_within = (λ t. along 0 t && along 1 t && along 2 t) ∙ regroup (low 0) (high 0) (low 1) (high 1) (low 2) (high 2)

-- its corners, by axis
three : (P : ℕ → Type 0) → P 0 → P 1 → P 2 → (i : ℕ) → i < 3 → P i
three P a b c zero h = a
three P a b c (suc zero) h = b
three P a b c (suc (suc zero)) h = c
three P a b c (suc (suc (suc i))) h = absurd (omega arith)

module _ (B : WholeBox) (X : ExactPoint) where
  in_placed : InBox (low_corner (placed_bounds B)) (high_corner (placed_bounds B)) X → InBox (placed_least B) (placed_greatest B) X
  in_placed h = record {
    least = three (λ j. (pos X.k *ℤ placed_least B j) ≤ℤ X.numbers j) (h.least 0 (lit< tt)) (h.least 1 (lit< tt)) (h.least 2 (lit< tt));
    greatest = three (λ j. X.numbers j ≤ℤ (pos X.k *ℤ placed_greatest B j)) (h.greatest 0 (lit< tt)) (h.greatest 1 (lit< tt)) (h.greatest 2 (lit< tt));
  }

  in_bounds : InBox (placed_least B) (placed_greatest B) X → InBox (low_corner (placed_bounds B)) (high_corner (placed_bounds B)) X
  in_bounds h = record {
    least = three (λ j. (pos X.k *ℤ low_corner (placed_bounds B) j) ≤ℤ X.numbers j) (h.least 0 (lit< tt)) (h.least 1 (lit< tt)) (h.least 2 (lit< tt));
    greatest = three (λ j. X.numbers j ≤ℤ (pos X.k *ℤ high_corner (placed_bounds B) j)) (h.greatest 0 (lit< tt)) (h.greatest 1 (lit< tt)) (h.greatest 2 (lit< tt));
  }

-- ---- the ways out

placed_fails : (a w q l h : Bool) → (w && q) ≡ false → (a && w && (q && l && h)) ≡ false
placed_fails false w q l h e = refl
placed_fails true false q l h e = refl
placed_fails true true true l h e = absurd (subst T e tt)
placed_fails true true false l h e = refl

view_fails : (w p c g : Bool) → w ≡ false → (w && p && c && g) ≡ false
view_fails true p c g e = absurd (subst T e tt)
view_fails false p c g e = refl

all_but : (w p c q l h : Bool) → w ≡ true → (c && q) ≡ true → (w && p && c && (q && l && h)) ≡ (p && (l && h))
all_but true true true true l h e f = refl
all_but true true true false l h e f = absurd (subst T (sym f) tt)
all_but true true false q l h e f = absurd (subst T (sym f) tt)
all_but true false c q l h e f = refl
all_but false p c q l h e f = absurd (subst T (sym e) tt)

module _ (v b : List Float) where
  abbrev view : List ℤ
  view = whole_numbers (view_numbers v)

  abbrev bounds : List ℤ
  bounds = placed_bounds (box_in b)

  is : (are_whole_numbers (view_numbers v) && every plane_within (planes_in v) && are_whole_numbers (box_numbers b) && is_grid_box (box_in b)) ≡ on_grid v b
  unfolding on_grid
  is = refl

  off : on_grid v b ≡ false → ByGrid v b (refused 7) (on_grid v b)
  off e = subst (ByGrid v b (refused 7)) (sym e) refl

  pub view_not_whole : are_whole_numbers (view_numbers v) ≡ false → ByGrid v b (refused 7) (on_grid v b)
  view_not_whole e = off (sym is ∙ view_fails _ _ _ _ e)

  pub not_placed : (are_whole_numbers (box_numbers b) && quarter_turned (box_in b)) ≡ false → ByGrid v b (refused 7) (on_grid v b)
  not_placed e =
      let a = are_whole_numbers (view_numbers v) && every plane_within (planes_in v) in
      let B = box_in b in
      off (sym is ∙ placed_fails a (are_whole_numbers (box_numbers b)) (quarter_turned B) (point_within (placed_least B)) (point_within (placed_greatest B)) e)

  module _ (C : HoldsPlanes v (count_in v)) (w : are_whole_numbers (view_numbers v) ≡ true) (q : (are_whole_numbers (box_numbers b) && quarter_turned (box_in b)) ≡ true) where
    abbrev grid : Bool
    grid = every plane_within (planes_in v) && box_within bounds

    grid_is : on_grid v b ≡ grid
    grid_is = sym is ∙ all_but _ _ _ _ _ _ w q ∙ sym (ap (λ (z : Bool). every plane_within (planes_in v) && z) (bounds_within (box_in b)))

    view_length_lem : length view ≡ view_length (count_in v)
    view_length_lem = length-map (view_numbers v) truncated ∙ length-take-le (view_length (count_in v)) v (omega (arith, C.numbers))

    says : count_in v ≡ count_of (number_at view 0)
    says = ap count_of (sym (number_of (view_numbers v) 0 ∙ ap truncated (get_or-take (view_length (count_in v)) v 0 nan (omega arith)) ∙ C.whole))

    module _ (before : List ℤ) (r : length before ≡ witness_length) (answer : Outcome Bool) (left : List ℤ) (h : WholeBoxCall view bounds before answer left) where
      by_test : (g : Bool) → grid ≡ g → ByGrid v b answer g
      by_test false e =
          let f = C.fewest in
          let o = off_grid view bounds (length before) refl (omega (arith, view_length_lem)) (count_in v) says C.fewest C.most view_length_lem r e in
          (subst (Answers view bounds before answer left) (sym o) h).0
      by_test true e =
          let f = C.fewest in
          let o = on_grid_lem view bounds (length before) refl (omega (arith, view_length_lem)) (count_in v) says C.fewest C.most view_length_lem r e in
          let d : Decided (planes_in v) (low_corner bounds) (high_corner bounds) before answer left = subst (Answers view bounds before answer left) (sym o) h in
          elim d [
            | inl y ↦ inl (y.0, record { point = y.1.point; held = in_placed (box_in b) y.1.point y.1.held; seen = y.1.seen })
            | inr n ↦ inr (n.0, λ s. n.2 (record { point = s.point; held = in_bounds (box_in b) s.point s.held; seen = s.seen }))
          ]

      decided : ByGrid v b answer (on_grid v b)
      decided = subst (ByGrid v b answer) (sym grid_is) (by_test grid refl)

    -- on slices that have these numbers
    pub decided_by : (before : List ℤ) → length before ≡ witness_length → (answer : Outcome Bool) (left view' bounds' : List ℤ) → view' ≡ view → bounds' ≡ bounds
        → WholeBoxCall view' bounds' before answer left → ByGrid v b answer (on_grid v b)
    decided_by before r answer left view' bounds' e f h =
        decided before r answer left
        (subst (λ (x : List ℤ). WholeBoxCall x bounds before answer left) e (subst (λ (x : List ℤ). WholeBoxCall view' x before answer left) f h))

  -- ---- the filed verdict's refusals come first
  pub refused_first : (k : ℕ) → refused k ≡ intersects_box_call v b → ExactBoxCall v b (refused k)
  refused_first k e = subst (After v b (refused k)) e refl

  pub then_by_grid : (answer : Outcome Bool) (filed : Bool) → intersects_box_call v b ≡ outcome filed → ByGrid v b answer (on_grid v b) → ExactBoxCall v b answer
  then_by_grid answer filed e h = subst (After v b answer) (sym e) h

-- ---- room for a view, in front of a slice of zeros
pub room_for : (k n m : ℕ) → k ≡ view_length n → n ≡ m → n ≤ most_planes → length (take (k - 0) (replicate (view_length most_planes) (pos 0))) ≡ view_length m
room_for k n m e f g =
    let l : length (replicate (view_length most_planes) (pos 0)) ≡ view_length most_planes = refl in
    length-take-le (k - 0) (replicate (view_length most_planes) (pos 0)) (omega (arith, l)) ∙ omega arith

-- ---- no two answers are allowed

pub one_decision : {A : Type 0} (a a' : Outcome Bool) → Decides a A → Decides a' A → a ≡ a'
one_decision a a' (inl y) (inl y') = y.0 ∙ sym y'.0
one_decision a a' (inl y) (inr n) = absurd (n.1 y.1)
one_decision a a' (inr n) (inl y) = absurd (n.1 y.1)
one_decision a a' (inr n) (inr n') = n.0 ∙ sym n'.0

by_one_grid : (v b : List Float) (a a' : Outcome Bool) (g : Bool) → ByGrid v b a g → ByGrid v b a' g → a ≡ a'
by_one_grid v b a a' false h h' = h ∙ sym h'
by_one_grid v b a a' true h h' = one_decision a a' h h'

pub one_answer_allowed : OneAnswerAllowed
one_answer_allowed v b a a' = go (intersects_box_call v b)
  where
    go : (filed : Outcome Bool) → After v b a filed → After v b a' filed → a ≡ a'
    go (refused k) h h' = h ∙ sym h'
    go (outcome y) h h' = by_one_grid v b a a' (on_grid v b) h h'
