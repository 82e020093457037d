-- What the tests of a range's numbers tell: where each is equal to itself none is a NaN, and where along each axis the least is at most the greatest the range is
-- besides not empty. Assumes nothing.
use mathlib.Core.Path.{◌≡◌, refl, sym, ◌∙◌, subst}
use mathlib.Core.Bool.{Bool, true, false, ◌&&◌, ◌||◌}
use lib.Dec.{T}
use lib.Ieee.{Float, lt, le, eq}
use Rattle.number.proofs.Comparisons.{refuted, lt_not_le, less_is_number}
use Rattle.number.proofs.Extremes.{equal_numbers}
use Rattle.number.proofs.Tests.{both_hold}
use Rattle.matrix.specs.declared.range.Range3d.{Range3d}
use Rattle.matrix.specs.Range.{is_empty, joined, union}
use Rattle.matrix.specs.Steps.{Numbers, NumbersAlong, both_numbers, numbers_along, all_numbers, ordered_along, all_ordered}
use Rattle.matrix.proofs.Composed.{unites}
use Rattle.matrix.proofs.Emptiness.{by_axes}

pub are_numbers : (x y : Float) → both_numbers x y ≡ true → Numbers x y
are_numbers x y h = let k = both_hold (eq x x) (eq y y) h in ((equal_numbers x x k.0).0, (equal_numbers y y k.1).0)

-- ---- of two ranges without a NaN, corner by corner

-- along each axis of one range
abbrev Inside : Range3d → Type 0
Inside r = NumbersAlong r.min r.max

across : (a b : Range3d) → Inside a → Inside b → NumbersAlong a.min b.min × NumbersAlong a.max b.max
across a b p q =
    (((p.0.0, q.0.0), (p.1.0, q.1.0), (p.2.0, q.2.0)), ((p.0.1, q.0.1), (p.1.1, q.1.1), (p.2.1, q.2.1)))

module _ (a b : Range3d) where
  pub corners_numbers : all_numbers a b ≡ true → NumbersAlong a.min b.min × NumbersAlong a.max b.max
  unfolding all_numbers
  corners_numbers h =
      let p = both_hold (numbers_along a 2) (numbers_along b 2 && (numbers_along a 0 && numbers_along a 1 && numbers_along b 0 && numbers_along b 1)) h in
      let q = both_hold (numbers_along b 2) (numbers_along a 0 && numbers_along a 1 && numbers_along b 0 && numbers_along b 1) p.1 in
      let r = both_hold (numbers_along a 0 && numbers_along a 1 && numbers_along b 0) (numbers_along b 1) q.1 in
      let s = both_hold (numbers_along a 0 && numbers_along a 1) (numbers_along b 0) r.0 in
      let t = both_hold (numbers_along a 0) (numbers_along a 1) s.0 in
      across a b (are_numbers _ _ t.0, are_numbers _ _ t.1, are_numbers _ _ p.0) (are_numbers _ _ s.1, are_numbers _ _ r.1, are_numbers _ _ q.0)

-- ---- of two that are in order

pub ordered_by_axes : (r : Range3d) (x y z : Bool) → ordered_along r 0 ≡ x → ordered_along r 1 ≡ y → ordered_along r 2 ≡ z → (x && (y && z)) ≡ all_ordered r
unfolding all_ordered
ordered_by_axes r x y z p q s = sym (λ t. p t && (q t && s t))

at_most_numbers : (x y : Float) → T (le x y) → Numbers x y
unfolding le
at_most_numbers x y h = go (lt x y) (eq x y) (less_is_number x y) (equal_numbers x y) h
  where
    go : (b c : Bool) → (T b → Numbers x y) → (c ≡ true → Numbers x y) → T (b || c) → Numbers x y
    go true c f g t = f tt
    go false true f g t = g refl
    go false false f g t = absurd t

module _ (r : Range3d) (h : all_ordered r ≡ true) where
  along_axes : T (ordered_along r 0) × T (ordered_along r 1) × T (ordered_along r 2)
  unfolding all_ordered
  along_axes =
      let p = both_hold (ordered_along r 0) (ordered_along r 1 && ordered_along r 2) h in
      let q = both_hold (ordered_along r 1) (ordered_along r 2) p.1 in
      (subst T (sym p.0) tt, subst T (sym q.0) tt, subst T (sym q.1) tt)

  pub ordered_holds : is_empty r ≡ false
  ordered_holds = sym (by_axes r false false false (full _ _ along_axes.0) (full _ _ along_axes.1) (full _ _ along_axes.2))
    where
      full : (x y : Float) → T (le x y) → lt y x ≡ false
      full x y t = refuted (lt y x) (λ u. lt_not_le y x u t)

  ordered_numbers : Inside r
  ordered_numbers = (at_most_numbers _ _ along_axes.0, at_most_numbers _ _ along_axes.1, at_most_numbers _ _ along_axes.2)

-- as the code asks
module _ (a b : Range3d) (told : Bool) (p : told ≡ (all_ordered a && all_ordered b)) (t : told ≡ true) where
  both : (all_ordered a ≡ true) × (all_ordered b ≡ true)
  both = both_hold (all_ordered a) (all_ordered b) (sym p ∙ t)

  pub in_order_lem : NumbersAlong a.min b.min × NumbersAlong a.max b.max
  in_order_lem = across a b (ordered_numbers a both.0) (ordered_numbers b both.1)

  pub joined_in_order : (r : Range3d) → r ≡ joined a b → r ≡ union a b
  joined_in_order r h = unites a b false (sym (ordered_holds a both.0)) false (sym (ordered_holds b both.1)) refl r refl h
