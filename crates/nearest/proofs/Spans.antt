-- The squared distance of a range that is not empty, along each axis by the largest of 0 and two differences. The idea: where the span is not turned round a number is on one side of it at
-- most, so that one of the differences is above zero at most. Assumes nothing.
use mathlib.Core.Path.{◌≡◌, refl, sym, ap, ◌∙◌, subst}
use mathlib.Core.Bool.{Bool, true, false, cond, ◌||◌}
use lib.Dec.{T}
use lib.Ieee.{Float, lt, mul, round, units, odd, size, span, climb}
use Rattle.number.specs.Arithmetic.{◌⊖◌, zero_of, upper_of}
use Rattle.number.specs.Extremes.{Value}
use Rattle.number.proofs.Comparisons.{le_through, lt_not_le, lt_le, refuted, not_less, less_is_number}
use Rattle.matrix.specs.Constants.{positive_zero}
use Rattle.matrix.specs.Range.{squared, span_distance_squared}
use Rattle.nearest.proofs.Differences.{beyond}

none_is : positive_zero ≡ zero_of false
unfolding round units odd size span climb
none_is = refl

none_squared : squared positive_zero ≡ positive_zero
unfolding mul round units odd size span climb
none_squared = refl

module _ (p low high : Float) (u : Value p) (v : Value low) (w : Value high) (n : lt high low ≡ false) where
  -- the differences are above zero just on their sides
  under : lt positive_zero (low ⊖ p) ≡ lt p low
  under = ap (λ (z : Float). lt z (low ⊖ p)) none_is ∙ beyond low p v u

  over : lt positive_zero (p ⊖ high) ≡ lt high p
  over = ap (λ (z : Float). lt z (p ⊖ high)) none_is ∙ beyond p high u w

  -- not on both
  one_side : T (lt p low) → lt high p ≡ false
  one_side h = refuted (lt high p) (λ t.
      lt_not_le high p t
      (le_through p low high (lt_le p low h) (not_less high low (less_is_number high p t).0 (less_is_number p low h).1 n)))

  -- what is above zero is above what is not
  kept : T (lt positive_zero (low ⊖ p)) → lt positive_zero (p ⊖ high) ≡ false → lt (low ⊖ p) (p ⊖ high) ≡ false
  kept h k = refuted (lt (low ⊖ p) (p ⊖ high)) (λ t.
      lt_not_le positive_zero (low ⊖ p) h
      (le_through (low ⊖ p) (p ⊖ high) positive_zero (lt_le (low ⊖ p) (p ⊖ high) t)
      (not_less positive_zero (p ⊖ high) (less_is_number positive_zero (low ⊖ p) h).0 (less_is_number (low ⊖ p) (p ⊖ high) t).1 k)))

  -- by where p is
  by_sides : (a b : Bool) → lt p low ≡ a → lt high p ≡ b
      → squared (upper_of (cond a (low ⊖ p) positive_zero) (p ⊖ high)) ≡ cond a (squared (low ⊖ p)) (cond b (squared (p ⊖ high)) positive_zero)
  by_sides true b e f =
      let h = subst T (sym e) tt in
      ap (λ (c : Bool). squared (cond c (p ⊖ high) (low ⊖ p))) (kept (subst T (sym (under ∙ e)) tt) (over ∙ one_side h))
  by_sides false true e f = ap (λ (c : Bool). squared (cond c (p ⊖ high) positive_zero)) (over ∙ f)
  by_sides false false e f = ap (λ (c : Bool). squared (cond c (p ⊖ high) positive_zero)) (over ∙ f) ∙ none_squared

  pub along : squared (upper_of (upper_of positive_zero (low ⊖ p)) (p ⊖ high)) ≡ span_distance_squared p low high
  unfolding span_distance_squared
  along =
      ap (λ (c : Bool). squared (upper_of (cond c (low ⊖ p) positive_zero) (p ⊖ high))) under
      ∙ by_sides (lt p low) (lt high p) refl refl

-- along each axis of a range that is not empty the span is not turned round
pub not_turned : (a b c : Bool) → (a || b || c) ≡ false → (a ≡ false) × (b ≡ false) × (c ≡ false)
not_turned true b c e = absurd (subst T e tt)
not_turned false true c e = absurd (subst T e tt)
not_turned false false c e = (refl, refl, e)
