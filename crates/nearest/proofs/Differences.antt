-- A difference of two values is above zero just where the second is less, rounded as it is. The idea: a value is a whole number of the format's smallest ones, and so is a difference, which is
-- therefore rounded to no less than one of them. Assumes nothing.
use mathlib.Core.Path.{◌≡◌, refl, sym, ap, ◌∙◌, subst}
use mathlib.Core.Bool.{Bool, true, false, not, cond}
use Prim.Native.Nat.{ℕ, zero, suc, ◌+◌, ◌-◌, ◌*◌, ◌^◌, ◌≤◌, ◌<◌}
use native.Mathlib.Decide.{dec_lt}
use native.Mathlib.Nat.{mul-pos, mul_assoc, mul-le-mul_right}
use native.Mathlib.Omega.{arith}
use borrow.Author.Tests.{ltb-true, ltb-false}
use lib.IntN.{ℤ, negsuc}
use lib.Dec.{T, ltb, ltb→lt, lt→ltb}
use lib.Pow.{pow_pos}
use lib.Ieee.{Float, nan, inf, fin, binary64, low, up, down, below, fits, lt, neg, add, sub, sum, round}
use lib.Ieee.Fits.{up_pos, down_pos}
use lib.Ieee.Order.{round_mono}
use lib.Ieee.Positive.{positive, above, above_of_le}
use Rattle.number.specs.Arithmetic.{◌⊖◌, zero_of}
use Rattle.number.specs.Extremes.{Value}
use Rattle.number.proofs.Comparisons.{refuted}
use Rattle.number.proofs.Formats.{round_self}
use Rattle.number.proofs.Places.{same_test}
use Rattle.number.proofs.RuleOfSigns.{round_side}
use Rattle.number.proofs.SidesOfZero.{sides_not_lt}
use Rattle.number.proofs.Spacing.{fits_facts, in_units}
use Rattle.number.proofs.Zeros.{round_zero}

abbrev none : Float
none = zero_of false

-- ---- in units of the smallest value

abbrev unit : ℕ
unit = 2 ^ low binary64

counted : (m u l j d : ℕ) → u * l ≡ j * d → m * u * l ≡ m * j * d
counted m u l j d e = mul_assoc m u l ∙ ap (λ (x : ℕ). m * x) e ∙ sym (mul_assoc m j d)

nothing : (u l d : ℕ) → 0 * u * l ≡ 0 * d
nothing u l d = omega arith

whole : (s : Bool) (m : ℕ) (e : ℤ) → Value (fin s m e) → (k : ℕ) × (m * up e * unit ≡ k * down e)
whole s zero e v = (0, nothing (up e) unit (down e))
whole s (suc m) e v =
    let (j, w) = in_units (low binary64) e (fits_facts binary64 s m e v).least in
    (suc m * 2 ^ j, counted (suc m) (up e) unit (2 ^ j) (down e) w)

-- of two whole numbers of units that differ the difference is a unit at least
one_at_least : (b d k j c u : ℕ) → 0 < u → 0 < d → (b + d) * u ≡ k * c → b * u ≡ j * c → c ≤ d * u
one_at_least b d k j c u U D p q = elim (dec_lt j k) [
  | yes l ↦ omega (arith, p, q, mul-le-mul_right c l)
  | no n ↦ let h : k ≤ j = omega arith in absurd (omega (arith, p, q, mul-le-mul_right c h, mul-pos D U))
]

-- ---- the side of zero on which a fraction is rounded

smallest : round binary64 false 1 unit ≡ fin false 1 (negsuc 1073)
unfolding fits
smallest = round_self binary64 false 1 (negsuc 1073) tt

above_none : (x : Float) → T (above x) → T (lt none x)
unfolding lt
above_none nan h = absurd h
above_none (inf true) h = absurd h
above_none (inf false) h = tt
above_none (fin true n d) h = absurd h
above_none (fin false n d) h = lt→ltb (0 * 1 * down d) (n * up d * 1) (omega (arith, mul-pos (ltb→lt 0 n h) (up_pos d)))

not_above_itself : lt none none ≡ false
unfolding lt
not_above_itself = refl

once : (c x : ℕ) → c ≤ x → 1 * c ≤ x
once c x h = omega arith

over : (d c : ℕ) → 0 < c → (0 < d → c ≤ d * unit) → (b : Bool) → ltb 0 d ≡ b → lt none (round binary64 false d c) ≡ b
over d c C h true e =
    let l = round_mono binary64 1 unit d c (pow_pos (low binary64)) C (once c (d * unit) (h (ltb-true 0 d e))) in
    same_test (lt none (round binary64 false d c)) true (λ t. tt)
    (λ t. above_none (round binary64 false d c) (above_of_le (round binary64 false 1 unit) (round binary64 false d c) (subst (λ (x : Float). T (positive x)) (sym smallest) tt) l))
over d c C h false e = let z = ltb-false 0 d e in ap (lt none) (round_zero binary64 false d c C (omega arith)) ∙ not_above_itself

under : (d c : ℕ) → lt none (round binary64 true d c) ≡ false
under d c = sides_not_lt (round binary64 true d c) none (round_side true d c) tt

-- ---- a difference of fractions

together : (a b k j c u : ℕ) → a * u ≡ k * c → b * u ≡ j * c → (0 + (a + b)) * u ≡ (k + j) * c
together a b k j c u p q = omega arith

no_units : (c u : ℕ) → 0 * u ≡ 0 * c
no_units c u = omega arith

module _ (a b c k j : ℕ) (C : 0 < c) (p : a * unit ≡ k * c) (q : b * unit ≡ j * c) where
  U : 0 < unit
  U = pow_pos (low binary64)

  first_over : b < a → c ≤ (a - b) * unit
  first_over l = let e : b + (a - b) ≡ a = omega arith in one_at_least b (a - b) k j c unit U (omega arith) (subst (λ (x : ℕ). x * unit ≡ k * c) (sym e) p) q

  second_over : a < b → c ≤ (b - a) * unit
  second_over l = let e : a + (b - a) ≡ b = omega arith in one_at_least a (b - a) j k c unit U (omega arith) (subst (λ (x : ℕ). x * unit ≡ j * c) (sym e) q) p

  both_over : 0 < a + b → c ≤ (a + b) * unit
  both_over l = one_at_least 0 (a + b) (k + j) 0 c unit U l (together a b k j c unit p q) (no_units c unit)

  -- both above zero
  without_signs : (d : Bool) → ltb a b ≡ d → lt none (cond d (round binary64 true (b - a) c) (round binary64 false (a - b) c)) ≡ ltb b a
  without_signs true e = under (b - a) c ∙ sym (refuted (ltb b a) (λ t. let h = ltb→lt b a t in let g = ltb-true a b e in omega arith))
  without_signs false e =
      over (a - b) c C (λ l. first_over (omega arith)) (ltb 0 (a - b)) refl
      ∙ same_test (ltb 0 (a - b)) (ltb b a) (λ t. let h = ltb→lt 0 (a - b) t in lt→ltb b a (omega arith)) (λ t. let h = ltb→lt b a t in lt→ltb 0 (a - b) (omega arith))

  -- both below zero
  with_signs : (d f : Bool) → ltb a b ≡ d → ltb b a ≡ f → lt none (cond d (round binary64 false (b - a) c) (round binary64 f (a - b) c)) ≡ d
  with_signs true f e g = let h = ltb-true a b e in over (b - a) c C (λ l. second_over h) true (same_test (ltb 0 (b - a)) true (λ t. tt) (λ t. lt→ltb 0 (b - a) (omega arith)))
  with_signs false true e g = under (a - b) c
  with_signs false false e g =
      let h = ltb-false a b e in
      let i = ltb-false b a g in
      ap (lt none) (round_zero binary64 false (a - b) c C (omega arith)) ∙ not_above_itself

  difference : (s t : Bool) → lt none (sum binary64 s a (not t) b c) ≡ below t b s a
  unfolding sum
  difference false true =
      over (a + b) c C both_over (ltb 0 (a + b)) refl
      ∙ same_test (ltb 0 (a + b)) (ltb 0 (b + a)) (λ t. let h = ltb→lt 0 (a + b) t in lt→ltb 0 (b + a) (omega arith)) (λ t. let h = ltb→lt 0 (b + a) t in lt→ltb 0 (a + b) (omega arith))
  difference true false = under (a + b) c
  difference false false = without_signs (ltb a b) refl
  difference true true = with_signs (ltb a b) (ltb b a) refl refl

-- ---- of floats

scaled : (m u k e d l : ℕ) → m * u * l ≡ k * e → m * u * d * l ≡ k * (e * d)
scaled m u k e d l h = omega (arith, ap (λ (x : ℕ). x * d) h)

scaled_turned : (n u j d e l : ℕ) → n * u * l ≡ j * d → n * u * e * l ≡ j * (e * d)
scaled_turned n u j d e l h = omega (arith, ap (λ (x : ℕ). x * e) h)

pub beyond : (x y : Float) → Value x → Value y → lt none (x ⊖ y) ≡ lt y x
unfolding lt sub add neg
beyond nan nan v w = refl
beyond nan (inf t) v w = refl
beyond nan (fin t n d) v w = refl
beyond (inf s) nan v w = refl
beyond (inf true) (inf true) v w = refl
beyond (inf true) (inf false) v w = refl
beyond (inf false) (inf true) v w = refl
beyond (inf false) (inf false) v w = refl
beyond (inf s) (fin t n d) v w = refl
beyond (fin s m e) nan v w = refl
beyond (fin s m e) (inf true) v w = refl
beyond (fin s m e) (inf false) v w = refl
beyond (fin s m e) (fin t n d) v w =
    let (k, p) = whole s m e v in
    let (j, q) = whole t n d w in
    difference (m * up e * down d) (n * up d * down e) (down e * down d) k j (mul-pos (down_pos e) (down_pos d))
    (scaled m (up e) k (down e) (down d) unit p) (scaled_turned n (up d) j (down d) (down e) unit q) s t
