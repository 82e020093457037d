-- The checks of a verdict, in their order: the way out of a call, by what they come to. Assumes nothing.
use Rattle.std.proofs.Common.{◌≡◌, ℕ, Bool, true, false, ◌&&◌, T, List, [], ◌∷◌, sym, refl, ap, ◌∙◌, subst, arith}
use lib.Ieee.{Float}
use Rattle.number.specs.Every.{every}
use Rattle.number.specs.Answer.{Outcome, refused, outcome, and_then, unless, has}
use Rattle.number.specs.Slice.{all_finite}
use Rattle.number.proofs.Tests.{and_true}
use Rattle.number.proofs.Ways.{stops, passes}
use Rattle.verdict.specs.View.{planes_held}
use Rattle.verdict.specs.FrustumCalls.{have_lengths, checked, planes_checked, verdict_after}

-- ---- the lengths of the inputs

module _ (m : ℕ) (p : List Float) where
  pub one_input : have_lengths ((m, p) ∷ []) ≡ has m p
  unfolding have_lengths
  one_input = and_true (has m p)

  module _ (n : ℕ) (q : List Float) where
    pub two_inputs : have_lengths ((m, p) ∷ (n, q) ∷ []) ≡ (has m p && has n q)
    unfolding have_lengths
    two_inputs = λ t. has m p && and_true (has n q) t

    pub three_inputs : (o : ℕ) (r : List Float) → have_lengths ((m, p) ∷ (n, q) ∷ (o, r) ∷ []) ≡ (has m p && has n q && has o r)
    unfolding have_lengths
    three_inputs o r = regroup (has m p) (has n q) (has o r)
      where
        regroup : (a b c : Bool) → (a && (b && (c && true))) ≡ (a && b && c)
        regroup true b c = λ t. b && and_true c t
        regroup false b c = refl

-- ---- the numbers of the records, by what was found of each

module _ (s : List Float) {r : Bool} (p : r ≡ all_finite s) where
  pub last_record : r ≡ every all_finite (s ∷ [])
  unfolding every
  last_record = p ∙ sym (and_true (all_finite s))

  pub next_record : (ss : List (List Float)) {rest : Bool} → rest ≡ every all_finite ss → (r && rest) ≡ every all_finite (s ∷ ss)
  unfolding every
  next_record ss q = λ t. p t && q t

-- ---- the checks of all that is lent

-- what comes of them is what comes of what they pass on
pub then : {A B : Type 0} (held : Outcome A) (room flags finite : Bool) (f : A → Outcome B) → and_then (checked held room flags finite outcome) f ≡ checked held room flags finite f
then (refused k) room flags finite f = refl
then (outcome x) false flags finite f = refl
then (outcome x) true false finite f = refl
then (outcome x) true true false f = refl
then (outcome x) true true true f = refl

-- where they are passed, each was
pub record Passed {A B : Type 0} (held : Outcome A) (room flags finite : Bool) (f : A → Outcome B) (y : B) : Type 0 where
  pub by : A
  pub holds : outcome by ≡ held
  pub room_passed : room ≡ true
  pub flags_passed : flags ≡ true
  pub finite_passed : finite ≡ true
  pub is : f by ≡ outcome y

pub passed : {A B : Type 0} (held : Outcome A) (room flags finite : Bool) (f : A → Outcome B) (y : B) → checked held room flags finite f ≡ outcome y → Passed held room flags finite f y
passed (outcome x) true true true f y e = record { by = x; holds = refl; room_passed = refl; flags_passed = refl; finite_passed = refl; is = e }
passed (outcome x) true true false f y e = let z : ◌≡◌ {A = ℕ} 0 1 = cc in absurd (omega (arith, z))
passed (outcome x) true false finite f y e = let z : ◌≡◌ {A = ℕ} 0 1 = cc in absurd (omega (arith, z))
passed (outcome x) false flags finite f y e = let z : ◌≡◌ {A = ℕ} 0 1 = cc in absurd (omega (arith, z))
passed (refused k) room flags finite f y e = let z : ◌≡◌ {A = ℕ} 0 1 = cc in absurd (omega (arith, z))

-- ---- those of a volume and what is lent beside it

module _ (v : List Float) (room flags finite : Bool) where
  -- by what each of them is
  pub volume_by_tests : {h : Outcome ℕ} {r f g : Bool} → h ≡ planes_held v → room ≡ r → flags ≡ f → (all_finite v && finite) ≡ g → checked h r f g outcome ≡ planes_checked v room flags finite
  unfolding planes_checked
  volume_by_tests e p q w = sym (λ t. checked {B = ℕ} (sym e t) (p t) (q t) (w t) outcome)

  -- what passes them is held
  pub was_held : (n : ℕ) → outcome n ≡ planes_checked v room flags finite → outcome n ≡ planes_held v
  unfolding planes_checked
  was_held n e = let p = passed (planes_held v) room flags (all_finite v && finite) outcome n (sym e) in sym p.is ∙ p.holds

-- ---- the order of a verdict's checks

module _ {A : Type 0} (lengths : Bool) (held : Outcome A) (flag : Bool) (lent : List (List Float)) (verdict : A → Bool) where
  abbrev judged : A → Outcome Bool
  judged x = outcome (verdict x)

  is : unless lengths (refused 1) (checked held true flag (every all_finite lent) judged) ≡ verdict_after lengths held flag lent verdict
  unfolding verdict_after
  is = refl

  pub wrong_length : lengths ≡ false → refused 1 ≡ verdict_after lengths held flag lent verdict
  wrong_length e = stops lengths (refused 1) _ e ∙ is

  module _ (l : lengths ≡ true) where
    -- by what each check is
    pub by_tests : {h : Outcome A} {f g : Bool} → h ≡ held → flag ≡ f → every all_finite lent ≡ g → checked h true f g judged ≡ verdict_after lengths held flag lent verdict
    by_tests e p q = passes lengths (refused 1) _ _ l (sym (λ t. checked (sym e t) true (p t) (q t) judged)) ∙ is

    pub not_held : (k : ℕ) → refused k ≡ held → refused k ≡ verdict_after lengths held flag lent verdict
    not_held k e = by_tests e refl refl

  -- what is answered was given finite numbers alone
  pub given_finite : (y : Bool) → verdict_after lengths held flag lent verdict ≡ outcome y → T (every all_finite lent)
  given_finite y e = by_lengths lengths (is ∙ e)
    where
      by_lengths : (l : Bool) → unless l (refused 1) (checked held true flag (every all_finite lent) judged) ≡ outcome y → T (every all_finite lent)
      by_lengths true e = subst T (sym (passed held true flag (every all_finite lent) judged y e).finite_passed) tt
      by_lengths false e = let z : ◌≡◌ {A = ℕ} 0 1 = cc in absurd (omega (arith, z))

-- of one by a volume, by what the checks of the volume and of what is lent beside it come to
pub by_volume : (lengths flag : Bool) (v : List Float) (others : List (List Float)) (verdict : ℕ → Bool) → lengths ≡ true → (o : Outcome ℕ) (f finite : Bool)
    → o ≡ planes_checked v true f finite → f ≡ flag → finite ≡ every all_finite others → and_then o (λ n. outcome (verdict n)) ≡ verdict_after lengths (planes_held v) flag (v ∷ others) verdict
unfolding planes_checked
by_volume lengths flag v others verdict l o f finite e p q =
    ap (λ (c : Outcome ℕ). and_then c (λ n. outcome (verdict n))) e ∙ then (planes_held v) true f (all_finite v && finite) (λ n. outcome (verdict n))
    ∙ by_tests lengths (planes_held v) flag (v ∷ others) verdict l refl (sym p) (sym (next_record v refl others q))
