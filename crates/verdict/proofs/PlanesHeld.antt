-- The checks of a volume, in their order, and what a record that passes them is like. Assumes nothing.
use Rattle.std.proofs.Common.{◌≡◌, ℕ, ◌<◌, ◌≤◌, Bool, true, false, leb, List, length, sym, refl, ap, ◌∙◌, subst, arith, eq-eqb, ne_eqb, eqb-true, le-leb}
use borrow.Author.Tests.{lt-leb}
use lib.Ieee.{Float}
use Rattle.number.specs.Limits.{fewest_planes}
use Rattle.number.specs.Answer.{Outcome, refused, outcome, and_then, unless, has}
use Rattle.number.specs.Slice.{at}
use Rattle.number.proofs.Ways.{stops, passes}
use Rattle.verdict.specs.View.{volume_length, plane_count_of, planes_held}
use Rattle.verdict.specs.Steps.Passes.{IsView}
use Rattle.verdict.proofs.PlaneCount.{count_within}

-- ---- what comes of a result, and of a refusal

module _ {A B : Type 0} (f : A → Outcome B) (o : Outcome A) where
  pub goes_on : (x : A) (y : Outcome B) → outcome x ≡ o → y ≡ f x → y ≡ and_then o f
  goes_on x y e p = p ∙ ap (λ (c : Outcome A). and_then c f) e

  pub is_refused : (k : ℕ) → refused k ≡ o → refused k ≡ and_then o f
  is_refused k e = ap (λ (c : Outcome A). and_then c f) e

-- ---- the order of the checks

module _ (s : List Float) where
  -- the count's own length
  abbrev own : ℕ → Outcome ℕ
  own n = unless (has (volume_length n) s) (refused 1) (outcome n)

  abbrev long : Bool
  long = leb (volume_length fewest_planes) (length s)

  is : unless long (refused 1) (and_then (plane_count_of (at s 0)) own) ≡ planes_held s
  unfolding planes_held
  is = refl

  pub too_short : length s < volume_length fewest_planes → refused 1 ≡ planes_held s
  too_short h = stops long (refused 1) _ (lt-leb _ _ h) ∙ is

  module _ (h : volume_length fewest_planes ≤ length s) where
    counted : (x : Outcome ℕ) → x ≡ and_then (plane_count_of (at s 0)) own → x ≡ planes_held s
    counted x p = passes long (refused 1) _ x (le-leb _ _ h) p ∙ is

    pub no_count : (k : ℕ) → refused k ≡ plane_count_of (at s 0) → refused k ≡ planes_held s
    no_count k p = counted (refused k) (is_refused own (plane_count_of (at s 0)) k p)

    pub other_length : (n : ℕ) → outcome n ≡ plane_count_of (at s 0) → (length s ≡ volume_length n → ⊥) → refused 1 ≡ planes_held s
    other_length n p l = counted (refused 1) (goes_on own (plane_count_of (at s 0)) n (refused 1) p (stops (has (volume_length n) s) (refused 1) (outcome n) (ne_eqb _ _ l)))

    pub all_held : (n : ℕ) → outcome n ≡ plane_count_of (at s 0) → length s ≡ volume_length n → outcome n ≡ planes_held s
    all_held n p l = counted (outcome n) (goes_on own (plane_count_of (at s 0)) n (outcome n) p (passes (has (volume_length n) s) (refused 1) (outcome n) (outcome n) (eq-eqb _ _ l) refl))

-- ---- a record that holds n planes

pub held : (s : List Float) (n : ℕ) → outcome n ≡ planes_held s → IsView s n
unfolding planes_held
held s n e = go (leb (volume_length fewest_planes) (length s)) (plane_count_of (at s 0)) refl (sym e)
  where
    own_length : (k : ℕ) (z : Bool) → has (volume_length k) s ≡ z → unless z (refused 1) (outcome k) ≡ outcome n → (length s ≡ volume_length k) × (k ≡ n)
    own_length k false f g = let z : ◌≡◌ {A = ℕ} 0 1 = cc in absurd (omega arith)
    own_length k true f g = (eqb-true _ _ f, cc)

    go : (a : Bool) (c : Outcome ℕ) → plane_count_of (at s 0) ≡ c
        → unless a (refused 1) (and_then c (λ k. unless (has (volume_length k) s) (refused 1) (outcome k))) ≡ outcome n → IsView s n
    go false c f g = let z : ◌≡◌ {A = ℕ} 0 1 = cc in absurd (omega arith)
    go true (refused k) f g = let z : ◌≡◌ {A = ℕ} 0 1 = cc in absurd (omega arith)
    go true (outcome k) f g =
        let l = own_length k (has (volume_length k) s) refl g in
        let w = count_within (at s 0) k f in
        subst (IsView s) l.1 (record { fewest = w.0; most = w.1; numbers = l.0 })
