-- What the planes that a box is behind say of its verdict (`specs/PlanesMeaning.antt`): by the bits of the places, and by the verdict of each plane alone. Assumes nothing.
use Rattle.std.proofs.Common.{◌≡◌, ℕ, ◌%◌, ◌^◌, ◌<◌, ◌≤◌, Bool, true, false, not, T, eqb, ltb, ◌↔◌, List, length, take, drop, sym, refl, ap, ◌∙◌, subst, arith, pow_mono, ltb-false, ltb-true}
use native.Mathlib.Nat.{div-eq_of_lt}
use lib.Ieee.{Float}
use Rattle.number.proofs.Tabulate.{as_many}
use Rattle.number.specs.Limits.{box_length}
use Rattle.number.specs.Answer.{Outcome, refused, outcome, has}
use Rattle.number.proofs.Comparisons.{refuted}
use Rattle.verdict.specs.declared.plane.Plane.{Plane}
use Rattle.verdict.specs.declared.bbox.BBox3d.{BBox3d}
use Rattle.verdict.specs.BBox.{box_of}
use Rattle.verdict.specs.View.{plane_at, planes_held, planes_of}
use Rattle.verdict.specs.Frustum.{box_in_view}
use Rattle.verdict.specs.FrustumCalls.{intersects_box_call}
use Rattle.verdict.specs.PlanesBehind.{is_behind, places_behind, blocking_planes, blocking_planes_call}
use Rattle.verdict.specs.PlanesMeaning.{is_set, BitsMean, EmptyBehindAll, NoBitMeans, RefusedAlike}
use Rattle.verdict.proofs.PlanesHeld.{held}
use Rattle.verdict.proofs.PlanesBehind.{bits, below, bit_is, no_bit, none_set, all_bits, empty_unseen, each_seen, seen_each, Answered, box_by, planes_refused, planes_answered}

pub unset : (x : Bool) → not x ≡ false → x ≡ true
unset true e = refl
unset false e = sym e

is_not : (x : Bool) → x ≡ true → not x ≡ false
is_not x e = ap not e

module _ (ps : List Plane) (b : BBox3d) where
  pub are_bits : blocking_planes ps b ≡ bits (is_behind ps b) (length ps)
  unfolding blocking_planes places_behind
  are_bits = refl

  abbrev t : ℕ → Bool
  t = is_behind ps b

  abbrev n : ℕ
  n = length ps

  -- past the last plane no bit is set
  past_last : (i : ℕ) → (i < n → ⊥) → T (is_set (bits t n) i) → ⊥
  past_last i l s =
      let h : bits t n < 2 ^ i = let k : length ps ≤ i = omega (arith, l) in omega (arith, below t n, pow_mono k) in
      subst T (ap (λ (m : ℕ). eqb (m % 2) 1) (div-eq_of_lt h)) s

  bit_means : (i : ℕ) (z : Bool) → ltb i n ≡ z → T (is_set (bits t n) i) ↔ ((i < n) × T (t i))
  bit_means i true e =
      let l = ltb-true i n e in
      (λ s. (l, subst T (bit_is t i n l) s), λ s. subst T (sym (bit_is t i n l)) s.1)
  bit_means i false e =
      let l = ltb-false i n e in
      (λ s. absurd (past_last i (λ k. omega (arith, l, k)) s), λ s. absurd (omega (arith, l, s.0)))

  pub bit_at : (i : ℕ) → i < n → is_set (blocking_planes ps b) i ≡ t i
  bit_at i h = ap (λ (m : ℕ). is_set m i) are_bits ∙ bit_is t i n h

  pub past_planes : (i : ℕ) → n ≤ i → is_set (blocking_planes ps b) i ≡ false
  past_planes i h = ap (λ (m : ℕ). is_set m i) are_bits ∙ refuted (is_set (bits t n) i) (past_last i (λ k. omega (arith, h, k)))

  -- no bit is set exactly where the box is in view
  pub no_bit_is : 0 < n → box_in_view ps b ≡ true → blocking_planes ps b ≡ 0
  no_bit_is h s = are_bits ∙ no_bit t n (λ i l. is_not _ (seen_each b ps s i l))

  pub no_bit_seen : 0 < n → blocking_planes ps b ≡ 0 → box_in_view ps b ≡ true
  no_bit_seen h e = each_seen b ps h (λ i l. unset _ (none_set t n (sym are_bits ∙ e) i l))

pub bits_mean : BitsMean
bits_mean ps b i = subst (λ (m : ℕ). T (is_set m i) ↔ ((i < length ps) × T (is_behind ps b i))) (sym (are_bits ps b)) (bit_means ps b i (ltb i (length ps)) refl)

pub empty_behind_all : EmptyBehindAll
empty_behind_all ps b e = are_bits ps b ∙ all_bits (is_behind ps b) (length ps) (λ i l. ap not (empty_unseen b (take 1 (drop i ps)) e))

-- ---- the calls

module _ (v b : List Float) where
  some : (y : Bool) (r : Answered (has box_length b) (planes_held v) (λ n. box_in_view (planes_of v n) (box_of b)) y) → 0 < length (planes_of v r.by)
  some y r = omega (arith, (held _ _ r.holds).fewest, as_many (plane_at v) r.by)

  -- in view, no bit is set
  pub seen_no_bit : outcome true ≡ intersects_box_call v b → outcome 0 ≡ blocking_planes_call v b
  seen_no_bit e =
      let r = box_by v b true (sym e) in
      planes_answered v b true e r.by _ r.holds (ap outcome (sym (no_bit_is (planes_of v r.by) (box_of b) (some true r) r.is)))

  same_count : (m n : ℕ) → ◌≡◌ {A = Outcome ℕ} (outcome m) (outcome n) → m ≡ n
  same_count m n e = cc

  same_refusal : (j k : ℕ) → ◌≡◌ {A = Outcome ℕ} (refused j) (refused k) → j ≡ k
  same_refusal j k e = cc

  not_both : (k m : ℕ) → ◌≡◌ {A = Outcome ℕ} (refused k) (outcome m) → ⊥
  not_both k m e = let z : ◌≡◌ {A = ℕ} 0 1 = cc in omega (arith, z)

  no_bit_by : (o : Outcome Bool) → intersects_box_call v b ≡ o → blocking_planes_call v b ≡ outcome 0 → o ≡ outcome true
  no_bit_by (refused k) e f = absurd (not_both k 0 (planes_refused v b k (sym e) ∙ f))
  no_bit_by (outcome y) e f =
      let r = box_by v b y e in
      ap outcome (sym r.is ∙ no_bit_seen (planes_of v r.by) (box_of b) (some y r) (same_count _ 0 (planes_answered v b y (sym e) r.by _ r.holds refl ∙ f)))

  refused_by : (k : ℕ) (o : Outcome Bool) → intersects_box_call v b ≡ o → blocking_planes_call v b ≡ refused k → o ≡ refused k
  refused_by k (refused j) e f = ap refused (same_refusal j k (planes_refused v b j (sym e) ∙ f))
  refused_by k (outcome y) e f =
      let r = box_by v b y e in
      absurd (not_both k _ (sym (planes_answered v b y (sym e) r.by _ r.holds refl ∙ f)))

pub no_bit_means : NoBitMeans
no_bit_means v b = (no_bit_by v b (intersects_box_call v b) refl, λ e. sym (seen_no_bit v b (sym e)))

pub refused_alike : RefusedAlike
refused_alike v b k = (refused_by v b k (intersects_box_call v b) refl, λ e. sym (planes_refused v b k (sym e)))
