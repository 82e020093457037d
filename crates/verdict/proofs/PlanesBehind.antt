-- The planes that a box is behind, one at a time: the bits of the places that pass a test, the verdict by one plane and by all, and the ways out of the call. Assumes nothing.
use Rattle.std.proofs.Common.{◌≡◌, ℕ, zero, suc, ◌+◌, ◌-◌, ◌*◌, ◌%◌, ◌^◌, ◌<◌, Bool, true, false, cond, not, ◌&&◌, T, eqb, ◌⊎◌, List, [], ◌∷◌, ◌++◌, length, take, drop, sym, refl, ap, ◌∙◌, subst, inl, inr, pow-suc, arith, pow_pos, pow-add}
use mathlib.Core.Bool.{and-true, and_assoc}
use lib.Ieee.{Float}
use lib.Pow.{high}
use Rattle.number.specs.Tabulate.{tabulate}
use Rattle.number.proofs.Tabulate.{next as next_plane}
use Rattle.number.specs.Limits.{box_length}
use Rattle.number.specs.Every.{every, every_below}
use Rattle.number.specs.Places.{places_below}
use Rattle.number.specs.Slice.{all_finite}
use Rattle.number.specs.Answer.{Outcome, refused, outcome, unless, has, and_then}
use Rattle.number.proofs.Every.{every_at}
use Rattle.number.proofs.PlacesBelow.{below_or_last, none_pass}
use Rattle.matrix.specs.Range.{is_empty}
use Rattle.verdict.specs.declared.plane.Plane.{Plane}
use Rattle.verdict.specs.declared.bbox.BBox3d.{BBox3d}
use Rattle.verdict.specs.Plane.{reaches_positive_side, under_inverse_transpose}
use Rattle.verdict.specs.BBox.{box_of}
use Rattle.verdict.specs.BBoxCalls.{flagged}
use Rattle.verdict.specs.View.{planes_held, planes_of}
use Rattle.verdict.specs.Frustum.{into_space_of, box_in_view}
use Rattle.verdict.specs.FrustumCalls.{verdict_after, intersects_box_call}
use Rattle.verdict.specs.PlanesBehind.{is_behind, bits_at, blocking_planes, blocking_planes_call}
use Rattle.verdict.specs.PlanesMeaning.{is_set}
use Rattle.verdict.specs.Steps.Passes.{bit}
use Rattle.verdict.proofs.Masks.{lowest}
use Rattle.verdict.proofs.PlanesHeld.{goes_on, is_refused}
use Rattle.verdict.proofs.VerdictChecks.{one_input}
use Rattle.verdict.proofs.VerdictCalls.{box_call}

-- ---- the bits of the places below n that pass a test

bits_joined : (l m : List ℕ) → bits_at (l ++ m) ≡ bits_at l + bits_at m
unfolding bits_at
bits_joined [] m = omega arith
bits_joined (i ∷ l) m = omega (arith, bits_joined l m)

module _ (t : ℕ → Bool) where
  abbrev pub bits : ℕ → ℕ
  bits n = bits_at (places_below n t)

  pub one_more : (n : ℕ) → bits (suc n) ≡ bits n + cond (t n) (2 ^ n) 0
  unfolding bits_at places_below
  one_more n = bits_joined (places_below n t) (cond (t n) (n ∷ []) []) ∙ ap (λ (m : ℕ). bits n + m) (last (t n))
    where
      last : (b : Bool) → bits_at (cond b (n ∷ []) []) ≡ cond b (2 ^ n) 0
      last true = omega arith
      last false = refl

  pub below : (n : ℕ) → bits n < 2 ^ n
  unfolding bits_at places_below
  below zero = omega arith
  below (suc n) = go (t n) (below n) (one_more n)
    where
      go : (b : Bool) → bits n < 2 ^ n → bits (suc n) ≡ bits n + cond b (2 ^ n) 0 → bits (suc n) < 2 ^ suc n
      go true l e = omega (arith, e, l, pow-suc 2 n)
      go false l e = omega (arith, e, l, pow-suc 2 n)

  -- what stands at a place, and above it
  record Above (i n : ℕ) : Type 0 where
    rest : ℕ
    is : bits n ≡ (rest * 2 + bit (t i)) * 2 ^ i + bits i

  above : (i n k : ℕ) → n ≡ suc i + k → Above i n
  above i n zero e = record { rest = 0; is = ap bits (omega (arith, e)) ∙ one_more i ∙ go (t i) }
    where
      go : (b : Bool) → bits i + cond b (2 ^ i) 0 ≡ (0 * 2 + bit b) * 2 ^ i + bits i
      go true = omega arith
      go false = omega arith
  above i n (suc k) e =
      let r = above i (suc i + k) k refl in
      let p : 2 ^ (suc i + k) ≡ 2 ^ k * (2 * 2 ^ i) = ap (λ (m : ℕ). 2 ^ m) (omega arith) ∙ pow-add 2 k (suc i) ∙ ap (λ (m : ℕ). 2 ^ k * m) (pow-suc 2 i ∙ omega arith) in
      record { rest = r.rest + cond (t (suc i + k)) (2 ^ k) 0; is = ap bits (omega (arith, e)) ∙ one_more (suc i + k) ∙ go (t (suc i + k)) r.rest (bit (t i)) r.is p }
    where
      go : (b : Bool) (r c : ℕ) → bits (suc i + k) ≡ (r * 2 + c) * 2 ^ i + bits i → 2 ^ (suc i + k) ≡ 2 ^ k * (2 * 2 ^ i)
          → bits (suc i + k) + cond b (2 ^ (suc i + k)) 0 ≡ ((r + cond b (2 ^ k) 0) * 2 + c) * 2 ^ i + bits i
      go true r c e p = omega (arith, e, p)
      go false r c e p = omega (arith, e)

  pub bit_is : (i n : ℕ) → i < n → is_set (bits n) i ≡ t i
  bit_is i n h =
      let r = above i n (n - suc i) (omega arith) in
      ap (λ (m : ℕ). is_set m i) r.is ∙ ap (λ (m : ℕ). eqb (m % 2) 1) (high (r.rest * 2 + bit (t i)) i (below i)) ∙ lowest r.rest (t i)

  -- none passes
  pub no_bit : (n : ℕ) → ((i : ℕ) → i < n → t i ≡ false) → bits n ≡ 0
  unfolding bits_at
  no_bit n h = ap bits_at (none_pass n t h)

  pub none_set : (n : ℕ) → bits n ≡ 0 → (i : ℕ) → i < n → t i ≡ false
  none_set zero e i l = absurd (omega arith)
  none_set (suc n) e i l = go (λ z. none_set n z i) (t n) refl (one_more n) (below_or_last i n l)
    where
      go : (bits n ≡ 0 → i < n → t i ≡ false) → (b : Bool) → t n ≡ b → bits (suc n) ≡ bits n + cond b (2 ^ n) 0 → ((i < n) ⊎ (i ≡ n)) → t i ≡ false
      go f true q s k = absurd (omega (arith, s, e, pow_pos n))
      go f false q s (inl k) = f (omega (arith, s, e)) k
      go f false q s (inr k) = ap t k ∙ q

  -- all pass
  pub all_bits : (n : ℕ) → ((i : ℕ) → i < n → t i ≡ true) → bits n ≡ 2 ^ n - 1
  unfolding bits_at places_below
  all_bits zero h = refl
  all_bits (suc n) h =
      one_more n ∙ ap (λ (b : Bool). bits n + cond b (2 ^ n) 0) (h n (omega arith)) ∙ omega (arith, all_bits n (λ i l. h i (omega arith)), pow-suc 2 n, pow_pos n)

-- two tests that agree below n
pub same_places : (n : ℕ) (s t : ℕ → Bool) → ((i : ℕ) → i < n → s i ≡ t i) → places_below n s ≡ places_below n t
unfolding places_below
same_places zero s t h = refl
same_places (suc n) s t h = λ k. same_places n s t (λ i l. h i (omega arith)) k ++ cond (h n (omega arith) k) (n ∷ []) []

-- ---- a test of all planes, by each alone

-- the first of the numbers below a limit, and those behind it
pub first_below : (n : ℕ) (t : ℕ → Bool) → every_below (suc n) t ≡ (t 0 && every_below n (λ k. t (suc k)))
unfolding every_below
first_below zero t = sym (and-true (t 0))
first_below (suc n) t = ap (λ (b : Bool). b && t (suc n)) (first_below n t) ∙ and_assoc (t 0) (every_below n (λ k. t (suc k))) (t (suc n))

module _ {A : Type 0} (test : A → Bool) where
  pub every_alone : (l : List A) → every test l ≡ every_below (length l) (λ i. every test (take 1 (drop i l)))
  unfolding every every_below
  every_alone [] = refl
  every_alone (x ∷ l) =
      (λ k. sym (and-true (test x)) k && every_alone l k) ∙ sym (first_below (length l) (λ i. every test (take 1 (drop i (x ∷ l)))))

pub all_below : (n : ℕ) (t : ℕ → Bool) → ((i : ℕ) → i < n → t i ≡ true) → every_below n t ≡ true
unfolding every_below
all_below zero t h = refl
all_below (suc n) t h = λ k. all_below n t (λ i l. h i (omega arith)) k && h n (omega arith) k

-- ---- the box verdict

module _ (b : BBox3d) where
  abbrev pub reached : Plane → Bool
  reached p = reaches_positive_side (under_inverse_transpose (into_space_of b) p) b.range

  -- by one plane it is the test of that plane
  pub alone : (p : Plane) → box_in_view (p ∷ []) b ≡ reached p
  unfolding box_in_view every reaches_positive_side
  alone p = go (is_empty b.range) _
    where
      go : (e x : Bool) → (not e && ((not e && x) && true)) ≡ (not e && x)
      go true x = refl
      go false x = and-true x

  pub behind_is : (f : ℕ → Plane) (n i : ℕ) (p : Plane) → i < n → p ≡ f i → is_behind (tabulate f n) b i ≡ not (reached p)
  behind_is f n i p h e = ap (λ (l : List Plane). not (box_in_view (take 1 l) b)) (next_plane f n i p h e) ∙ ap not (alone p)

  pub empty_unseen : (ps : List Plane) → is_empty b.range ≡ true → box_in_view ps b ≡ false
  unfolding box_in_view
  empty_unseen ps e = ap (λ (z : Bool). not z && every reached ps) e

  pub some_seen : (ps : List Plane) → is_empty b.range ≡ false → box_in_view ps b ≡ every reached ps
  unfolding box_in_view
  some_seen ps e = ap (λ (z : Bool). not z && every reached ps) e

  pub by_range : (A : Type 0) → (is_empty b.range ≡ true → A) → (is_empty b.range ≡ false → A) → A
  by_range A f g = go (is_empty b.range) refl
    where
      go : (z : Bool) → is_empty b.range ≡ z → A
      go true e = f e
      go false e = g e

  module _ (ps : List Plane) where
    abbrev seen : ℕ → Bool
    seen i = box_in_view (take 1 (drop i ps)) b

    -- in view by each plane alone, where there is one, is in view by all
    pub each_seen : 0 < length ps → ((i : ℕ) → i < length ps → seen i ≡ true) → box_in_view ps b ≡ true
    each_seen h s = by_range _
        (λ e. absurd (subst T (sym (s 0 h) ∙ empty_unseen (take 1 (drop 0 ps)) e) tt))
        (λ e. some_seen ps e ∙ every_alone reached ps ∙ all_below (length ps) (λ i. every reached (take 1 (drop i ps))) (λ i l. sym (some_seen (take 1 (drop i ps)) e) ∙ s i l))

    pub seen_each : box_in_view ps b ≡ true → (i : ℕ) → i < length ps → seen i ≡ true
    seen_each s i l = by_range _
        (λ e. absurd (subst T (sym s ∙ empty_unseen ps e) tt))
        (λ e. some_seen (take 1 (drop i ps)) e ∙ every_at (length ps) (λ j. every reached (take 1 (drop j ps))) (sym (every_alone reached ps) ∙ sym (some_seen ps e) ∙ s) i l)

-- ---- a box: what is answered is the verdict by the planes that the volume holds

pub record Answered {A : Type 0} (lengths : Bool) (held : Outcome A) (verdict : A → Bool) (y : Bool) : Type 0 where
  pub long : lengths ≡ true
  pub by : A
  pub holds : outcome by ≡ held
  pub is : verdict by ≡ y

by_what : {A : Type 0} (lengths : Bool) (held : Outcome A) (flag : Bool) (lent : List (List Float)) (verdict : A → Bool) (y : Bool)
    → verdict_after lengths held flag lent verdict ≡ outcome y → Answered lengths held verdict y
unfolding verdict_after
by_what {A} lengths held flag lent verdict y e = go lengths held flag (every all_finite lent) e
  where
    go : (l : Bool) (h : Outcome A) (f w : Bool)
        → unless l (refused 1) (and_then h (λ x. unless f (refused 3) (unless w (refused 13) (outcome (verdict x))))) ≡ outcome y → Answered l h verdict y
    go true (outcome x) true true e = record { long = refl; by = x; holds = refl; is = cc }
    go true (outcome x) true false e = let z : ◌≡◌ {A = ℕ} 0 1 = cc in absurd (omega (arith, z))
    go true (outcome x) false w e = let z : ◌≡◌ {A = ℕ} 0 1 = cc in absurd (omega (arith, z))
    go true (refused k) f w e = let z : ◌≡◌ {A = ℕ} 0 1 = cc in absurd (omega (arith, z))
    go false h f w e = let z : ◌≡◌ {A = ℕ} 0 1 = cc in absurd (omega (arith, z))

module _ (v b : List Float) where
  abbrev pub bits_of : ℕ → Outcome ℕ
  bits_of n = outcome (blocking_planes (planes_of v n) (box_of b))

  abbrev planes_after : Bool → Outcome ℕ
  planes_after seen = and_then (planes_held v) bits_of

  planes_is : and_then (intersects_box_call v b) planes_after ≡ blocking_planes_call v b
  unfolding blocking_planes_call
  planes_is = refl

  pub box_by : (y : Bool) → intersects_box_call v b ≡ outcome y → Answered (has box_length b) (planes_held v) (λ n. box_in_view (planes_of v n) (box_of b)) y
  box_by y e =
      by_what (has box_length b) (planes_held v) (flagged b) (v ∷ b ∷ []) (λ n. box_in_view (planes_of v n) (box_of b)) y
      (ap (λ (l : Bool). verdict_after l (planes_held v) (flagged b) (v ∷ b ∷ []) (λ n. box_in_view (planes_of v n) (box_of b))) (sym (one_input box_length b)) ∙ box_call v b ∙ e)

  pub planes_refused : (k : ℕ) → refused k ≡ intersects_box_call v b → refused k ≡ blocking_planes_call v b
  planes_refused k e = is_refused planes_after (intersects_box_call v b) k e ∙ planes_is

  module _ (y : Bool) (e : outcome y ≡ intersects_box_call v b) where
    pub planes_not_held : (k : ℕ) → refused k ≡ planes_held v → refused k ≡ blocking_planes_call v b
    planes_not_held k h = goes_on planes_after (intersects_box_call v b) y (refused k) e (is_refused bits_of (planes_held v) k h) ∙ planes_is

    pub planes_answered : (n : ℕ) (x : Outcome ℕ) → outcome n ≡ planes_held v → x ≡ bits_of n → x ≡ blocking_planes_call v b
    planes_answered n x h q = goes_on planes_after (intersects_box_call v b) y x e (goes_on bits_of (planes_held v) n x h q) ∙ planes_is
