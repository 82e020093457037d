-- A box that is behind one plane alone is in view without that plane (`OnlyBitMeans`): by the bits of the places, and by the verdict of each plane alone. Assumes nothing.
use mathlib.Core.Path.{◌≡◌, refl, sym, ap, ◌∙◌, subst}
use mathlib.Core.Bool.{Bool, true, false, not, cond, ◌&&◌, ◌||◌, and-true}
use mathlib.Core.Logic.{◌⊎◌, inl, inr}
use mathlib.Core.List.{List, [], ◌∷◌}
use Prim.Native.Nat.{ℕ, zero, suc, ◌+◌, ◌^◌, ◌<◌}
use native.Mathlib.Omega.{arith}
use borrow.Author.Tests.{eqb-true, eqb-false, ne_eqb}
use lib.Dec.{T, eqb}
use lib.ListN.{length, take, drop}
use lib.Pow.{pow-lt}
use Rattle.number.specs.Every.{every, every_below}
use Rattle.number.proofs.Every.{every_at}
use Rattle.number.proofs.PlacesBelow.{below_or_last}
use Rattle.matrix.specs.Range.{is_empty}
use Rattle.verdict.specs.declared.plane.Plane.{Plane}
use Rattle.verdict.specs.declared.bbox.BBox3d.{BBox3d}
use Rattle.verdict.specs.Frustum.{box_in_view}
use Rattle.verdict.specs.PlanesBehind.{is_behind}
use Rattle.verdict.proofs.PlanesBehind.{bits, one_more, below, no_bit, none_set, first_below, every_alone, all_below, reached, empty_unseen, some_seen, by_range, each_seen}
use Rattle.verdict.proofs.PlanesMeaning.{unset, are_bits}
use Rattle.blocking.specs.Blocking.{without}
use Rattle.blocking.specs.Meaning.{OnlyBitMeans}
use Rattle.blocking.proofs.Without.{next_same}

-- ---- the bits of the places below n that pass a test

module _ (t : ℕ → Bool) where
  -- that at i passes alone
  record Only (i n : ℕ) : Type 0 where
    passes : t i ≡ true
    others : (j : ℕ) → j < n → (j ≡ i → ⊥) → t j ≡ false

  only_bit : (i n : ℕ) → i < n → Only i n → bits t n ≡ 2 ^ i
  only_bit i zero l o = absurd (omega arith)
  only_bit i (suc n) l o = go (λ k. only_bit i n k (record { passes = o.passes; others = λ j m. o.others j (omega arith) })) (below_or_last i n l)
    where
      go : (i < n → bits t n ≡ 2 ^ i) → ((i < n) ⊎ (i ≡ n)) → bits t (suc n) ≡ 2 ^ i
      go f (inl k) =
          one_more t n ∙ ap (λ (b : Bool). bits t n + cond b (2 ^ n) 0) (o.others n (omega arith) (λ e. omega arith)) ∙ omega (arith, f k)
      go f (inr k) =
          one_more t n ∙ ap (λ (b : Bool). bits t n + cond b (2 ^ n) 0) (ap t (sym k) ∙ o.passes)
          ∙ omega (arith, no_bit t n (λ j m. o.others j (omega arith) (λ e. omega arith)), ap (λ (m : ℕ). 2 ^ m) k)

  only_set : (i n : ℕ) → i < n → bits t n ≡ 2 ^ i → Only i n
  only_set i zero l e = absurd (omega arith)
  only_set i (suc n) l e = go (only_set i n) (t n) refl (one_more t n) (below_or_last i n l)
    where
      before : i ≡ n → (j : ℕ) → j < suc n → (j ≡ i → ⊥) → j < n
      before k j m d = omega (arith, d)

      other : t n ≡ false → Only i n → (j : ℕ) → (j ≡ i → ⊥) → ((j < n) ⊎ (j ≡ n)) → t j ≡ false
      other q o j d (inl m) = o.others j m d
      other q o j d (inr m) = ap t m ∙ q

      go : (i < n → bits t n ≡ 2 ^ i → Only i n) → (b : Bool) → t n ≡ b → bits t (suc n) ≡ bits t n + cond b (2 ^ n) 0 → ((i < n) ⊎ (i ≡ n)) → Only i (suc n)
      go f true q s (inl k) = absurd (omega (arith, s, e, pow-lt k))
      go f true q s (inr k) = record {
        passes = ap t k ∙ q;
        others = λ j m d. none_set t n (omega (arith, s, e, ap (λ (x : ℕ). 2 ^ x) k)) j (before k j m d);
      }
      go f false q s (inl k) =
          let o = f k (omega (arith, s, e)) in
          record { passes = o.passes; others = λ j m d. other q o j d (below_or_last j n m) }
      go f false q s (inr k) = absurd (omega (arith, s, e, below t n, ap (λ (x : ℕ). 2 ^ x) k))

-- ---- a test of all but one, by each alone

module _ {A : Type 0} (test : A → Bool) where
  every_without : (l : List A) (j : ℕ) → every test (without j l) ≡ every_below (length l) (λ i. eqb i j || every test (take 1 (drop i l)))
  unfolding every every_below
  every_without [] zero = refl
  every_without [] (suc j) = refl
  every_without (x ∷ l) zero =
      every_alone test l
      ∙ (λ k. every_below (length l) (λ i. sym (ne_eqb (suc i) 0 (λ e. omega arith)) k || every test (take 1 (drop i l))))
      ∙ sym (first_below (length l) (λ i. eqb i 0 || every test (take 1 (drop i (x ∷ l)))))
  every_without (x ∷ l) (suc j) =
      (λ k. sym (and-true (test x)) k && every_without l j k)
      ∙ (λ k. (sym (ne_eqb 0 (suc j) (λ e. omega arith)) k || (test x && true)) && every_below (length l) (λ i. next_same i j k || every test (take 1 (drop i l))))
      ∙ sym (first_below (length l) (λ i. eqb i (suc j) || every test (take 1 (drop i (x ∷ l)))))

-- ---- the box verdict

module _ (b : BBox3d) (ps : List Plane) where
  seen_without_lem : (j : ℕ) → box_in_view (without j ps) b ≡ true → (i : ℕ) → i < length ps → (i ≡ j → ⊥) → box_in_view (take 1 (drop i ps)) b ≡ true
  seen_without_lem j s i l d = by_range b _
      (λ e. absurd (subst T (sym s ∙ empty_unseen b (without j ps) e) tt))
      (λ e. some_seen b (take 1 (drop i ps)) e
      ∙ sym (ap (λ (z : Bool). z || every (reached b) (take 1 (drop i ps))) (ne_eqb i j d))
      ∙ every_at (length ps) (λ k. eqb k j || every (reached b) (take 1 (drop k ps))) (sym (every_without (reached b) ps j) ∙ sym (some_seen b (without j ps) e) ∙ s) i l)

  -- in view by each of the other planes alone, of which there is one at k
  others_seen : (j k : ℕ) → k < length ps → (k ≡ j → ⊥) → ((i : ℕ) → i < length ps → (i ≡ j → ⊥) → box_in_view (take 1 (drop i ps)) b ≡ true) → box_in_view (without j ps) b ≡ true
  others_seen j k h d s = by_range b _
      (λ e. absurd (subst T (sym (s k h d) ∙ empty_unseen b (take 1 (drop k ps)) e) tt))
      (λ e. some_seen b (without j ps) e ∙ every_without (reached b) ps j ∙ all_below (length ps) (λ i. eqb i j || every (reached b) (take 1 (drop i ps))) (λ i l. go e i l (eqb i j) refl))
    where
      go : is_empty b.range ≡ false → (i : ℕ) → i < length ps → (z : Bool) → eqb i j ≡ z → (z || every (reached b) (take 1 (drop i ps))) ≡ true
      go e i l true q = refl
      go e i l false q = sym (some_seen b (take 1 (drop i ps)) e) ∙ s i l (eqb-false i j q)

-- ---- the only bit

module _ (ps : List Plane) (b : BBox3d) (i : ℕ) (two : 1 < length ps) (h : i < length ps) (hidden : box_in_view ps b ≡ false) where
  -- without plane i it is in view, so that it is behind none of the others, and behind plane i, since it is not in view by all
  only : box_in_view (without i ps) b ≡ true → Only (is_behind ps b) i (length ps)
  only s = record {
    passes = passes (box_in_view (take 1 (drop i ps)) b) refl;
    others = λ j l d. ap not (seen_without_lem b ps i s j l d);
  }
    where
      each : box_in_view (take 1 (drop i ps)) b ≡ true → (j : ℕ) → j < length ps → (z : Bool) → eqb j i ≡ z → box_in_view (take 1 (drop j ps)) b ≡ true
      each e j l true q = ap (λ (k : ℕ). box_in_view (take 1 (drop k ps)) b) (eqb-true j i q) ∙ e
      each e j l false q = seen_without_lem b ps i s j l (eqb-false j i q)

      passes : (z : Bool) → box_in_view (take 1 (drop i ps)) b ≡ z → not (box_in_view (take 1 (drop i ps)) b) ≡ true
      passes false e = ap not e
      passes true e = absurd (subst T (sym (each_seen b ps (omega arith) (λ j l. each e j l (eqb j i) refl)) ∙ hidden) tt)

  -- of two planes one is another than that at i
  seen : Only (is_behind ps b) i (length ps) → box_in_view (without i ps) b ≡ true
  seen o = go (eqb i 0) refl
    where
      others : (j : ℕ) → j < length ps → (j ≡ i → ⊥) → box_in_view (take 1 (drop j ps)) b ≡ true
      others j l d = unset _ (o.others j l d)

      go : (z : Bool) → eqb i 0 ≡ z → box_in_view (without i ps) b ≡ true
      go true q = others_seen b ps i 1 two (λ e. omega (arith, e, eqb-true i 0 q)) others
      go false q = others_seen b ps i 0 (omega arith) (λ e. eqb-false i 0 q (sym e)) others

pub only_bit_means : OnlyBitMeans
only_bit_means ps b i two h u = (
  λ s. are_bits ps b ∙ only_bit (is_behind ps b) i (length ps) h (only ps b i two h u s),
  λ e. seen ps b i two h u (only_set (is_behind ps b) i (length ps) h (sym (are_bits ps b) ∙ e)),
)
