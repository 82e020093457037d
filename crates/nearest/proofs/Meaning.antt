-- What the answers mean (`specs/Meaning.antt`): by the search for the least, and by induction over the places below a limit. Assumes nothing.
use Rattle.std.specs.Prelude.{None, Option, Some, ℕ}
use mathlib.Core.Path.{◌≡◌, refl, sym, ap, ◌∙◌, subst}
use mathlib.Core.Bool.{Bool, true, false, cond}
use mathlib.Core.Logic.{◌⊎◌, inl, inr}
use mathlib.Core.List.Memᴰ
use mathlib.Core.List.{List, [], ◌∷◌, ◌++◌, append-nil, Memᴰ}
use Prim.Native.Nat.{ℕ, zero, suc, ◌*◌, ◌<◌, ◌≤◌}
use native.Mathlib.Omega.{arith}
use borrow.Author.Tests.{eq-eqb, leb-true}
use lib.Dec.{T, leb}
use lib.ListN.{length}
use lib.Ieee.{Float, lt}
use lib.Ieee.Bits.{is_true}
use Rattle.number.specs.Answer.{outcome, put_place}
use Rattle.number.specs.Limits.{point_length, range_length}
use Rattle.number.specs.Slots.{unused}
use Rattle.number.specs.Records.{are_records}
use Rattle.number.proofs.Comparisons.{refuted, lt_not_le, not_less}
use Rattle.number.proofs.Tests.{both_hold}
use Rattle.number.proofs.Records.{records_length}
use Rattle.number.proofs.Ways.{both, answered}
use Rattle.matrix.specs.Vec.{vec3_of}
use Rattle.matrix.specs.declared.vec.Vec3d.{Vec3d}
use Rattle.number.specs.Places.{places_below}
use Rattle.nearest.specs.Nearest.{most_ranges, range_count, are_ranges, distance_at, is_candidate, is_nearer, is_nearest, is_within, nearest_of, places_within}
use Rattle.nearest.specs.Calls.{nearest_call}
use Rattle.nearest.specs.Meaning.{IsNearest, NearestMeans, NoneMeans, Rising, WithinMeans}
use Rattle.number.proofs.PlacesBelow.{as_many, below_or_last}
use Rattle.nearest.proofs.First.{Best, Searched, finds, searched}
use Rattle.nearest.proofs.Distances.{a_number, one_way, through}

holds : {b : Bool} → b ≡ true → T b
holds e = subst T (sym e) tt

-- ---- the nearest

module _ (s : List Float) (p : Vec3d) where
  known : Searched (is_candidate s p) (is_nearer s p) (range_count s) (nearest_of s p)
  unfolding nearest_of is_nearest
  known = searched (is_candidate s p) (is_nearer s p) (one_way s p) (through s p) (range_count s)

  is_found : (f : Option ℕ) → Searched (is_candidate s p) (is_nearer s p) (range_count s) f → nearest_of s p ≡ f
  unfolding nearest_of is_nearest
  is_found f h = finds (is_candidate s p) (is_nearer s p) (one_way s p) (through s p) (range_count s) f h

  told : (i : ℕ) → Best (is_candidate s p) (is_nearer s p) (range_count s) i → IsNearest s p i
  unfolding is_nearer
  told i b = record {
    place = b.passed;
    candidate = holds b.passes;
    nothing_nearer = λ j l t. let c = is_true (is_candidate s p j) t in not_less _ _ (a_number s p j c) (a_number s p i b.passes) (b.least j l c);
    earlier_further = λ j l t. holds (b.first j l (is_true (is_candidate s p j) t));
  }

  best : (i : ℕ) → IsNearest s p i → Best (is_candidate s p) (is_nearer s p) (range_count s) i
  unfolding is_nearer
  best i n = record {
    passed = n.place;
    passes = is_true (is_candidate s p i) n.candidate;
    least = λ j l t. refuted (lt (distance_at s p j) (distance_at s p i)) (λ h. lt_not_le _ _ h (n.nothing_nearer j l (holds t)));
    first = λ j l t. is_true (lt (distance_at s p i) (distance_at s p j)) (n.earlier_further j l (holds t));
  }

pub nearest_means : NearestMeans
nearest_means s p i = (
  λ e. told s p i (subst (Searched (is_candidate s p) (is_nearer s p) (range_count s)) e (known s p)),
  λ n. is_found s p (Some i) (best s p i n),
)

pub none_means : NoneMeans
none_means s p = (
  λ e i l t. absurd (subst T (subst (Searched (is_candidate s p) (is_nearer s p) (range_count s)) e (known s p) i l) t),
  λ h. is_found s p None (λ i l. refuted (is_candidate s p i) (h i l)),
)

-- ---- the number that stands for none

-- what the test of the ranges says of their number
pub record Counted (s : List Float) : Type 0 where
  pub whole : length s ≡ range_count s * range_length
  pub most : range_count s ≤ most_ranges

pub counted : (s : List Float) → are_ranges s ≡ true → Counted s
counted s h =
    let p = both_hold (are_records range_length s) (leb (length s) (most_ranges * range_length)) h in
    let whole = records_length range_length s p.0 in
    let l = leb-true (length s) (most_ranges * range_length) p.1 in
    record { whole = whole; most = omega arith }

-- it is no place
pub place_below : (s : List Float) (p : Vec3d) (i : ℕ) → are_ranges s ≡ true → nearest_of s p ≡ Some i → i < unused
place_below s p i h e =
    let l = ((nearest_means s p i).0 e).place in
    let m = (counted s h).most in
    omega arith

-- so that where it is told none is left
pub none_left : (s p : List Float) (n before : ℕ) → are_ranges s ≡ true → length p ≡ point_length → n ≡ (put_place (outcome (nearest_of s (vec3_of p))) before).value → n ≡ unused
    → outcome None ≡ nearest_call s p
unfolding nearest_call
none_left s p n before h e g z = answered _ _ _ None (both h (eq-eqb _ _ e)) (go (nearest_of s (vec3_of p)) refl)
  where
    go : (f : Option ℕ) → nearest_of s (vec3_of p) ≡ f → None ≡ f
    go None k = refl
    go (Some i) k =
        let l = place_below s (vec3_of p) i h k in
        let q = sym z ∙ g ∙ ap (λ (f : Option ℕ). (put_place (outcome f) before).value) k in
        absurd (omega arith)

-- ---- those within a distance

-- a place is listed just where it is below the limit and passes
module _ (test : ℕ → Bool) where
  by_last : (n i : ℕ) (b : Bool) → test n ≡ b → Memᴰ i (cond b (n ∷ []) []) → (i ≡ n) × T (test i)
  by_last n i true e m = let q = Memᴰ.eq_of_singleton m in (q, subst (λ (k : ℕ). T (test k)) (sym q) (holds e))
  by_last n i false e m = absurd (Memᴰ.not-nil m)

  listed_passes : (n i : ℕ) → Memᴰ i (places_below n test) → (i < n) × T (test i)
  unfolding places_below
  listed_passes zero i m = absurd (Memᴰ.not-nil m)
  listed_passes (suc n) i m = go (listed_passes n i) (Memᴰ.append_cases (places_below n test) m)
    where
      go : (Memᴰ i (places_below n test) → (i < n) × T (test i)) → (Memᴰ i (places_below n test) ⊎ Memᴰ i (cond (test n) (n ∷ []) []))
          → (i < suc n) × T (test i)
      go before (inl k) = let h = before k in (omega arith, h.1)
      go before (inr k) = let h = by_last n i (test n) refl k in (omega arith, h.1)

  passes_listed : (n i : ℕ) → i < n → test i ≡ true → Memᴰ i (places_below n test)
  unfolding places_below
  passes_listed zero i l t = absurd (omega arith)
  passes_listed (suc n) i l t = go (λ k. passes_listed n i k t) (below_or_last i n l)
    where
      go : (i < n → Memᴰ i (places_below n test)) → ((i < n) ⊎ (i ≡ n)) → Memᴰ i (places_below n test ++ cond (test n) (n ∷ []) [])
      go before (inl k) = Memᴰ.append_left (cond (test n) (n ∷ []) []) (before k)
      go before (inr e) =
          Memᴰ.append_right (places_below n test)
          (subst (λ (b : Bool). Memᴰ i (cond b (n ∷ []) [])) (sym (subst (λ (k : ℕ). test k ≡ true) e t)) (Memᴰ.head e))

  -- with one place more, above all that are there, it still rises
  one_above : (l : List ℕ) (n : ℕ) → Rising l → ((j : ℕ) → Memᴰ j l → j < n) → Rising (l ++ (n ∷ []))
  one_above [] n r h = (λ j m. absurd (Memᴰ.not-nil m), tt)
  one_above (i ∷ is) n r h = (λ j m. go j (Memᴰ.append_cases is m), one_above is n r.1 (λ j m. h j (Memᴰ.tail m)))
    where
      go : (j : ℕ) → (Memᴰ j is ⊎ Memᴰ j (n ∷ [])) → i < j
      go j (inl m) = r.0 j m
      go j (inr m) = subst (λ (k : ℕ). i < k) (sym (Memᴰ.eq_of_singleton m)) (h i (Memᴰ.head refl))

  rises : (n : ℕ) → Rising (places_below n test)
  unfolding places_below
  rises zero = tt
  rises (suc n) = go (test n) refl (rises n)
    where
      go : (b : Bool) → test n ≡ b → Rising (places_below n test) → Rising (places_below n test ++ cond b (n ∷ []) [])
      go true e r = one_above (places_below n test) n r (λ j m. (listed_passes n j m).0)
      go false e r = subst Rising (sym (append-nil (places_below n test))) r

pub within_means : WithinMeans
unfolding places_within
within_means s p limit = record {
  listed = λ i. (listed_passes (is_within s p limit) (range_count s) i, λ h. passes_listed (is_within s p limit) (range_count s) i h.0 (is_true (is_within s p limit i) h.1));
  rising = rises (is_within s p limit) (range_count s);
  number = as_many (range_count s) (is_within s p limit);
}
