-- What `all` and `any` find over the places below a limit, by a test of a value at each. Assumes nothing.
use Rattle.std.proofs.Common.{◌≡◌, ℕ, zero, suc, ◌<◌, zero-add, Bool, true, false, length, sym, refl, ◌∙◌, subst, arith}
use Rattle.std.specs.Bool.{MatchBool}
use Rattle.std.specs.List.{range_with_len, AllWithin, HoldsAt}
use Rattle.std.proofs.lemmas.List.FromFn.{get_or-range_with_len, length-range_with_len}
use Rattle.number.specs.Every.{every}
use Rattle.number.specs.Tabulate.{tabulate}
use Rattle.number.proofs.Tabulate.{passes_at}

module _ {A : Type 0} (test : A → Bool) where
  all_pass : (f : ℕ → A) (n : ℕ) → ((k : ℕ) → k < n → test (f k) ≡ true) → every test (tabulate f n) ≡ true
  unfolding every tabulate
  all_pass f zero h = refl
  all_pass f (suc n) h = rw (h 0 (omega arith)) (all_pass (λ i. f (suc i)) n (λ k l. h (suc k) (omega arith)))

  -- what `all` says over the places below n
  abbrev pub All : (ℕ → A) → ℕ → Bool → Type 0
  All f n r =
      MatchBool r (AllWithin (λ k. test (f k) ≡ true) (range_with_len 0 n) 0 (length (range_with_len 0 n)))
      ((k : ℕ) × (k < length (range_with_len 0 n)) × HoldsAt (λ k. test (f k) ≡ false) (range_with_len 0 n) k)

  at_place : (f : ℕ → A) (n k : ℕ) (b : Bool) → k < n → HoldsAt (λ j. test (f j) ≡ b) (range_with_len 0 n) k → test (f k) ≡ b
  at_place f n k b l h = subst (λ j. test (f j) ≡ b) (get_or-range_with_len 0 n k 0 l ∙ zero-add k) (h 0)

  pub all_over : (f : ℕ → A) (n : ℕ) (r : Bool) → All f n r → r ≡ every test (tabulate f n)
  all_over f n true h =
      sym (all_pass f n (λ k l. at_place f n k true l (λ d. h k d (omega arith) (omega (arith, length-range_with_len 0 n)))))
  all_over f n false h = fails (every test (tabulate f n)) refl
    where
      fails : (b : Bool) → every test (tabulate f n) ≡ b → false ≡ b
      fails false e = refl
      fails true e =
          let k = h.0 in
          let l : k < n = omega (arith, h.1, length-range_with_len 0 n) in
          let t = passes_at test f n e k l in
          let u = at_place f n k false l h.2 in cc
