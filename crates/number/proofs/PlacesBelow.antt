-- The places below a limit that pass a test: which they are, that they rise, how many there are, and the first of them. Assumes nothing.
use Rattle.std.proofs.Common.{◌≡◌, ℕ, zero, suc, ◌+◌, ◌<◌, ◌≤◌, Bool, true, false, cond, ltb, ◌⊎◌, List, [], ◌∷◌, ◌++◌, length, sym, refl, ap, ◌∙◌, subst, inl, inr, append-nil, arith, length-append, ltb-false, ltb-true, None, Option, Some}
use Rattle.number.specs.Places.{places_below, count_below, first_of}

-- ---- how many

pub as_many : (n : ℕ) (test : ℕ → Bool) → length (places_below n test) ≡ count_below n test
unfolding places_below count_below
as_many zero test = refl
as_many (suc n) test = length-append (places_below n test) _ ∙ (λ i. as_many n test i + last (test n) i)
  where
    last : (b : Bool) → length (cond b (n ∷ []) []) ≡ cond b 1 0
    last true = refl
    last false = refl

pub no_more : (n : ℕ) (test : ℕ → Bool) → count_below n test ≤ n
unfolding count_below
no_more zero test = omega arith
no_more (suc n) test = go (test n) (no_more n test)
  where
    go : (b : Bool) → count_below n test ≤ n → count_below n test + cond b 1 0 ≤ suc n
    go true h = omega arith
    go false h = omega arith

-- ---- one place more

pub next_passes : (n : ℕ) (test : ℕ → Bool) → test n ≡ true → places_below (suc n) test ≡ places_below n test ++ (n ∷ [])
unfolding places_below
next_passes n test h = ap (λ (b : Bool). places_below n test ++ cond b (n ∷ []) []) h

pub next_fails : (n : ℕ) (test : ℕ → Bool) → test n ≡ false → places_below (suc n) test ≡ places_below n test
unfolding places_below
next_fails n test h = ap (λ (b : Bool). places_below n test ++ cond b (n ∷ []) []) h ∙ append-nil _

-- ---- the first

-- where no place below n passes there is nowhere
pub none_pass : (n : ℕ) (test : ℕ → Bool) → ((i : ℕ) → i < n → test i ≡ false) → places_below n test ≡ []
unfolding places_below
none_pass zero test h = refl
none_pass (suc n) test h = next_fails n test (h n (omega arith)) ∙ none_pass n test (λ i l. h i (omega arith))

first_of_more : (l m : List ℕ) (i : ℕ) → first_of l ≡ Some i → first_of (l ++ m) ≡ Some i
first_of_more [] m i h = absurd (never h)
  where
    never : None ≡ Some i → ⊥
    never p = let z : ◌≡◌ {A = ℕ} 0 1 = cc in omega arith
first_of_more (j ∷ l) m i h = h

pub below_or_last : (i n : ℕ) → i < suc n → (i < n) ⊎ (i ≡ n)
below_or_last i n l = go (ltb i n) refl
  where
    go : (b : Bool) → ltb i n ≡ b → (i < n) ⊎ (i ≡ n)
    go true e = inl (ltb-true i n e)
    go false e = inr (let h = ltb-false i n e in omega arith)

-- the first is the place that passes and has nowhere before it that does
pub first_passes : (n : ℕ) (test : ℕ → Bool) (i : ℕ) → i < n → test i ≡ true → ((j : ℕ) → j < i → test j ≡ false) → first_of (places_below n test) ≡ Some i
unfolding places_below
first_passes zero test i l h before = absurd (omega arith)
first_passes (suc n) test i l h before = go (λ k. first_passes n test i k h before) (below_or_last i n l)
  where
    go : (i < n → first_of (places_below n test) ≡ Some i) → ((i < n) ⊎ (i ≡ n)) → first_of (places_below (suc n) test) ≡ Some i
    go below (inl k) = first_of_more (places_below n test) _ i (below k)
    go below (inr e) =
        ap first_of (next_passes n test (subst (λ (k : ℕ). test k ≡ true) e h) ∙ ap (λ (m : List ℕ). m ++ (n ∷ [])) (none_pass n test (λ j k. before j (omega arith)))) ∙ ap Some (sym e)

-- ---- what is found

module _ (test : ℕ → Bool) where
  -- of the places below n that at i is the first that passes
  pub record First (n i : ℕ) : Type 0 where
    pub place : i < n
    pub passes : test i ≡ true
    pub before : (j : ℕ) → j < i → test j ≡ false

  abbrev pub IsFirst : ℕ → Option ℕ → Type 0
  IsFirst n None = (i : ℕ) → i < n → test i ≡ false
  IsFirst n (Some i) = First n i

  pub finds : (n : ℕ) (f : Option ℕ) → IsFirst n f → first_of (places_below n test) ≡ f
  finds n None s = ap first_of (none_pass n test s)
  finds n (Some i) s = first_passes n test i s.place s.passes s.before

  record FirstBelow (n : ℕ) : Type 0 where
    answer : Option ℕ
    is : IsFirst n answer

  one_more : (n : ℕ) (f : Option ℕ) → IsFirst n f → (b : Bool) → test n ≡ b → FirstBelow (suc n)
  one_more n (Some i) s b e = record { answer = Some i; is = record { place = let k = s.place in omega arith; passes = s.passes; before = s.before } }
  one_more n None s true e = record { answer = Some n; is = record { place = omega arith; passes = e; before = s } }
  one_more n None s false e = record { answer = None; is = λ i l. at_last i (below_or_last i n l) }
    where
      at_last : (i : ℕ) → ((i < n) ⊎ (i ≡ n)) → test i ≡ false
      at_last i (inl k) = s i k
      at_last i (inr q) = subst (λ (k : ℕ). test k ≡ false) (sym q) e

  first_below : (n : ℕ) → FirstBelow n
  first_below zero = record { answer = None; is = λ i l. absurd (omega arith) }
  first_below (suc n) = let r = first_below n in one_more n r.answer r.is (test n) refl

  -- a search ends with the first or nowhere, so that what is found is known
  pub is_first : (n : ℕ) → IsFirst n (first_of (places_below n test))
  is_first n = let r = first_below n in subst (IsFirst n) (sym (finds n r.answer r.is)) r.is
