-- A search from place to place for the least that passes a test, the first on a tie: what is known once the places below i are passed, and what is found
-- at the end. The order is any that is one_way and in which what is not before another that passes is not before what that is not before. Assumes nothing.
use Rattle.std.specs.Prelude.{None, Option, Some, ℕ}
use mathlib.Core.Path.{◌≡◌, refl, sym, ap, ◌∙◌, subst}
use mathlib.Core.Bool.{Bool, true, false, not, ◌&&◌}
use mathlib.Core.Logic.{◌⊎◌, inl, inr}
use Prim.Native.Nat.{ℕ, zero, suc, ◌+◌, ◌<◌}
use native.Mathlib.Numerals.{add-one}
use native.Mathlib.Omega.{arith}
use Rattle.number.specs.Every.{every_below}
use Rattle.number.specs.Places.{places_below, first_of}
use Rattle.number.proofs.PlacesBelow.{below_or_last, none_pass, first_passes}

clash : true ≡ false → ⊥
clash e = let z : ◌≡◌ {A = ℕ} 0 1 = cc in omega arith

-- each of the numbers below n passes where every one is shown to
pub all_pass : (n : ℕ) (test : ℕ → Bool) → ((i : ℕ) → i < n → test i ≡ true) → every_below n test ≡ true
unfolding every_below
all_pass zero test h = refl
all_pass (suc n) test h = λ i. all_pass n test (λ j l. h j (omega arith)) i && h n (omega arith) i

-- one that fails decides
pub one_fails : (n : ℕ) (test : ℕ → Bool) (i : ℕ) → i < n → test i ≡ false → every_below n test ≡ false
unfolding every_below
one_fails zero test i l h = absurd (omega arith)
one_fails (suc n) test i l h = go (λ k. one_fails n test i k h) (below_or_last i n l)
  where
    and_none : (b : Bool) → (b && false) ≡ false
    and_none true = refl
    and_none false = refl

    go : (i < n → every_below n test ≡ false) → ((i < n) ⊎ (i ≡ n)) → (every_below n test && test n) ≡ false
    go below (inl k) = ap (λ (b : Bool). b && test n) (below k)
    go below (inr e) = ap (λ (b : Bool). every_below n test && b) (subst (λ (k : ℕ). test k ≡ false) e h) ∙ and_none (every_below n test)

module _ (test : ℕ → Bool) (nearer : ℕ → ℕ → Bool) where
  -- the place i passes, and of the first n nowhere that passes is nearer
  abbrev pub is_least : ℕ → ℕ → Bool
  is_least n i = test i && every_below n (λ j. not (test j && nearer j i))

  -- what is known of the place found once those below i are passed
  pub record Best (i b : ℕ) : Type 0 where
    pub passed : b < i
    pub passes : test b ≡ true
    pub least : (j : ℕ) → j < i → test j ≡ true → nearer j b ≡ false
    pub first : (j : ℕ) → j < b → test j ≡ true → nearer b j ≡ true

  abbrev pub Searched : ℕ → Option ℕ → Type 0
  Searched i None = (j : ℕ) → j < i → test j ≡ false
  Searched i (Some b) = Best i b

  module _ (one_way : (i j : ℕ) → nearer i j ≡ true → nearer j i ≡ false)
      (through : (i j k : ℕ) → test j ≡ true → nearer i j ≡ false → nearer j k ≡ false → nearer i k ≡ false) where
    -- not nearer than itself
    itself : (i : ℕ) → nearer i i ≡ false
    itself i = go (nearer i i) refl
      where
        go : (b : Bool) → nearer i i ≡ b → b ≡ false
        go true e = absurd (clash (sym e ∙ one_way i i e))
        go false e = refl

    -- ---- one place more

    pub skipped : (i : ℕ) (f : Option ℕ) → Searched i f → test i ≡ false → Searched (i + 1) f
    skipped i None s h = λ j l. at_last j l (below_or_last j i (omega arith))
      where
        at_last : (j : ℕ) → j < i + 1 → ((j < i) ⊎ (j ≡ i)) → test j ≡ false
        at_last j l (inl k) = s j k
        at_last j l (inr e) = subst (λ (k : ℕ). test k ≡ false) (sym e) h
    skipped i (Some b) s h = record {
      passed = let k = s.passed in omega arith;
      passes = s.passes;
      least = λ j l t. at_last j t (below_or_last j i (omega arith));
      first = s.first;
    }
      where
        at_last : (j : ℕ) → test j ≡ true → ((j < i) ⊎ (j ≡ i)) → nearer j b ≡ false
        at_last j t (inl k) = s.least j k t
        at_last j t (inr e) = absurd (clash (sym t ∙ subst (λ (k : ℕ). test k ≡ false) (sym e) h))

    pub begun : (i : ℕ) → Searched i None → test i ≡ true → Searched (i + 1) (Some i)
    begun i s h = record {
      passed = omega arith;
      passes = h;
      least = λ j l t. at_last j t (below_or_last j i (omega arith));
      first = λ j l t. absurd (clash (sym t ∙ s j l));
    }
      where
        at_last : (j : ℕ) → test j ≡ true → ((j < i) ⊎ (j ≡ i)) → nearer j i ≡ false
        at_last j t (inl k) = absurd (clash (sym t ∙ s j k))
        at_last j t (inr e) = subst (λ (k : ℕ). nearer k i ≡ false) (sym e) (itself i)

    pub kept : (i b : ℕ) → Searched i (Some b) → nearer i b ≡ false → Searched (i + 1) (Some b)
    kept i b s h = record {
      passed = let k = s.passed in omega arith;
      passes = s.passes;
      least = λ j l t. at_last j t (below_or_last j i (omega arith));
      first = s.first;
    }
      where
        at_last : (j : ℕ) → test j ≡ true → ((j < i) ⊎ (j ≡ i)) → nearer j b ≡ false
        at_last j t (inl k) = s.least j k t
        at_last j t (inr e) = subst (λ (k : ℕ). nearer k b ≡ false) (sym e) h

    pub moved : (i b : ℕ) → Searched i (Some b) → test i ≡ true → nearer i b ≡ true → Searched (i + 1) (Some i)
    moved i b s h n = record {
      passed = omega arith;
      passes = h;
      least = λ j l t. at_last j t (below_or_last j i (omega arith));
      first = λ j l t. further j l t (nearer i j) refl;
    }
      where
        at_last : (j : ℕ) → test j ≡ true → ((j < i) ⊎ (j ≡ i)) → nearer j i ≡ false
        at_last j t (inl k) = through j b i s.passes (s.least j k t) (one_way i b n)
        at_last j t (inr e) = subst (λ (k : ℕ). nearer k i ≡ false) (sym e) (itself i)

        further : (j : ℕ) → j < i → test j ≡ true → (b' : Bool) → nearer i j ≡ b' → b' ≡ true
        further j l t true e = refl
        further j l t false e = absurd (clash (sym n ∙ through i j b t e (s.least j l t)))

    -- ---- at the end

    pub finds : (n : ℕ) (f : Option ℕ) → Searched n f → first_of (places_below n (is_least n)) ≡ f
    finds n None s = ap first_of (none_pass n (is_least n) (λ i l. ap (λ (b : Bool). b && every_below n (λ j. not (test j && nearer j i))) (s i l)))
    finds n (Some b) s = first_passes n (is_least n) b s.passed (λ i. s.passes i && nearest i) before
      where
        is_not : (j : ℕ) → j < n → (t : Bool) → test j ≡ t → not (t && nearer j b) ≡ true
        is_not j l true e = ap not (s.least j l e)
        is_not j l false e = refl

        nearest : every_below n (λ j. not (test j && nearer j b)) ≡ true
        nearest = all_pass n _ (λ j l. is_not j l (test j) refl ∙ refl)

        before : (j : ℕ) → j < b → is_least n j ≡ false
        before j l = go (test j) refl
          where
            go : (t : Bool) → test j ≡ t → (t && every_below n (λ k. not (test k && nearer k j))) ≡ false
            go false e = refl
            go true e = one_fails n (λ k. not (test k && nearer k j)) b s.passed (λ i. not (s.passes i && s.first j l e i))

    -- ---- the search ends with one or nowhere, so that what is found is known

    record Ended (n : ℕ) : Type 0 where
      place : Option ℕ
      searched : Searched n place

    one_more : (n : ℕ) (f : Option ℕ) → Searched n f → (t : Bool) → test n ≡ t → Ended (n + 1)
    one_more n f s false e = record { place = f; searched = skipped n f s e }
    one_more n None s true e = record { place = Some n; searched = begun n s e }
    one_more n (Some b) s true e = go (nearer n b) refl
      where
        go : (t : Bool) → nearer n b ≡ t → Ended (n + 1)
        go true h = record { place = Some n; searched = moved n b s e h }
        go false h = record { place = Some b; searched = kept n b s h }

    ended : (n : ℕ) → Ended n
    ended zero = record { place = None; searched = λ j l. absurd (omega arith) }
    ended (suc n) = let r = ended n in subst Ended (add-one n) (one_more n r.place r.searched (test n) refl)

    pub searched : (n : ℕ) → Searched n (first_of (places_below n (is_least n)))
    searched n = let r = ended n in subst (Searched n) (sym (finds n r.place r.searched)) r.searched
