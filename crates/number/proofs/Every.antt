-- Tests of many, one at a time: the first of a list decides, or those behind it do; what holds of all numbers below a limit holds of any one. Assumes nothing.
use Rattle.std.proofs.Common.{◌≡◌, ℕ, zero, suc, ◌<◌, Bool, true, false, ◌&&◌, eqb, List, ◌∷◌, sym, refl, ap, subst, arith, eqb-true}
use borrow.Author.Tests.{eqb-false}
use Rattle.number.specs.Every.{every, every_below}
use Rattle.number.proofs.Tests.{both_hold}

-- ---- the elements of a list: the first decides where it fails, and those behind it where it holds

module _ {A : Type 0} (test : A → Bool) (x : A) (xs : List A) where
  pub first_fails : test x ≡ false → false ≡ every test (x ∷ xs)
  unfolding every
  first_fails e = sym (ap (λ (t : Bool). t && every test xs) e)

  pub first_holds : test x ≡ true → every test xs ≡ every test (x ∷ xs)
  unfolding every
  first_holds e = sym (ap (λ (t : Bool). t && every test xs) e)

-- ---- the numbers below a limit

-- a test that passes at n, and at each number below, passes at i
up_to : (n i : ℕ) (t : ℕ → Bool) → t n ≡ true → ((k : ℕ) → k < n → t k ≡ true) → i < suc n → (b : Bool) → eqb i n ≡ b → t i ≡ true
up_to n i t last rest l true e = subst (λ (k : ℕ). t k ≡ true) (sym (eqb-true i n e)) last
up_to n i t last rest l false e = let k : i < n = omega (arith, eqb-false i n e) in rest i k

-- where each of the numbers below n passes a test, any one of them does
pub every_at : (n : ℕ) (t : ℕ → Bool) → every_below n t ≡ true → (i : ℕ) → i < n → t i ≡ true
unfolding every_below
every_at zero t h i l = let z : ⊥ = omega arith in absurd z
every_at (suc n) t h i l = up_to n i t (both_hold (every_below n t) (t n) h).1 (every_at n t (both_hold (every_below n t) (t n) h).0) l (eqb i n) refl
