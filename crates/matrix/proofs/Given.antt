-- What it tells that a record was given, or that it was not: the test of its length, and what was read; and the same where there had to be room for a result. Assumes
-- nothing.
use Rattle.std.specs.Prelude.{Err, Ok, Result}
use Rattle.std.proofs.Common.{◌≡◌, ℕ, Bool, true, false, T, List, length, sym, refl, ap, subst, eqb→eq}
use lib.Ieee.{Float}
use Rattle.number.specs.Answer.{Reply, number_of, refuse, unless, has, leaving}
use Rattle.number.specs.declared.answer.Refusal.{Refusal}
use Rattle.number.specs.declared.answer.Refusal.TheVariants.{InputLength, OutputLength}

module _ {A : Type 0} (x : A) (r : Result A Refusal) where
  pub was_given : (b : Bool) (y : A) → r ≡ unless b (Err InputLength) (Ok x) → r ≡ Ok y → (b ≡ true) × (y ≡ x)
  was_given true y e h = (refl, cc)
  was_given false y e h = cc

  pub was_refused : (b : Bool) (k : Refusal) → r ≡ unless b (Err InputLength) (Ok x) → r ≡ Err k → (b ≡ false) × (k ≡ InputLength)
  was_refused true k e h = cc
  was_refused false k e h = (refl, cc)

  -- the test of the inputs' lengths, and that of the output's
  both_tests : (b l : Bool) (y : A) → r ≡ unless b (Err InputLength) (unless l (Err OutputLength) (Ok x)) → r ≡ Ok y → (b ≡ true) × (l ≡ true) × (y ≡ x)
  both_tests true true y e h = (refl, refl, cc)
  both_tests true false y e h = cc
  both_tests false l y e h = cc

  pub was_lent : (b : Bool) (n : ℕ) (out : List Float) (y : A) → r ≡ unless b (Err InputLength) (unless (has n out) (Err OutputLength) (Ok x)) → r ≡ Ok y
      → (b ≡ true) × (length out ≡ n) × (y ≡ x)
  was_lent b n out y e h =
      let p = both_tests b (has n out) y e h in
      (p.0, eqb→eq (length out) n (subst T (sym p.1) tt), p.2)

  either_refusal : (b l : Bool) (out : List Float) (done : Reply Float) (k : Refusal) → r ≡ unless b (Err InputLength) (unless l (Err OutputLength) (Ok x)) → r ≡ Err k
      → refuse (number_of k) out ≡ unless b (refuse 1 out) (unless l (refuse 2 out) done)
  either_refusal true true out done k e h = cc
  either_refusal true false out done k e h = let p : k ≡ OutputLength = cc in ap (λ (k : Refusal). refuse (number_of k) out) p
  either_refusal false l out done k e h = let p : k ≡ InputLength = cc in ap (λ (k : Refusal). refuse (number_of k) out) p

  pub not_lent : (b : Bool) (n : ℕ) (out : List Float) (done : Reply Float) (k : Refusal)
      → r ≡ unless b (Err InputLength) (unless (has n out) (Err OutputLength) (Ok x)) → r ≡ Err k → refuse (number_of k) out ≡ leaving b n done out
  unfolding leaving
  not_lent b n out done k e h = either_refusal b (has n out) out done k e h
