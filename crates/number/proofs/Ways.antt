-- The ways out of a call, from its tests: the first that fails gives its refusal, and one that holds passes on. Of an operation over lent slices: the test of its
-- inputs' lengths fails, the output has another length, or there is a result. Assumes nothing.
use Rattle.std.proofs.Common.{◌≡◌, ℕ, Bool, true, false, cond, ◌&&◌, List, length, sym, ap, ◌∙◌, ap₂, eq-eqb, ne_eqb, Ok}
use lib.Ieee.{Float}
use Rattle.number.specs.Answer.{Reply, reply, refuse, write, Outcome, refused, outcome, unless, leaving, replied, answering}
use Rattle.number.specs.Slice.{stored}

-- ---- a test

-- two tests are what each of them is
pub both : {a a' b b' : Bool} → a ≡ a' → b ≡ b' → (a && b) ≡ (a' && b')
both p q = ap₂ ◌&&◌ p q

module _ {A : Type 0} (b : Bool) (refusal rest : A) where
  pub stops : b ≡ false → refusal ≡ unless b refusal rest
  stops e = sym (ap (λ (z : Bool). unless z refusal rest) e)

  pub passes : (x : A) → b ≡ true → x ≡ rest → x ≡ unless b refusal rest
  passes x e f = f ∙ sym (ap (λ (z : Bool). unless z refusal rest) e)

-- ---- an operation that writes

module _ {A : Type 0} (inputs : Bool) (n : ℕ) (done : Reply A) (out : List A) where
  pub no_input : inputs ≡ false → refuse 1 out ≡ leaving inputs n done out
  unfolding leaving
  no_input h = rw h

  pub no_room : inputs ≡ true → (length out ≡ n → ⊥) → refuse 2 out ≡ leaving inputs n done out
  unfolding leaving
  no_room h l = rw (h, ne_eqb _ _ l)

  pub left : inputs ≡ true → length out ≡ n → done ≡ leaving inputs n done out
  unfolding leaving
  left h l = rw (h, eq-eqb _ _ l)

-- the numbers v are stored into a slice of their length
pub written : (inputs : Bool) (n : ℕ) (done : Reply Float) (out v x : List Float) → inputs ≡ true → length out ≡ n → length v ≡ n → x ≡ stored v out → write v ≡ done
    → reply (Ok tt) x ≡ leaving inputs n done out
written inputs n done out v x h l k e p = ap write (e ∙ ap (λ (t : Bool). cond t v out) (eq-eqb _ _ (k ∙ sym l))) ∙ p ∙ left inputs n done out h l

-- what an answer comes to is what an equal one does
pub same_reply : {A : Type 0} (f : A → Outcome (List Float)) (out : List Float) {x y : A} → x ≡ y → replied (f x) out ≡ replied (f y) out
same_reply {A} f out p = ap (λ (x : A). replied (f x) out) p

-- ---- one that answers with a lone number, a yes or a no

module _ (A : Type 0) (inputs : Bool) (x : A) where
  pub no_answer : inputs ≡ false → refused 1 ≡ answering inputs x
  unfolding answering
  no_answer h = rw h

  pub answered : (y : A) → inputs ≡ true → y ≡ x → outcome y ≡ answering inputs x
  unfolding answering
  answered y h p = rw (h, p)
