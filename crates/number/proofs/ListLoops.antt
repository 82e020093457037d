-- Loops over a list: one that tests each element and leaves at the first that fails, and one that fills a slot for each. Assumes nothing.
use Rattle.std.proofs.Common.{◌≡◌, ℕ, ◌+◌, ◌<◌, ◌≤◌, Bool, true, false, not, ◌&&◌, List, [], ◌∷◌, ◌++◌, map, length, take, drop, set, sym, ap, ◌∙◌, append-nil, add-one, take_all, take-suc-set}
use borrow.Author.Tests.{not-true, not-false}
use lib.Seq.{append_snoc}
use Rattle.number.specs.Every.{every}
use Rattle.number.proofs.Tests.{both_hold}

-- ---- each is tested: those left decide

-- of those left the first is x, and is tested first
module _ {A : Type 0} (test : A → Bool) (left rest : List A) (x : A) (next : left ≡ x ∷ rest) where
  module _ (z : Bool) (q : z ≡ test x) where
    tested : every test left ≡ (z && every test rest)
    unfolding every
    tested = ap (every test) next ∙ ap (λ (t : Bool). t && every test rest) (sym q)

    pub fails : not z ≡ true → false ≡ every test left
    fails e = sym (tested ∙ ap (λ (t : Bool). t && every test rest) (not-true z e))

    pub holds : not z ≡ false → every test rest ≡ every test left
    holds e = sym (tested ∙ ap (λ (t : Bool). t && every test rest) (not-false z e))

  -- where all of those left pass, x does, and so do the others
  pub each_holds : every test left ≡ true → (test x ≡ true) × (every test rest ≡ true)
  unfolding every
  each_holds h = both_hold (test x) (every test rest) (sym (ap (every test) next) ∙ h)

pub all_hold : {A : Type 0} (test : A → Bool) (left : List A) → left ≡ [] → true ≡ every test left
unfolding every
all_hold test left e = sym (ap (every test) e)

-- ---- each fills its slot: those filled and those left make all

module _ {A B : Type 0} (g : A → B) (l : List A) where
  -- the slots in front, and behind them those of the elements from i on
  abbrev pub filled : List B → ℕ → List B
  filled out i = take i out ++ map g (drop i l)

  pub one_filled : (out : List B) (i : ℕ) (x : A) (y : B) → i < length out → drop i l ≡ x ∷ drop (i + 1) l → y ≡ g x → filled (set out i y) (i + 1) ≡ filled out i
  one_filled out i x y h next e =
      ap (λ (a : List B). a ++ map g (drop (i + 1) l)) (ap (λ (k : ℕ). take k (set out i y)) (add-one i) ∙ take-suc-set out i y h)
      ∙ append_snoc (take i out) y (map g (drop (i + 1) l))
      ∙ ap (λ (b : B). take i out ++ b ∷ map g (drop (i + 1) l)) e
      ∙ sym (ap (λ (rest : List A). take i out ++ map g rest) next)

  pub all_filled : (out : List B) (i : ℕ) → length out ≤ i → drop i l ≡ [] → out ≡ filled out i
  all_filled out i h none = sym (ap (λ (rest : List A). take i out ++ map g rest) none ∙ append-nil (take i out) ∙ take_all i out h)
