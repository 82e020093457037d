-- Floats loaded as whole numbers, one by one: what was found of those passed, and those left, decide; and those stored so far are the numbers that the first are. Assumes
-- nothing.
use mathlib.Core.Path.{◌≡◌, refl, sym, ap, subst, ◌∙◌}
use mathlib.Core.Bool.{Bool, true, false, ◌&&◌}
use mathlib.Core.List.{List, [], ◌∷◌, ◌++◌, append-nil}
use Prim.Native.Nat.{ℕ, zero, suc, ◌+◌, ◌≤◌, ◌<◌}
use native.Mathlib.Numerals.{add-one}
use native.Mathlib.Omega.{arith}
use lib.ListN.{length, length-map, get_or-map, set, take, drop, get_or}
use lib.Seq.{length-take-le, get_or-take, drop-cons, drop-length, take_all, paste, paste-suc}
use lib.IntN.{ℤ}
use lib.Ieee.{Float, nan}
use Rattle.number.specs.Every.{every}
use Rattle.number.proofs.Tests.{both_hold, and_true}
use Rattle.placed.specs.Numbers.{truncated, is_whole_number, are_whole_numbers, whole_numbers}

-- one of those that all pass
pub each : {A : Type 0} (test : A → Bool) (s : List A) (i : ℕ) (d : A) → every test s ≡ true → i < length s → test (get_or s i d) ≡ true
unfolding every
each test [] i d e h = absurd (omega (arith, h))
each test (x ∷ xs) zero d e h = (both_hold (test x) (every test xs) e).0
each test (x ∷ xs) (suc i) d e h = each test xs i d (both_hold (test x) (every test xs) e).1 (omega (arith, h))

regrouped : (a b c : Bool) → ((a && b) && c) ≡ (a && (b && c))
regrouped true b c = refl
regrouped false b c = refl

-- the numbers in front, of which there are n
module _ (from : List Float) (n : ℕ) (h : n ≤ length from) where
  abbrev front : List Float
  front = take n from

  front_length : length front ≡ n
  front_length = length-take-le n from h

  pub one_of : (i : ℕ) → i < n → are_whole_numbers front ≡ true → is_whole_number (get_or from i nan) ≡ true
  one_of i l e = subst (λ (x : Float). is_whole_number x ≡ true) (get_or-take n from i nan l) (each is_whole_number front i nan e (omega (arith, front_length)))

-- all are tested
module _ (s : List Float) where
  -- one more
  pub more : (i : ℕ) → i < length s → (all r : Bool) → r ≡ is_whole_number (get_or s i nan) → ((all && r) && are_whole_numbers (drop (i + 1) s)) ≡ (all && are_whole_numbers (drop i s))
  unfolding every
  more i l all r e =
      regrouped all r (are_whole_numbers (drop (i + 1) s))
      ∙ (λ t. all && (e t && are_whole_numbers (drop (i + 1) s)))
      ∙ sym (ap (λ (s : List Float). all && are_whole_numbers s) (drop-cons s i nan l ∙ (λ t. get_or s i nan ∷ drop (sym (add-one i) t) s)))

  -- none is left
  pub done : (i : ℕ) (all : Bool) → i ≡ length s → (all && are_whole_numbers (drop i s)) ≡ are_whole_numbers s → all ≡ are_whole_numbers s
  unfolding every
  done i all l p = sym (and_true all) ∙ sym (ap (λ (s : List Float). all && are_whole_numbers s) (ap (λ (k : ℕ). drop k s) l ∙ drop-length s)) ∙ p

-- those that there is room for, stored
module _ (from : List Float) (room : List ℤ) (h : length room ≤ length from) where
  abbrev wholes : List ℤ
  wholes = whole_numbers (take (length room) from)

  wholes_length : length wholes ≡ length room
  wholes_length = length-map (take (length room) from) truncated ∙ front_length from (length room) h

  pub stored : (i : ℕ) → i < length room → (out : List ℤ) (z : ℤ) → out ≡ paste room 0 wholes i → z ≡ truncated (get_or from i nan)
      → set out i z ≡ paste room 0 wholes (i + 1)
  stored i l out z e f =
      let at : 0 + i ≡ i = omega arith in
      let value : z ≡ get_or wholes i (truncated nan) =
      f ∙ ap truncated (sym (get_or-take (length room) from i nan l)) ∙ sym (get_or-map truncated (take (length room) from) i nan) in
      (λ t. set (e t) (sym at t) (value t)) ∙ paste-suc room 0 wholes i (truncated nan) (omega arith) (omega (arith, wholes_length))
      ∙ ap (paste room 0 wholes) (sym (add-one i))

  pub all_stored : (i : ℕ) → i ≡ length room → (out : List ℤ) → out ≡ paste room 0 wholes i → out ≡ wholes
  all_stored i l out e =
      e ∙ ap (paste room 0 wholes) l
      ∙ (λ t. take_all (length room) wholes (omega (arith, wholes_length)) t ++ none t)
      ∙ append-nil wholes
    where
      none : drop (0 + length room) room ≡ []
      none = let z : 0 + length room ≡ length room = omega arith in ap (λ (k : ℕ). drop k room) z ∙ drop-length room
