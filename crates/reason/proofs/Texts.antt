-- The parts of a line, and how many bytes they have at most. Assumes nothing.
use mathlib.Core.Path.{◌≡◌, refl, sym, ap, ◌∙◌}
use mathlib.Core.Bool.{Bool, true, false, cond}
use mathlib.Core.List.{List, [], ◌∷◌, ◌++◌, append_assoc, append-nil}
use Prim.Native.Nat.{ℕ, zero, suc, ◌+◌, ◌*◌, ◌≤◌}
use native.Mathlib.Numerals.{add-one}
use native.Mathlib.Omega.{arith}
use lib.ListN.{length, length-append}
use Rattle.number.specs.Answer.{Outcome, refused, outcome}
use Rattle.number.specs.Places.{places_below}
use Rattle.farm.specs.Text.{decimal}
use Rattle.farm.proofs.Texts.{short_decimal}
use Rattle.reason.specs.Lines.{Reason, verdict_word, place_words, behind_words, exact_word, reason_line}
use Rattle.reason.specs.Steps.{places_room, reason_room}

-- ---- places

pub words_joined : (l m : List ℕ) → place_words (l ++ m) ≡ place_words l ++ place_words m
unfolding place_words
words_joined [] m = refl
words_joined (i ∷ l) m = ap (λ (x : List ℕ). 32 ∷ decimal i ++ x) (words_joined l m) ∙ sym (append_assoc (32 ∷ decimal i) (place_words l) (place_words m))

module _ (t : ℕ → Bool) where
  abbrev pub words : ℕ → List ℕ
  words n = place_words (places_below n t)

  one_word : (i : ℕ) (b : Bool) → place_words (cond b (i ∷ []) []) ≡ cond b (32 ∷ decimal i) []
  unfolding place_words
  one_word i true = append-nil (32 ∷ decimal i)
  one_word i false = refl

  next_place : (n : ℕ) → words n ++ cond (t n) (32 ∷ decimal n) [] ≡ words (suc n)
  unfolding places_below
  next_place n = sym (words_joined (places_below n t) (cond (t n) (n ∷ []) []) ∙ ap (λ (l : List ℕ). words n ++ l) (one_word n (t n)))

  pub place_more : (n : ℕ) → words n ++ cond (t n) (32 ∷ decimal n) [] ≡ words (n + 1)
  place_more n = next_place n ∙ ap words (sym (add-one n))

  pub short_place : (n : ℕ) (b : Bool) → length (cond b (32 ∷ decimal n) []) ≤ 3
  short_place n true = omega (arith, short_decimal n)
  short_place n false = omega arith

  pub short_words : (n : ℕ) → length (words n) ≤ 3 * n
  unfolding place_words places_below
  short_words zero = omega arith
  short_words (suc n) =
      omega (arith, ap length (sym (next_place n)), length-append (words n) (cond (t n) (32 ∷ decimal n) []), short_words n, short_place n (t n))

-- ---- the parts of a line

pub short_verdict : (v : Bool) → length (verdict_word v) ≤ 4
short_verdict true = omega arith
short_verdict false = omega arith

pub short_behind : (v e : Bool) (l : List ℕ) → length (place_words l) ≤ places_room → length (behind_words v e l) ≤ places_room
short_behind true e l h = omega arith
short_behind false true l h = omega arith
short_behind false false l h = h

pub short_exact : (v : Bool) (o : Outcome Bool) → length (exact_word v o) ≤ 10
short_exact v (refused k) = omega arith
short_exact true (outcome true) = omega arith
short_exact true (outcome false) = omega arith
short_exact false (outcome true) = omega arith
short_exact false (outcome false) = omega arith

pub short_line : (k : ℕ) (r : Reason) → length (place_words r.behind) ≤ places_room → length (reason_line k r) ≤ reason_room
unfolding reason_line
short_line k r h =
    let d = decimal k in
    let v = verdict_word r.verdict in
    let b = behind_words r.verdict r.empty r.behind in
    let e = exact_word r.verdict r.exact in
    omega (
      arith,
      length-append (d ++ v ++ b ++ e) (10 ∷ []),
      length-append (d ++ v ++ b) e,
      length-append (d ++ v) b,
      length-append d v,
      short_decimal k,
      short_verdict r.verdict,
      short_behind r.verdict r.empty r.behind h,
      short_exact r.verdict r.exact,
    )
