-- What is claimed of the explained lines (`specs/Meaning.antt`). The idea: one exact answer alone is allowed for each box; and behind the second word of a line there is
-- nothing, or a space and more bytes that do not end it. Assumes nothing.
use mathlib.Core.Path.{◌≡◌, refl, sym, ap, subst, ◌∙◌}
use mathlib.Core.Bool.{Bool, true, false, cond, ◌&&◌, and_assoc}
use mathlib.Core.List.{List, [], ◌∷◌, ◌++◌, map, map-map, append_assoc}
use Prim.Native.Nat.{ℕ, suc, ◌+◌, ◌-◌, ◌/◌, ◌%◌}
use native.Mathlib.Omega.{arith}
use borrow.Author.Tests.{le-leb, leb-true, ne_eqb}
use lib.Dec.{eqb, ltb, leb}
use lib.Ieee.{Float}
use Rattle.number.specs.Every.{every}
use Rattle.number.specs.Answer.{Outcome, refused, outcome}
use Rattle.number.proofs.Tests.{both_hold}
use Rattle.placed.proofs.Calls.{one_answer_allowed}
use Rattle.verdict.specs.declared.plane.Plane.{Plane}
use Rattle.verdict.specs.BBox.{box_of}
use Rattle.verdict.specs.Frustum.{box_in_view}
use Rattle.farm.specs.Directory.{box_sections, numbers_of}
use Rattle.farm.specs.FarmFile.{farm_file}
use Rattle.farm.specs.Text.{decimal, lines_from, refused_word, refused_line}
use Rattle.farm.specs.Lines.{yes_or_no, line, lines_of}
use Rattle.farm.proofs.Answers.{verdicts_are}
use Rattle.reason.specs.Lines.{Reason, verdict_word, place_words, behind_words, exact_word, reason_line}
use Rattle.reason.specs.Explained.{file_planes, reason_of, Reasons, none, more, ToldBy}
use Rattle.reason.specs.Meaning.{words_left, first_words, OneText, SameRefusal, FirstTwoWords}

-- ---- one text

same_reasons : {v : List Float} {ps : List Plane} {xs : List (List Float)} {rs qs : List Reason} → Reasons v ps xs rs → Reasons v ps xs qs → rs ≡ qs
same_reasons none none = refl
same_reasons {ps = ps} (more {x} a c r) (more b d q) = λ k. reason_of ps x (one_answer_allowed _ _ a b c d k) ∷ same_reasons r q k

pub one_text : OneText
one_text b l l' p q = go (farm_file b) p q
  where
    go : (o : Outcome (List Bool)) → ToldBy b o l → ToldBy b o l' → l ≡ l'
    go (refused k) x y = x ∙ sym y
    go (outcome vs) x y = x.lines ∙ ap (lines_from reason_line 1) (same_reasons x.allowed y.allowed) ∙ sym y.lines

pub same_refusal : SameRefusal
unfolding lines_of
same_refusal b l k e p = subst (λ (o : Outcome (List Bool)). ToldBy b o l) e p ∙ sym (ap lines_of e)

-- ---- bytes of words

-- a byte that ends no line, and one that ends no word either
abbrev plain : ℕ → Bool
plain c = leb 32 c

abbrev letter : ℕ → Bool
letter c = leb 33 c

every_joined : (t : ℕ → Bool) (a b : List ℕ) → every t (a ++ b) ≡ (every t a && every t b)
unfolding every
every_joined t [] b = refl
every_joined t (c ∷ a) b = ap (λ (x : Bool). t c && x) (every_joined t a b) ∙ sym (and_assoc (t c) (every t a) (every t b))

both : (a b : Bool) → a ≡ true → b ≡ true → (a && b) ≡ true
both a b p q = λ k. p k && q k

all_joined : (t : ℕ → Bool) (a b : List ℕ) → every t a ≡ true → every t b ≡ true → every t (a ++ b) ≡ true
all_joined t a b p q = every_joined t a b ∙ both (every t a) (every t b) p q

letters_plain : (s : List ℕ) → every letter s ≡ true → every plain s ≡ true
unfolding every
letters_plain [] h = refl
letters_plain (c ∷ s) h =
    let p = both_hold (letter c) (every letter s) h in
    let l = leb-true 33 c p.0 in
    both (plain c) (every plain s) (le-leb 32 c (omega (arith, l))) (letters_plain s p.1)

digits : (n : ℕ) → every letter (decimal n) ≡ true
unfolding every decimal
digits n = go (ltb n 10) (ltb n 100)
  where
    digit : (d : ℕ) → letter (48 + d) ≡ true
    digit d = le-leb 33 (48 + d) (omega arith)

    go : (b c : Bool) → every letter (cond b ((48 + n) ∷ []) (cond c ((48 + n / 10) ∷ (48 + n % 10) ∷ []) [])) ≡ true
    go true c = both (letter (48 + n)) true (digit n) refl
    go false true = both (letter (48 + n / 10)) (letter (48 + n % 10) && true) (digit (n / 10)) (both (letter (48 + n % 10)) true (digit (n % 10)) refl)
    go false false = refl

-- ---- what is kept of a text

-- a word is kept while words are left
word_kept : (n : ℕ) → eqb n 0 ≡ false → (s t : List ℕ) → every letter s ≡ true → first_words n (s ++ t) ≡ s ++ first_words n t
unfolding every first_words
word_kept n e [] t h = refl
word_kept n e (c ∷ s) t h =
    let p = both_hold (letter c) (every letter s) h in
    let l = leb-true 33 c p.0 in
    step (ne_eqb c 10 (λ z. omega (arith, l, z))) (ne_eqb c 32 (λ z. omega (arith, l, z)))
    ∙ ap (λ (x : List ℕ). c ∷ x) (word_kept n e s t p.1)
  where
    step : eqb c 10 ≡ false → eqb c 32 ≡ false → first_words n (c ∷ (s ++ t)) ≡ c ∷ first_words n (s ++ t)
    step p q =
        (λ k. cond (p k) (c ∷ first_words 2 (s ++ t)) (cond (eqb (cond (q k) (n - 1) n) 0) (first_words 0 (s ++ t)) (c ∷ first_words (cond (q k) (n - 1) n) (s ++ t))))
        ∙ (λ k. cond (e k) (first_words 0 (s ++ t)) (c ∷ first_words n (s ++ t)))

-- once none is left, nothing is kept up to the end of the line
rest_cut : (s t : List ℕ) → every plain s ≡ true → first_words 0 (s ++ t) ≡ first_words 0 t
unfolding every first_words
rest_cut [] t h = refl
rest_cut (c ∷ s) t h =
    let p = both_hold (plain c) (every plain s) h in
    let l = leb-true 32 c p.0 in
    step (ne_eqb c 10 (λ z. omega (arith, l, z))) (none_left (eqb c 32)) ∙ rest_cut s t p.1
  where
    none_left : (y : Bool) → cond y (0 - 1) 0 ≡ 0
    none_left true = refl
    none_left false = refl

    step : eqb c 10 ≡ false → words_left 0 c ≡ 0 → first_words 0 (c ∷ (s ++ t)) ≡ first_words 0 (s ++ t)
    step p q = λ k. cond (p k) (c ∷ first_words 2 (s ++ t)) (cond (eqb (q k) 0) (first_words 0 (s ++ t)) (c ∷ first_words (q k) (s ++ t)))

-- what stands behind the second word: nothing, or a space and more
data Tail : List ℕ → Type 0 where
  nothing : Tail []
  spaced : {s : List ℕ} → every plain s ≡ true → Tail (32 ∷ s)

tail_plain : {s : List ℕ} → Tail s → every plain s ≡ true
unfolding every
tail_plain nothing = refl
tail_plain (spaced h) = h

tail_joined : {a b : List ℕ} → Tail a → Tail b → Tail (a ++ b)
tail_joined nothing q = q
tail_joined {b = b} (spaced {s} h) q = spaced (all_joined plain s b h (tail_plain q))

tail_cut : {s : List ℕ} (t : List ℕ) → Tail s → first_words 1 (s ++ 10 ∷ t) ≡ 10 ∷ first_words 2 t
unfolding first_words
tail_cut t nothing = refl
tail_cut t (spaced {s} h) = rest_cut s (10 ∷ t) h

place_tail : (l : List ℕ) → Tail (place_words l)
unfolding place_words
place_tail [] = nothing
place_tail (i ∷ l) = spaced (all_joined plain (decimal i) (place_words l) (letters_plain (decimal i) (digits i)) (tail_plain (place_tail l)))

behind_tail : (v e : Bool) (l : List ℕ) → Tail (behind_words v e l)
unfolding every
behind_tail true e l = nothing
behind_tail false true l = spaced refl
behind_tail false false l = place_tail l

exact_tail : (v : Bool) (o : Outcome Bool) → Tail (exact_word v o)
unfolding every
exact_tail v (refused k) = nothing
exact_tail true (outcome true) = nothing
exact_tail true (outcome false) = spaced refl
exact_tail false (outcome true) = spaced refl
exact_tail false (outcome false) = nothing

-- ---- the lines

regroup : (d v b x t : List ℕ) → (d ++ v ++ b ++ x ++ (10 ∷ [])) ++ t ≡ d ++ (v ++ ((b ++ x) ++ (10 ∷ t)))
regroup d v b x t = simp append_assoc

verdict_kept : (v : Bool) (t s : List ℕ) → first_words 1 t ≡ 10 ∷ s → first_words 2 (verdict_word v ++ t) ≡ yes_or_no v ++ s
unfolding first_words
verdict_kept true t s e = ap (λ (l : List ℕ). 32 ∷ 121 ∷ 101 ∷ 115 ∷ l) e
verdict_kept false t s e = ap (λ (l : List ℕ). 32 ∷ 110 ∷ 111 ∷ l) e

line_kept : (k : ℕ) (r : Reason) (t : List ℕ) → first_words 2 (reason_line k r ++ t) ≡ line k r.verdict ++ first_words 2 t
unfolding reason_line line
line_kept k r t =
    let d = decimal k in
    let v = r.verdict in
    let b = behind_words v r.empty r.behind in
    let x = exact_word v r.exact in
    ap (first_words 2) (regroup d (verdict_word v) b x t) ∙ word_kept 2 refl d (verdict_word v ++ ((b ++ x) ++ (10 ∷ t))) (digits k)
    ∙ ap (λ (l : List ℕ). d ++ l) (verdict_kept v ((b ++ x) ++ (10 ∷ t)) (first_words 2 t) (tail_cut t (tail_joined (behind_tail v r.empty r.behind) (exact_tail v r.exact))))
    ∙ sym (append_assoc d (yes_or_no v) (first_words 2 t))

lines_kept : {v : List Float} (ps : List Plane) (k : ℕ) {xs : List (List Float)} {rs : List Reason} → Reasons v ps xs rs
    → first_words 2 (lines_from reason_line k rs) ≡ lines_from line k (map (λ x. box_in_view ps (box_of x)) xs)
unfolding lines_from first_words
lines_kept ps k none = refl
lines_kept ps k (more {x} {xs} {rs} answer c q) =
    line_kept k (reason_of ps x answer) (lines_from reason_line (suc k) rs) ∙ ap (λ (l : List ℕ). line k (box_in_view ps (box_of x)) ++ l) (lines_kept ps (suc k) q)

refused_kept : (k : ℕ) → first_words 2 (refused_line k) ≡ refused_line k
unfolding refused_line first_words
refused_kept k =
    ap (first_words 2) (append_assoc refused_word (decimal k) (10 ∷ []))
    ∙ ap (λ (l : List ℕ). refused_word ++ l) (word_kept 1 refl (decimal k) (10 ∷ []) (digits k)) ∙ sym (append_assoc refused_word (decimal k) (10 ∷ []))

pub first_two_words : FirstTwoWords
unfolding lines_of
first_two_words b l p = go (farm_file b) refl p
  where
    go : (o : Outcome (List Bool)) → farm_file b ≡ o → ToldBy b o l → first_words 2 l ≡ lines_of o
    go (refused k) e x = ap (first_words 2) x ∙ refused_kept k
    go (outcome vs) e x =
        ap (first_words 2) x.lines ∙ lines_kept (file_planes b) 1 x.allowed
        ∙ ap (lines_from line 1) (map-map (λ s. box_in_view (file_planes b) (box_of s)) (numbers_of b) (box_sections b) ∙ sym (verdicts_are b vs e))
