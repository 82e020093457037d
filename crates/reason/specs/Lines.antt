-- The lines that say why a block has its class, as bytes in ASCII. Definitions only.
use Rattle.std.specs.Prelude.{ℕ, Bool, cond, List, [], ◌∷◌, ◌++◌}
use Rattle.number.specs.Answer.{Outcome, refused, outcome}
use Rattle.farm.specs.Text.{decimal}

-- what is told of a box: its verdict; whether its range is empty; the places of the planes that it is wholly behind; and the exact verdict, or that there is none
pub record Reason : Type 0 where
  pub verdict : Bool
  pub empty : Bool
  pub behind : List ℕ
  pub exact : Outcome Bool

-- " yes" or " no"
abbrev pub verdict_word : Bool → List ℕ
verdict_word v = cond v (32 ∷ 121 ∷ 101 ∷ 115 ∷ []) (32 ∷ 110 ∷ 111 ∷ [])

-- " empty"
abbrev pub empty_word : List ℕ
empty_word = 32 ∷ 101 ∷ 109 ∷ 112 ∷ 116 ∷ 121 ∷ []

-- places, a space before each
unfoldable pub place_words : List ℕ → List ℕ
unfolding decimal
place_words [] = []
place_words (i ∷ is) = 32 ∷ decimal i ++ place_words is

-- what stands behind a `no`: the places, or one word for all of them where the range is empty
abbrev pub behind_words : Bool → Bool → List ℕ → List ℕ
behind_words v empty behind = cond v [] (cond empty empty_word (place_words behind))

-- " exact-yes" and " exact-no"
abbrev pub exact_yes : List ℕ
exact_yes = 32 ∷ 101 ∷ 120 ∷ 97 ∷ 99 ∷ 116 ∷ 45 ∷ 121 ∷ 101 ∷ 115 ∷ []

abbrev pub exact_no : List ℕ
exact_no = 32 ∷ 101 ∷ 120 ∷ 97 ∷ 99 ∷ 116 ∷ 45 ∷ 110 ∷ 111 ∷ []

-- the exact verdict's word, where there is such a verdict and it is not the line's own
abbrev pub exact_word : Bool → Outcome Bool → List ℕ
exact_word v (refused k) = []
exact_word v (outcome e) = cond v (cond e [] exact_no) (cond e exact_yes [])

-- the line of section k
unfoldable pub reason_line : ℕ → Reason → List ℕ
unfolding decimal place_words
reason_line k r = decimal k ++ verdict_word r.verdict ++ behind_words r.verdict r.empty r.behind ++ exact_word r.verdict r.exact ++ (10 ∷ [])
