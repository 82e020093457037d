-- What is claimed of the explained lines of a farm file: which text they are, and what `farm_file` prints of the same file. Definitions and statements only; proofs/Meaning
-- proves them.
use Rattle.std.specs.Prelude.{ℕ, ◌-◌, ◌≡◌, cond, List, [], ◌∷◌, eqb}
use Rattle.number.specs.Answer.{refused}
use Rattle.farm.specs.FarmFile.{farm_file}
use Rattle.farm.specs.Lines.{lines_of}
use Rattle.reason.specs.Explained.{Explained}

-- No two texts explain a file.
abbrev pub OneText : Type 0
OneText = (b l l' : List ℕ) → Explained b l → Explained b l' → l ≡ l'

-- A refused file gives the line that `farm_file` prints.
abbrev pub SameRefusal : Type 0
SameRefusal = (b l : List ℕ) (k : ℕ) → farm_file b ≡ refused k → Explained b l → l ≡ lines_of (farm_file b)

-- how many words of a line are left, with the byte c: a space ends a word
abbrev pub words_left : ℕ → ℕ → ℕ
words_left n c = cond (eqb c 32) (n - 1) n

-- A text without what stands behind the first words of each line, of which n are left in the first and two in each other line: what `cut -d ' ' -f 1,2` leaves. A line ends
-- with the byte 10.
unfoldable pub first_words : ℕ → List ℕ → List ℕ
first_words n [] = []
first_words n (c ∷ cs) = cond (eqb c 10) (c ∷ first_words 2 cs) (cond (eqb (words_left n c) 0) (first_words 0 cs) (c ∷ first_words (words_left n c) cs))

-- The first two words of each line are the line that `farm_file` prints, of every file.
abbrev pub FirstTwoWords : Type 0
FirstTwoWords = (b l : List ℕ) → Explained b l → first_words 2 l ≡ lines_of (farm_file b)
