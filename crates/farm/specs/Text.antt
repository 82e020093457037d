-- Lines as bytes in ASCII, what is put into a text of them, and what is pushed to one. Definitions only.
use Rattle.std.specs.Prelude.{ℕ, suc, ◌+◌, ◌-◌, ◌*◌, ◌/◌, ◌%◌, ◌≤◌, ◌<◌, Bool, cond, ◌≡◌, List, [], ◌∷◌, ◌++◌, ltb, leb, length, take, drop, replicate}
use Rattle.number.specs.Limits.{most_planes}
use Rattle.farm.specs.FarmFile.{slot_count}

-- a number below 100: its digits from '0' on. No larger one occurs; it has none.
unfoldable pub decimal : ℕ → List ℕ
decimal n = cond (ltb n 10) ((48 + n) ∷ []) (cond (ltb n 100) ((48 + n / 10) ∷ (48 + n % 10) ∷ []) [])

-- "a line for each box, in section order", from section k on
unfoldable pub lines_from : {A : Type 0} → (ℕ → A → List ℕ) → ℕ → List A → List ℕ
lines_from line k [] = []
lines_from line k (x ∷ xs) = line k x ++ lines_from line (suc k) xs

abbrev pub refused_word : List ℕ
refused_word = 114 ∷ 101 ∷ 102 ∷ 117 ∷ 115 ∷ 101 ∷ 100 ∷ 32 ∷ []

-- "only the line `refused`, a space and its number"
unfoldable pub refused_line : ℕ → List ℕ
unfolding decimal
refused_line n = refused_word ++ decimal n ++ (10 ∷ [])

-- what a text holds after bytes were put there from a place on
abbrev pub inserted : List ℕ → ℕ → List ℕ → List ℕ
inserted text at s = take at text ++ s ++ drop (at + length s) text

-- it has room for them
abbrev pub has_room : List ℕ → ℕ → List ℕ → Bool
has_room text at s = leb (at + length s) (length text)

-- What putting bytes there answers, the place behind them, and leaves. Without room for them it leaves the text alone, and the place.
abbrev pub Puts : List ℕ → ℕ → List ℕ → ℕ → List ℕ → Type 0
Puts text at s place left = (place ≡ cond (has_room text at s) (at + length s) at) × (left ≡ cond (has_room text at s) (inserted text at s) text)

-- the bytes that a text has room for: for each box those of the longest line of any program
abbrev pub text_room : ℕ
text_room = slot_count * (2 + 4 + 3 * most_planes + 10 + 1)

-- a text's lines, and zeros in the room behind them
abbrev pub padded : List ℕ → List ℕ
padded s = s ++ replicate (text_room - length s) 0

-- Bytes stand behind those that a text had, if it has room for them.
pub record Added (text s left : List ℕ) : Type 0 where
  pub room : length text + length s ≤ text_room → left ≡ text ++ s

-- They do, and a text without room for them stays as it was.
pub record Pushed (text s left : List ℕ) : Type 0 where
  pub added : Added text s left
  pub full : text_room < length text + length s → left ≡ text
