-- The lines that a farm file gives. Definitions only.
-- A file is any list of bytes, whole numbers below 256; nothing is assumed of it.
use Rattle.std.specs.Prelude.{ℕ, Bool, cond, List, [], ◌∷◌, ◌++◌}
use Rattle.number.specs.Answer.{Outcome, refused, outcome}
use Rattle.farm.specs.Text.{decimal, lines_from, refused_line}

-- " yes" or " no", and the line's end
abbrev pub yes_or_no : Bool → List ℕ
yes_or_no v = cond v (32 ∷ 121 ∷ 101 ∷ 115 ∷ 10 ∷ []) (32 ∷ 110 ∷ 111 ∷ 10 ∷ [])

-- "section number, space and its box verdict, `yes` or `no`"
unfoldable pub line : ℕ → Bool → List ℕ
unfolding decimal
line k v = decimal k ++ yes_or_no v

unfoldable pub lines_of : Outcome (List Bool) → List ℕ
unfolding refused_line lines_from line
lines_of (refused n) = refused_line n
lines_of (outcome vs) = lines_from line 1 vs
