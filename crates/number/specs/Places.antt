-- Places, counted from 0: those below a limit that pass a test. Definitions only.
use Rattle.std.specs.Prelude.{ℕ, zero, suc, ◌+◌, Bool, cond, List, [], ◌∷◌, ◌++◌, None, Option, Some}

-- the places below n that pass a test, rising
unfoldable pub places_below : ℕ → (ℕ → Bool) → List ℕ
places_below zero test = []
places_below (suc n) test = places_below n test ++ cond (test n) (n ∷ []) []

-- how many there are
unfoldable pub count_below : ℕ → (ℕ → Bool) → ℕ
count_below zero test = 0
count_below (suc n) test = count_below n test + cond (test n) 1 0

-- the first of a list of places, if there is one
abbrev pub first_of : List ℕ → Option ℕ
first_of [] = None
first_of (i ∷ is) = Some i
