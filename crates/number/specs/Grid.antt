-- The survey grid: a point in metres becomes whole centimetres. Definitions and statements only.
use Rattle.std.specs.Prelude.{◌≡◌, ℕ, ◌+◌, ◌-◌, ◌*◌, ◌/◌, ◌%◌, ◌<◌, ◌≤◌, Bool, true, false, cond, ◌⊎◌, List, [], ◌∷◌, map, ℤ, pos, neg_ℤ, from_bits, nat_le, nat_lt, Float, None, Option, Some}
use Rattle.std.specs.Float.{nan, inf, fin, binary64}
use Rattle.std.specs.Float.Ieee.{up, down, of_int}
use Rattle.number.specs.Limits.{point_length, grid_limit}
use Rattle.number.specs.Arithmetic.{◌⊗◌}
use Rattle.number.specs.Answer.{Reply, Outcome, refused, outcome, has, attempting}

-- "each coordinate is multiplied by 100 in one rounded operation"
abbrev pub centimetres : Float → Float
centimetres x = x ⊗ from_bits binary64 0x4059_0000_0000_0000

-- "then rounded to the nearest whole number", and halves "to the even whole number". Of a size a / b, b above 0, the whole part q stays where less than a
-- half is left, the next follows where more is, and where just a half is left, the even one of the two.
abbrev pub whole_nearest : ℕ → ℕ → ℕ
whole_nearest a b =
    let q = a / b in
    let twice = a % b * 2 in
    cond (nat_lt twice b) q (cond (nat_lt b twice) (q + 1) (q + q % 2))

-- how far apart two whole numbers are
abbrev pub apart : ℕ → ℕ → ℕ
apart x y = x - y + (y - x)

-- No whole number is nearer to a / b than n is, and where another is as near, n is even; multiplied through by b.
pub record NearestEven (a b n : ℕ) : Type 0 where
  pub nearest : (m : ℕ) → apart a (n * b) ≤ apart a (m * b)
  pub even : (m : ℕ) → apart a (n * b) ≡ apart a (m * b) → (m ≡ n) ⊎ (n % 2 ≡ 0)

-- what the rule means
abbrev pub RoundsToEven : Type 0
RoundsToEven = (a b : ℕ) → 0 < b → NearestEven a b (whole_nearest a b)

-- n with the sign s, negative where s is true; either zero is 0
abbrev pub signed : Bool → ℕ → ℤ
signed false n = pos n
signed true n = neg_ℤ (pos n)

-- the coordinate that a product comes to
unfoldable pub placed : Float → Option ℤ
placed nan = None
placed (inf s) = None
placed (fin s m e) = let n = whole_nearest (m * up e) (down e) in cond (nat_le n grid_limit) (Some (signed s n)) None

-- what each case of the answer comes to: a whole number, or "7 off the grid"
abbrev pub coordinate_of : Option ℤ → Outcome ℤ
coordinate_of (Some z) = outcome z
coordinate_of None = refused 7

abbrev pub grid_coordinates : List Float → List (Option ℤ)
grid_coordinates p = map (λ x. placed (centimetres x)) p

-- a whole number in front of others, as a result: its zero is positive
abbrev pub in_front_of : Outcome ℤ → Outcome (List Float) → Outcome (List Float)
in_front_of (refused k) others = refused k
in_front_of (outcome z) (refused k) = refused k
in_front_of (outcome z) (outcome xs) = outcome (of_int binary64 z ∷ xs)

-- the numbers of several coordinates, or the refusal of one of them
unfoldable pub grid_numbers : List (Option ℤ) → Outcome (List Float)
grid_numbers [] = outcome []
grid_numbers (c ∷ cs) = in_front_of (coordinate_of c) (grid_numbers cs)

-- "1, 2, then 7 if a product is not finite or its rounded size exceeds 65,536"
unfoldable pub grid_call : List Float → List Float → Reply Float
grid_call p out = attempting (has point_length p) point_length (grid_numbers (grid_coordinates p)) out
