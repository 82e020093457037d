-- The two sides of zero. A number is on the side of a sign if it has that sign or is a zero, which is on both; a NaN is on neither. What is on the negative side is at most
-- what is on the positive side. The idea: in the order of differences a side is that one of the two is 0. Assumes nothing.
use Rattle.std.proofs.Common.{◌≡◌, ℕ, ◌*◌, Bool, true, false, ◌||◌, T, eqb, arith, eqb→eq}
use mathlib.Core.Bool.{beq}
use lib.Ieee.{Float, nan, inf, fin, up, down, lt, eq, le}
use Rattle.number.proofs.Comparisons.{InOrder, order_test, lt_not_le, refuted}

-- has the sign s, or is a zero of either sign
abbrev pub side : Bool → Float → Bool
side s nan = false
side s (inf t) = beq s t
side s (fin t m e) = beq s t || eqb m 0

-- ---- their order

-- of finite numbers, by their differences
apart : (s t : Bool) (m u d n v c : ℕ) → T (beq true s || eqb m 0) → T (beq false t || eqb n 0) → InOrder s (m * u) d t (n * v) c
apart true false m u d n v c h k = omega arith
apart true true m u d n v c h k = rw (eqb→eq n 0 k) (omega arith)
apart false false m u d n v c h k = rw (eqb→eq m 0 h) (omega arith)
apart false true m u d n v c h k = rw (eqb→eq m 0 h, eqb→eq n 0 k) (omega arith)

-- what is on the negative side is at most what is on the positive side
pub sides_le : (x y : Float) → T (side true x) → T (side false y) → T (le x y)
unfolding le lt eq
sides_le nan y h k = absurd h
sides_le (inf false) y h k = absurd h
sides_le (inf true) nan h k = absurd k
sides_le (inf true) (inf true) h k = absurd k
sides_le (inf true) (inf false) h k = tt
sides_le (inf true) (fin t n d) h k = tt
sides_le (fin s m e) nan h k = absurd k
sides_le (fin s m e) (inf true) h k = absurd k
sides_le (fin s m e) (inf false) h k = tt
sides_le (fin s m e) (fin t n d) h k = order_test s t (m * up e) (down e) (n * up d) (down d) (apart s t m (up e) (down e) n (up d) (down d) h k)

-- and not above it
pub sides_not_lt : (x y : Float) → T (side true x) → T (side false y) → lt y x ≡ false
sides_not_lt x y h k = refuted (lt y x) (λ t. lt_not_le y x t (sides_le x y h k))
