-- Numbers that are at most 1e-6 apart are close, whatever their sizes are. The idea: the larger size is held to 1 at least, and 1e-6 of what is at least 1 is rounded to no less than 1e-6.
-- Assumes nothing.
use mathlib.Core.Path.{◌≡◌, refl, sym, subst}
use mathlib.Core.Bool.{Bool, true, false, cond, ◌&&◌}
use Prim.Native.Nat.{ℕ, ◌*◌, ◌^◌, ◌≤◌}
use native.Mathlib.Nat.{mul-pos, mul-le-mul_right}
use native.Mathlib.Omega.{arith}
use lib.IntN.{pos, negsuc}
use lib.Dec.{T}
use lib.Pow.{pow_pos}
use lib.Ieee.{Float, nan, inf, fin, binary64, up, down, fits, lt, eq, le, neg, add, sub, mul, round}
use lib.Ieee.Bits.{is_true}
use lib.Ieee.Fits.{down_pos}
use lib.Ieee.Order.{round_mono}
use lib.Ieee.Scale.{finite}
use Rattle.number.specs.Arithmetic.{◌⊖◌, ◌⊗◌, abs_of, upper_of, max_of}
use Rattle.number.specs.Extremes.{Value}
use Rattle.number.proofs.Comparisons.{le_through, lt_le, test_order}
use Rattle.number.proofs.Formats.{round_self}
use Rattle.matrix.specs.Constants.{one}
use Rattle.projection.specs.Projection.{tolerance, close}
use Rattle.projection.proofs.Largest.{largest}
use Rattle.projection.proofs.NearZero.{tolerance_is, one_is}

-- 1e-6
abbrev millionth : Float
millionth = fin false 4722366482869645 (negsuc 71)

-- numbers that are at most that apart are finite
of_finite : (g b : Float) → T (le (abs_of (g ⊖ b)) millionth) → (finite g && finite b) ≡ true
unfolding abs_of sub add neg le lt eq
of_finite nan b h = absurd h
of_finite (inf s) nan h = absurd h
of_finite (inf true) (inf true) h = absurd h
of_finite (inf true) (inf false) h = absurd h
of_finite (inf false) (inf true) h = absurd h
of_finite (inf false) (inf false) h = absurd h
of_finite (inf s) (fin t n d) h = absurd h
of_finite (fin s m e) nan h = absurd h
of_finite (fin s m e) (inf t) h = absurd h
of_finite (fin s m e) (fin t n d) h = refl

-- the larger of what is at least 1 and a number is at least 1
still_one : (m y : Float) → T (le one m) → T (le one (upper_of m y))
still_one m y h = go (lt m y) refl
  where
    go : (b : Bool) → lt m y ≡ b → T (le one (cond b y m))
    go true e = le_through one m y h (lt_le m y (subst T (sym e) tt))
    go false e = h

scaled : (m d a c : ℕ) → c ≤ a → m * 1 * (d * c) ≤ m * 1 * a * d
scaled m d a c h = omega (arith, mul-le-mul_right (m * d) h)

-- 1e-6 of what is at least 1
grows : (x : Float) → T (le (fin false 1 (pos 0)) x) → T (le millionth (millionth ⊗ x))
unfolding le lt eq mul fits
grows nan h = absurd h
grows (inf true) h = absurd h
grows (inf false) h = tt
grows (fin true m e) h = absurd (let g = test_order false true (1 * 1) 1 (m * up e) (down e) h in let C = down_pos e in omega arith)
grows (fin false m e) h =
    let g = test_order false false (1 * 1) 1 (m * up e) (down e) h in
    subst (λ (x : Float). T (le x (round binary64 false (4722366482869645 * 1 * (m * up e)) (2 ^ 72 * down e)))) (round_self binary64 false 4722366482869645 (negsuc 71) tt)
    (round_mono binary64 (4722366482869645 * 1) (2 ^ 72) (4722366482869645 * 1 * (m * up e)) (2 ^ 72 * down e) (pow_pos 72) (mul-pos (pow_pos 72) (down_pos e))
    (scaled 4722366482869645 (2 ^ 72) (m * up e) (down e) (omega arith)))

one_at_most : T (le one one)
unfolding le lt eq
one_at_most = subst (λ (x : Float). T (le x x)) (sym one_is) tt

pub close_enough : (g b : Float) → Value g → Value b → T (le (abs_of (g ⊖ b)) tolerance) → close g b ≡ true
unfolding close
close_enough g b v w h =
    let off = abs_of (g ⊖ b) in
    let large = upper_of (upper_of one (abs_of g)) (abs_of b) in
    let least = still_one (upper_of one (abs_of g)) (abs_of b) (still_one one (abs_of g) one_at_most) in
    let more = subst (λ (t : Float). T (le t (t ⊗ large))) (sym tolerance_is) (grows large (subst (λ (x : Float). T (le x large)) one_is least)) in
    let held = subst (λ (m : Float). T (le off (tolerance ⊗ m))) (largest g b (upper_of one (abs_of g)) large v w refl refl) (le_through off tolerance (tolerance ⊗ large) h more) in
    λ i. of_finite g b (subst (λ (t : Float). T (le off t)) tolerance_is h) i && is_true (le off (tolerance ⊗ max_of (max_of (abs_of g) (abs_of b)) one)) held i
