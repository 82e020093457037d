-- Two values of binary64 that are one whole number, neither of them -0, are the same. The idea: a whole number has one sign, but for 0; and values of one sign and one
-- size are the same. Assumes nothing.
use mathlib.Core.Path.{◌≡◌, refl, ap, ◌∙◌, subst}
use mathlib.Core.Bool.{Bool, true, false}
use Prim.Native.Nat.{ℕ, zero, suc, ◌*◌}
use native.Mathlib.Nat.{zero-lt-suc}
use native.Mathlib.Omega.{arith}
use lib.IntN.{ℤ, pos, negsuc, nat_abs}
use lib.Ieee.{Float, nan, inf, fin, binary64, down, up}
use lib.Ieee.Back.{whole_unique}
use lib.Ieee.Exact.{HasValue}
use lib.Ieee.Fits.{up_pos}
use Rattle.number.specs.Arithmetic.{zero_of}
use Rattle.number.specs.Extremes.{Value}
use Rattle.number.specs.Grid.{signed}
use Rattle.number.proofs.Extremes.{no_digits, is_zero}
use Rattle.farmgrid.specs.Whole.{Whole}
use Rattle.farmgrid.proofs.Numbers.Exact.{to_value}

-- z is below 0
abbrev is_below : ℤ → Bool
is_below (pos n) = false
is_below (negsuc n) = true

-- a whole number's sign, where 0 has that of the positive ones
sign_is : (s : Bool) (z : ℤ) → signed s (nat_abs z) ≡ z → (s ≡ true → nat_abs z ≡ 0 → ⊥) → s ≡ is_below z
sign_is false (pos n) e h = refl
sign_is false (negsuc n) e h = ap is_below e
sign_is true (pos zero) e h = absurd (h refl refl)
sign_is true (pos (suc n)) e h = ap is_below e
sign_is true (negsuc n) e h = refl

-- a value that is 0 and has the sign of the negative numbers is -0
no_negative : (x : Float) (s : Bool) (k : ℕ) → Value x → (x ≡ zero_of true → ⊥) → HasValue x s k 1 → s ≡ true → k ≡ 0 → ⊥
no_negative nan s k v n h p q = h
no_negative (inf t) s k v n h p q = h
no_negative (fin t m e) s k v n h p q =
    let d = no_digits m (up e) 1 (up_pos e) (zero-lt-suc 0) (omega (arith, h.1, ap (λ (i : ℕ). i * down e) q)) in
    n (is_zero t m e v d ∙ ap zero_of (h.0 ∙ p))

by_sign : (x : Float) (z : ℤ) → Value x → (x ≡ zero_of true → ⊥) → Whole x z → HasValue x (is_below z) (nat_abs z) 1
by_sign x z v n g =
    let p = to_value g in
    subst (λ (s : Bool). HasValue x s (nat_abs z) 1) (sign_is p.sign z p.both (no_negative x p.sign (nat_abs z) v n p.size)) p.size

pub one_float : (x y : Float) (z : ℤ) → Value x → Value y → (x ≡ zero_of true → ⊥) → (y ≡ zero_of true → ⊥) → Whole x z → Whole y z → x ≡ y
one_float x y z v w n o g h = whole_unique binary64 x y (is_below z) (nat_abs z) v w (by_sign x z v n g) (by_sign y z w o h)
