-- What a register of the machine reads: a whole number that fits is read back as it was written. So no sum, difference or product of numbers on the grid overflows.
-- The idea: a bound on the size of each number on the way, as for the floats of the farm grid. Assumes nothing.
use mathlib.Core.Path.{◌≡◌, refl, sym, ap, ap₂, subst, ◌∙◌}
use mathlib.Core.Bool.{Bool, true, false}
use Prim.Native.Nat.{ℕ, ◌+◌, ◌*◌, ◌^◌, ◌≤◌, ◌<◌, zero-le}
use native.Mathlib.Nat.{le_refl, mul-le-mul, lt_of_le_of_lt, lt_of_lt_of_le}
use native.Mathlib.Omega.{arith}
use borrow.Author.Tests.{le-leb, ltb-true}
use lib.Dec.{T, lit≤}
use lib.IntN.{ℤ, pos, negsuc, nat_abs, neg_ℤ, ◌+ℤ◌, ◌-ℤ◌, ◌*ℤ◌, +ℤ_idl}
use lib.Signed.{non_neg, le_z, lt_z}
use mir.Syntax.{Width, w32, w64}
use mir.Val.{Fits, SFits, to_z, of_z, hbits}
use mir.ValLaws.{to_z-of_z}
use Rattle.whole.proofs.Integer.{abs_neg, abs_sum, abs_minus, abs_times}

-- u, what is read, is the number z, of size at most b
pub record Held (u z : ℤ) (b : ℕ) : Type 0 where
  pub is : u ≡ z
  pub size : nat_abs z ≤ b

-- a number below half the power of a width fits it
small_fits : (w : Width) (z : ℤ) (b : ℕ) → nat_abs z ≤ b → b < 2 ^ hbits w → SFits w z
small_fits w (pos n) b h l = record { sfits = lt_of_le_of_lt h l }
small_fits w (negsuc n) b h l = record { sfits = lt_of_le_of_lt (omega (arith, h)) l }

module _ (w : Width) {u z : ℤ} {b : ℕ} (h : Held u z b) (l : b < 2 ^ hbits w) where
  pub held_fits : SFits w u
  held_fits = subst (λ (x : ℤ). SFits w x) (sym h.is) (small_fits w z b h.size l)

  -- written and read again
  pub read : Held (to_z w (of_z w u)) z b
  read = record { is = ap (λ (x : ℤ). to_z w (of_z w x)) h.is ∙ to_z-of_z w z (small_fits w z b h.size l); size = h.size }

pub itself : (z : ℤ) {b : ℕ} → nat_abs z ≤ b → Held z z b
itself z h = record { is = refl; size = h }

module _ {u v y z : ℤ} {a b : ℕ} (g : Held u y a) (h : Held v z b) where
  pub held_times : Held (u *ℤ v) (y *ℤ z) (a * b)
  held_times = record { is = ap₂ ◌*ℤ◌ g.is h.is; size = rw (abs_times y z) (mul-le-mul g.size h.size) }

  pub held_sum : Held (u +ℤ v) (y +ℤ z) (a + b)
  held_sum = record { is = ap₂ ◌+ℤ◌ g.is h.is; size = let s = g.size in let t = h.size in omega (arith, abs_sum y z) }

  pub held_minus : Held (u -ℤ v) (y -ℤ z) (a + b)
  held_minus = record { is = ap₂ ◌-ℤ◌ g.is h.is; size = let s = g.size in let t = h.size in omega (arith, abs_minus y z) }

-- ---- a number of 32 bits on the grid, widened to 64

pub widened : (z : ℤ) (b : ℕ) → nat_abs z ≤ b → b < 2 ^ hbits w32 → b < 2 ^ hbits w64 → Held (to_z w64 (of_z w64 (to_z w32 (of_z w32 z)))) z b
widened z b h l k = read w64 (read w32 (itself z h) l) k

pub widens : (z : ℤ) (b : ℕ) → nat_abs z ≤ b → b < 2 ^ hbits w32 → b < 2 ^ hbits w64 → SFits w64 (to_z w32 (of_z w32 z))
widens z b h l k = held_fits w64 (read w32 (itself z h) l) k

-- ---- signs

-- a number's negation, as the machine makes it
pub negation : {u z : ℤ} {b : ℕ} → Held u z b → Held (pos 0 -ℤ u) (pos 0 -ℤ z) (0 + b)
negation h = held_minus (itself (pos 0) (le_refl 0)) h

pub abs_negation : (z : ℤ) → nat_abs (pos 0 -ℤ z) ≡ nat_abs z
abs_negation z = ap nat_abs (+ℤ_idl (neg_ℤ z)) ∙ abs_neg z

-- a test of what is read is one of the number
pub test_read : (w : Width) (z : ℤ) → SFits w z → (b : Bool) → lt_z (to_z w (of_z w z)) (pos 0) ≡ b → lt_z z (pos 0) ≡ b
test_read w z f b e = ap (λ (y : ℤ). lt_z y (pos 0)) (sym (to_z-of_z w z f)) ∙ e

pub front_fits : (z : ℤ) → T (non_neg z) → SFits w32 z → Fits w32 (nat_abs z)
front_fits (pos n) t f = record { fits = lt_of_lt_of_le f.sfits (lit≤ {m = 2 ^ hbits w32} tt) }
front_fits (negsuc n) t f = absurd t

-- at least 0
pub front_is : (z : ℤ) → le_z (pos 0) z ≡ non_neg z
front_is (pos n) = le-leb 0 n zero-le
front_is (negsuc n) = refl

pub below_zero : (z : ℤ) → lt_z z (pos 0) ≡ true → non_neg z ≡ false
below_zero (pos n) e = absurd (omega (arith, ltb-true n 0 e))
below_zero (negsuc n) e = refl

pub from_zero : (z : ℤ) → lt_z z (pos 0) ≡ false → T (non_neg z)
from_zero (pos n) e = tt
from_zero (negsuc n) e = subst T e tt

-- the size of a number below 0 is that of its negation, which is above 0
pub negated : (z : ℤ) → non_neg z ≡ false → T (non_neg (pos 0 -ℤ z))
negated (pos n) e = absurd (subst T e tt)
negated (negsuc n) e = tt
