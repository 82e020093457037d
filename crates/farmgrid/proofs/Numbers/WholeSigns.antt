-- Integers with a sign turned or not. The idea of each proof: both sides are written out as differences of natural numbers, and
-- `omega` decides the equation between those.
use mathlib.Core.Path.{◌≡◌, refl}
use Prim.Native.Nat.{ℕ}
use native.Mathlib.Omega.{arith}
use mathlib.Core.Bool.{Bool, true, false, cond}
use lib.IntN.{ℤ, pos, neg_ℤ, nat_abs, ◌+ℤ◌, ◌*ℤ◌, neg_ℤ-neg_ℤ}
use Rattle.number.specs.Grid.{signed}
use Rattle.whole.proofs.Integer.{of_self as self, of_pos, of_neg, of_eq, abs_neg, ◌⊞◌, ◌⊠◌}
use Rattle.whole.specs.Plane.{dotℤ}

-- ---- z, or -z where s is true

abbrev pub flip : Bool → ℤ → ℤ
flip s z = cond s (neg_ℤ z) z

pub flip_flip : (s : Bool) (z : ℤ) → flip s (flip s z) ≡ z
flip_flip false z = refl
flip_flip true z = neg_ℤ-neg_ℤ z

pub flip_one : (s : Bool) → signed s 1 ≡ flip s (pos 1)
flip_one false = refl
flip_one true = refl

pub flip_zero : (s : Bool) → flip s (pos 0) ≡ pos 0
flip_zero false = refl
flip_zero true = refl

pub flip_neg : (s : Bool) (z : ℤ) → neg_ℤ (flip s z) ≡ flip s (neg_ℤ z)
flip_neg false z = refl
flip_neg true z = refl

pub abs_flip : (s : Bool) (z : ℤ) → nat_abs (flip s z) ≡ nat_abs z
abs_flip false z = refl
abs_flip true z = abs_neg z

-- a number times a 1 or a -1, or times 0
pub times_unit : (s u : Bool) (a : ℤ) → a *ℤ cond u (signed s 1) (pos 0) ≡ cond u (flip s a) (pos 0)
times_unit false true a = of_eq (self a ⊠ of_pos 1) (self a) (omega arith)
times_unit true true a = of_eq (self a ⊠ of_neg (of_pos 1)) (of_neg (self a)) (omega arith)
times_unit s false a = of_eq (self a ⊠ of_pos 0) (of_pos 0) (omega arith)

pub dot_flip : (s : Bool) (p q : ℕ → ℤ) → dotℤ p (λ k. flip s (q k)) ≡ flip s (dotℤ p q)
dot_flip false p q = refl
dot_flip true p q = of_eq
    (self (p 0) ⊠ of_neg (self (q 0)) ⊞ self (p 1) ⊠ of_neg (self (q 1)) ⊞ self (p 2) ⊠ of_neg (self (q 2)))
    (of_neg (self (p 0) ⊠ self (q 0) ⊞ self (p 1) ⊠ self (q 1) ⊞ self (p 2) ⊠ self (q 2))) (omega arith)

-- ---- sums of 0 and products with 0 and 1

pub plus_zero : (a b : ℤ) → a +ℤ pos 0 *ℤ b ≡ a
plus_zero a b = of_eq (self a ⊞ of_pos 0 ⊠ self b) (self a) (omega arith)

pub zero_plus : (a : ℤ) → pos 0 +ℤ a ≡ a
zero_plus a = of_eq (of_pos 0 ⊞ self a) (self a) (omega arith)

pub plus_one : (a b : ℤ) → a +ℤ pos 1 *ℤ b ≡ a +ℤ b
plus_one a b = of_eq (self a ⊞ of_pos 1 ⊠ self b) (self a ⊞ self b) (omega arith)
