-- Sums, differences, products and negations are exact on floats that are whole numbers, while the sizes worked out from
-- their bounds stay within 2 ^ 53. The idea: a bound of each result follows from those of its parts. Assumes nothing.
use Prim.Native.Nat.{ℕ, ◌+◌, ◌*◌, ◌^◌, ◌≤◌}
use native.Mathlib.Nat.{mul-le-mul}
use native.Mathlib.Omega.{arith}
use lib.IntN.{ℤ, neg_ℤ, nat_abs, ◌+ℤ◌, ◌-ℤ◌, ◌*ℤ◌}
use lib.Ieee.{Float, binary64, neg}
use Rattle.number.specs.Arithmetic.{◌⊕◌, ◌⊖◌, ◌⊗◌}
use Rattle.farmgrid.specs.Whole.{Whole}
use Rattle.whole.proofs.Integer.{abs_sum, abs_minus, abs_times, abs_neg}
use Rattle.farmgrid.proofs.Numbers.Exact.{add_whole, sub_whole, mul_whole, neg_whole}

-- x is the integer z, of size at most b
pub record Fit (x : Float) (z : ℤ) (b : ℕ) : Type 0 where
  pub whole : Whole x z
  pub size : nat_abs z ≤ b

module _ {x y : Float} {a b : ℤ} {p q : ℕ} (g : Fit x a p) (h : Fit y b q) where
  pub fit_sum : p + q ≤ 2 ^ 53 → Fit (x ⊕ y) (a +ℤ b) (p + q)
  fit_sum w =
      let s : nat_abs (a +ℤ b) ≤ p + q = omega (arith, abs_sum a b) in
      record { whole = add_whole binary64 g.whole h.whole (omega arith); size = s }

  pub fit_minus : p + q ≤ 2 ^ 53 → Fit (x ⊖ y) (a -ℤ b) (p + q)
  fit_minus w =
      let s : nat_abs (a -ℤ b) ≤ p + q = omega (arith, abs_minus a b) in
      record { whole = sub_whole binary64 g.whole h.whole (omega arith); size = s }

  pub fit_times : p * q ≤ 2 ^ 53 → Fit (x ⊗ y) (a *ℤ b) (p * q)
  fit_times w =
      let s : nat_abs (a *ℤ b) ≤ p * q = rw (abs_times a b) (mul-le-mul g.size h.size) in
      record { whole = mul_whole binary64 g.whole h.whole (omega arith); size = s }

pub fit_neg : {x : Float} {a : ℤ} {p : ℕ} → Fit x a p → Fit (neg x) (neg_ℤ a) p
fit_neg {a = a} g = record { whole = neg_whole g.whole; size = omega (arith, abs_neg a) }
