-- A quarter turn of two directions keeps their dot product.
-- The idea: a turned p is the sum of the rows, each multiplied by the number of p at that row, and the rows are orthonormal: the squares
-- of a row's numbers add up to their sizes, which is 1, and of two rows' numbers in one column one is 0.
use mathlib.Core.Path.{◌≡◌, refl, ap, ◌∙◌}
use Prim.Native.Nat.{ℕ, zero, suc, ◌+◌, ◌*◌, ◌≤◌, ◌<◌}
use native.Mathlib.Omega.{arith}
use lib.Dec.{lit<}
use lib.IntN.{ℤ, pos, negsuc, nat_abs, ◌+ℤ◌, ◌*ℤ◌, *ℤ-zero, zero-*ℤ}
use Rattle.whole.proofs.Integer.{hi, lo, Of, of_self, of_pos, of_sum, of_times, of_eq}
use Rattle.whole.specs.Plane.{dotℤ}
use Rattle.placed.specs.Placement.{columnℤ, turnedℤ, sizes}
use Rattle.farmgrid.specs.Placement.{QuarterTurn}
use Rattle.whole.proofs.Dot.{dot_comm}
use Rattle.farmgrid.proofs.Segments.Dot.{dot_turned}

-- ---- the rows of a quarter turn
square : (z : ℤ) → nat_abs z ≤ 1 → z *ℤ z ≡ pos (nat_abs z)
square (pos zero) h = refl
square (pos (suc zero)) h = refl
square (pos (suc (suc n))) h = absurd (omega arith)
square (negsuc zero) h = refl
square (negsuc (suc n)) h = absurd (omega arith)

apart : (a b : ℤ) → nat_abs a + nat_abs b ≤ 1 → a *ℤ b ≡ pos 0
apart (pos zero) b h = zero-*ℤ b
apart (pos (suc n)) (pos zero) h = *ℤ-zero (pos (suc n))
apart (pos (suc n)) (pos (suc m)) h = absurd (omega arith)
apart (pos (suc n)) (negsuc m) h = absurd (omega arith)
apart (negsuc n) (pos zero) h = *ℤ-zero (negsuc n)
apart (negsuc n) (pos (suc m)) h = absurd (omega arith)
apart (negsuc n) (negsuc m) h = absurd (omega arith)

-- one of three numbers times 1, the others times 0
module _ (a b c : ℤ) where
  once : (z : ℤ) → Of (hi z * 1 + lo z * 0) (hi z * 0 + lo z * 1) (z *ℤ pos 1)
  once z = of_times (of_self z) (of_pos 1)

  never : (z : ℤ) → Of (hi z * 0 + lo z * 0) (hi z * 0 + lo z * 0) (z *ℤ pos 0)
  never z = of_times (of_self z) (of_pos 0)

  first : a *ℤ pos 1 +ℤ b *ℤ pos 0 +ℤ c *ℤ pos 0 ≡ a
  first = of_eq (of_sum (of_sum (once a) (never b)) (never c)) (of_self a) (omega arith)

  second : a *ℤ pos 0 +ℤ b *ℤ pos 1 +ℤ c *ℤ pos 0 ≡ b
  second = of_eq (of_sum (of_sum (never a) (once b)) (never c)) (of_self b) (omega arith)

  third : a *ℤ pos 0 +ℤ b *ℤ pos 0 +ℤ c *ℤ pos 1 ≡ c
  third = of_eq (of_sum (of_sum (never a) (never b)) (once c)) (of_self c) (omega arith)

module _ {f : ℕ → ℕ → ℤ} (F : QuarterTurn f) where
  own : (i : ℕ) → i < 3 → dotℤ (f i) (f i) ≡ pos 1
  own i h =
      let r = F.rows i h in
      rw (square (f i 0) (omega arith), square (f i 1) (omega arith), square (f i 2) (omega arith)) (ap pos r)

  -- of two rows, where the sizes of a column leave no room for both
  other : (i j : ℕ) → ((c : ℕ) → sizes (columnℤ f c) ≡ 1 → nat_abs (f i c) + nat_abs (f j c) ≤ 1) → dotℤ (f i) (f j) ≡ pos 0
  other i j h = rw (zero_at 0 (lit< tt), zero_at 1 (lit< tt), zero_at 2 (lit< tt))
    where
      zero_at : (c : ℕ) → c < 3 → f i c *ℤ f j c ≡ pos 0
      zero_at c l = apart (f i c) (f j c) (h c (F.columns c l))

  -- the product of a turned p and a row is the number of p at that row
  pub keeps_dot : (p q : ℕ → ℤ) → dotℤ (turnedℤ f p) (turnedℤ f q) ≡ dotℤ p q
  keeps_dot p q = dot_turned f (turnedℤ f p) q ∙ (λ t. q 0 *ℤ at_0 t +ℤ q 1 *ℤ at_1 t +ℤ q 2 *ℤ at_2 t) ∙ dot_comm q p
    where
      by_rows : (i : ℕ) → dotℤ (turnedℤ f p) (f i) ≡ dotℤ p (λ k. dotℤ (f i) (f k))
      by_rows i = dot_comm (turnedℤ f p) (f i) ∙ dot_turned f (f i) p

      at_0 : dotℤ (turnedℤ f p) (f 0) ≡ p 0
      at_0 = by_rows 0 ∙ rw (own 0 (lit< tt), other 0 1 (λ c e. omega arith), other 0 2 (λ c e. omega arith)) (first (p 0) (p 1) (p 2))

      at_1 : dotℤ (turnedℤ f p) (f 1) ≡ p 1
      at_1 = by_rows 1 ∙ rw (other 1 0 (λ c e. omega arith), own 1 (lit< tt), other 1 2 (λ c e. omega arith)) (second (p 0) (p 1) (p 2))

      at_2 : dotℤ (turnedℤ f p) (f 2) ≡ p 2
      at_2 = by_rows 2 ∙ rw (other 2 0 (λ c e. omega arith), other 2 1 (λ c e. omega arith), own 2 (lit< tt)) (third (p 0) (p 1) (p 2))
