-- The rounded root and the middles to both sides of it, by whole numbers alone.
-- The idea: let r be the root's whole part, u the unit that the rounding keeps, which is even, and q * u the result. Rounding is wrong by half a unit at most.
-- So of the middles between q * u and the next multiples of u one is at most r, the other at least the root. Assumes nothing.
use Rattle.std.proofs.Common.{◌≡◌, ℕ, suc, ◌+◌, ◌*◌, ◌<◌, ◌≤◌, Bool, true, false, cond, not, T, ltb, ◌⊎◌, ap, inl, inr, le_trans, le_of_suc-le-suc, le_of_lt, mul-le-mul_right, mul-le-mul, lt_of_mul-lt-mul_right, eq-or-lt_of_le, lt_of_not-le, arith, nltb→le}
use Rattle.number.specs.Root.{rest_of}
use Rattle.number.proofs.Spacing.{Spaced}

-- The root of s, whose whole part is r, is rounded to q * u: the root, or r and a half in its place, is at most h = u / 2 away.
-- b * u is the least number that has all digits.
pub record Rounding (s r q u h b : ℕ) : Type 0 where
  pub even : u ≡ h + h
  pub some : 0 < h
  pub from : r * r ≤ s
  pub to : s < suc r * suc r
  pub base : b * u ≤ r
  pub lo : 2 * (q * u) ≤ 2 * r + rest_of r s + u
  pub hi : 2 * r + rest_of r s ≤ 2 * (q * u) + u

four_le : (s i : ℕ) → s ≤ i * i → 4 * s ≤ 2 * i * (2 * i)
four_le s i h = omega arith

le_four : (i s : ℕ) → i * i ≤ s → 2 * i * (2 * i) ≤ 4 * s
le_four i s h = omega arith

module _ {s r q u h b : ℕ} (a : Rounding s r q u h b) where
  -- The middles to both sides of q * u are whole numbers, for u is even. So r on the one side, and r or r + 1 on the other, stand for the root.
  middle_below : q * u ≤ r + h
  middle_below = go (ltb (r * r) s) a.lo
    where
      go : (x : Bool) → 2 * (q * u) ≤ 2 * r + cond x 1 0 + u → q * u ≤ r + h
      go true i = omega arith
      go false i = omega arith

  middle_above : s ≤ (q * u + h) * (q * u + h)
  middle_above = go (ltb (r * r) s) (nltb→le (r * r) s) a.hi
    where
      go : (x : Bool) → (T (not x) → s ≤ r * r) → 2 * r + cond x 1 0 ≤ 2 * (q * u) + u → s ≤ (q * u + h) * (q * u + h)
      go true n i = le_trans (le_of_lt a.to) (mul-le-mul {n₁ = suc r} {m₁ = suc r} (omega arith) (omega arith))
      go false n i = le_trans (n tt) (mul-le-mul {n₁ = r} {m₁ = r} (omega arith) (omega arith))

  next : (c d : ℕ) → c < d → c * u + u ≤ d * u
  next c d l = let m : suc c * u ≤ d * u = mul-le-mul_right u l in omega arith

  all_digits : b ≤ q
  all_digits = le_of_suc-le-suc (lt_of_not-le (λ (g : suc q ≤ b). let m = next q b g in omega arith))

  -- a smaller value: its middle with q * u is at most r
  at_most : (Z : ℕ) → Spaced b u Z → Z < q * u → q * u + Z ≤ 2 * r
  at_most Z (inl (c, e)) l = let m = next c q (lt_of_mul-lt-mul_right u (rw e at l)) in omega (arith, middle_below)
  at_most Z (inr g) l = go (eq-or-lt_of_le all_digits)
    where
      go : (b ≡ q) ⊎ (b < q) → q * u + Z ≤ 2 * r
      go (inl e) = let m : b * u ≡ q * u = ap (λ (x : ℕ). x * u) e in omega arith
      go (inr n) = let m = next b q n in omega (arith, middle_below)

  -- a larger value: its middle with q * u is at least half a unit above that
  at_least : (Z : ℕ) → Spaced b u Z → q * u < Z → 2 * (q * u + h) ≤ q * u + Z
  at_least Z (inl (c, e)) l = let m = next q c (lt_of_mul-lt-mul_right u (rw e at l)) in omega arith
  at_least Z (inr g) l = let m = mul-le-mul_right u all_digits in omega arith

  pub below_by : (Z : ℕ) → Spaced b u Z → Z < q * u → (q * u + Z) * (q * u + Z) ≤ 4 * s
  below_by Z p l = le_trans (mul-le-mul (at_most Z p l) (at_most Z p l)) (le_four r s a.from)

  pub above_by : (Z : ℕ) → Spaced b u Z → q * u < Z → 4 * s ≤ (q * u + Z) * (q * u + Z)
  above_by Z p l = le_trans (four_le s (q * u + h) middle_above) (mul-le-mul (at_least Z p l) (at_least Z p l))

  -- and it does not grow beyond twice the root
  pub under : 0 < b → q * u ≤ 2 * r
  under B = let m : 1 * u ≤ b * u = mul-le-mul_right u B in omega (arith, middle_below)
