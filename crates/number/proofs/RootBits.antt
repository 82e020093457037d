-- The bits of a rounded root, by the root of the number searched. With w the scale, the number under the root, in smallest values squared, is the number
-- searched times the square of 2 ^ (w / 2 + 484): its root has 54 digits, which is one more than the format keeps. Assumes nothing.
use Rattle.std.proofs.Common.{◌≡◌, ℕ, suc, ◌+◌, ◌*◌, ◌/◌, ◌%◌, ◌^◌, ◌<◌, ◌≤◌, min, false, sym, ap, ◌∙◌, subst, le_trans, le_of_eq, lt_of_lt_of_le, le_of_suc-le-suc, lt_of_le_of_lt, mul-le-mul_right, mod-eq_of_lt, mul_assoc, mul-le-mul, mul-lt-mul_of_pos_right, arith, pow_pos, pow_mono, pow-add, shl_lt}
use Prim.Native.Nat.{compare}
use lib.Ieee.{binary64, of_bits, units, hid, ones}
use lib.Ieee.Fits.{nearest-le}
use lib.Ieee.Nearest.{nearest-ge}
use Rattle.number.specs.Root.{root_of, rest_of, round_root}
use Rattle.number.specs.Steps.Root.{root_digits}
use Rattle.number.proofs.Pack.{pack}
use Rattle.number.proofs.WholeRoot.{root_le, root_lt, square_lt}
use Rattle.number.proofs.RootRounding.{root_rounds, rest_le}

-- ---- the number searched
module _ (m w : ℕ) (lo : 2 ^ 52 ≤ m) (hi : m < 2 ^ 53) where
  pub shifted_lt : m * 2 ^ (1 + w % 2) < 2 ^ 55
  shifted_lt = lt_of_lt_of_le (shl_lt 53 (1 + w % 2) hi) (pow_mono {i = 53 + (1 + w % 2)} {j = 55} (omega arith))

  pub shifted_ge : 2 ^ 53 ≤ m * 2 ^ (1 + w % 2)
  shifted_ge = mul-le-mul {n₁ = 2 ^ 52} {m₁ = 2} lo (pow_mono {i = 1} {j = 1 + w % 2} (omega arith))

  pub shifted : m * 2 ^ (1 + w % 2) % 2 ^ 64 ≡ m * 2 ^ (1 + w % 2)
  shifted = mod-eq_of_lt (lt_of_lt_of_le shifted_lt (pow_mono {i = 55} {j = 64} (omega arith)))

  abbrev N : ℕ
  N = m * 2 ^ (1 + w % 2) * 2 ^ 53

  root_lo : 2 ^ 53 ≤ root_of N
  root_lo = le_of_suc-le-suc (square_lt (2 ^ 53) (suc (root_of N)) (lt_of_le_of_lt least (root_lt N)))
    where
      least : 2 ^ 53 * 2 ^ 53 ≤ N
      least = mul-le-mul_right (2 ^ 53) shifted_ge

  root_hi : root_of N < 2 ^ 54
  root_hi = square_lt (root_of N) (2 ^ 54) (lt_of_le_of_lt (root_le N) (mul-lt-mul_of_pos_right shifted_lt (pow_pos 53)))

  -- what is found, with the half that stands for the rest
  abbrev Is : ℕ → ℕ → ℕ → Type 0
  Is i root rest = (root ≡ root_of (i * 2 ^ 53)) × (rest ≡ rest_of (root_of (i * 2 ^ 53)) (i * 2 ^ 53))

  pub halved : (root rest : ℕ) → Is (m * 2 ^ (1 + w % 2) % 2 ^ 64) root rest → 2 * root + rest ≡ 2 * root_of N + rest_of (root_of N) N
  halved root rest h = let g = subst (λ (i : ℕ). Is i root rest) shifted h in omega (arith, g.0, g.1)

  pub small : 2 * root_of N + rest_of (root_of N) N < 2 ^ 55
  small = let h = root_hi in let r = rest_le (root_of N) N in omega arith

  -- the rounded significand
  rounded_lo : 2 ^ 52 ≤ root_digits m w
  rounded_lo = let h = root_lo in le_trans (omega arith) (nearest-ge ((2 * root_of N + rest_of (root_of N) N) / 4) (compare ((2 * root_of N + rest_of (root_of N) N) % 4 * 2) 4))

  pub rounded_hi : root_digits m w ≤ 2 ^ 53
  rounded_hi = let h = root_hi in let r = rest_le (root_of N) N in le_trans (nearest-le ((2 * root_of N + rest_of (root_of N) N) / 4) (compare ((2 * root_of N + rest_of (root_of N) N) % 4 * 2) 4)) (omega arith)

  module _ (n : ℕ) (v : m * 2 ^ w ≡ n * 2 ^ 52) (top : w ≤ 2098) where
    under_root : n * 2 ^ 1074 ≡ N * (2 ^ (w / 2 + 484) * 2 ^ (w / 2 + 484))
    under_root =
        ap (λ (i : ℕ). n * i) (pow-add 2 52 1022) ∙ sym (mul_assoc n (2 ^ 52) (2 ^ 1022)) ∙ ap (λ (i : ℕ). i * 2 ^ 1022) (sym v)
        ∙ mul_assoc m (2 ^ w) (2 ^ 1022) ∙ ap (λ (i : ℕ). m * i) (sym (pow-add 2 w 1022))
        ∙ ap (λ (i : ℕ). m * 2 ^ i) {x = w + 1022} {y = 1 + w % 2 + 53 + (w / 2 + 484 + (w / 2 + 484))} (omega arith)
        ∙ ap (λ (i : ℕ). m * i) (pow-add 2 (1 + w % 2 + 53) (w / 2 + 484 + (w / 2 + 484)) ∙ ap (λ (i : ℕ). i * 2 ^ (w / 2 + 484 + (w / 2 + 484))) (pow-add 2 (1 + w % 2) 53))
        ∙ sym (mul_assoc m (2 ^ (1 + w % 2) * 2 ^ 53) (2 ^ (w / 2 + 484 + (w / 2 + 484))))
        ∙ ap (λ (i : ℕ). i * 2 ^ (w / 2 + 484 + (w / 2 + 484))) (sym (mul_assoc m (2 ^ (1 + w % 2)) (2 ^ 53)))
        ∙ ap (λ (i : ℕ). N * i) (pow-add 2 (w / 2 + 484) (w / 2 + 484))

    pub joined : (q : ℕ) → q ≡ root_digits m w → of_bits binary64 ((w / 2 + 485) * 2 ^ 52 % 2 ^ 64 + q) ≡ round_root binary64 (n * 2 ^ 1074)
    joined q e =
        ap (of_bits binary64) (bits q e)
        ∙ pack binary64 false q (w / 2 + 485) (le_trans (le_of_eq e) rounded_hi) (λ z. le_trans rounded_lo (le_of_eq (sym e)))
        ∙ ap (λ (i : ℕ). units binary64 false i (w / 2 + 485)) e
        ∙ ap (units binary64 false (root_digits m w)) {x = w / 2 + 485} {y = suc (w / 2 + 484)} (omega arith)
        ∙ sym (root_rounds binary64 N (w / 2 + 484) root_lo root_hi)
        ∙ ap (round_root binary64) (sym under_root)
      where
        bits : (q : ℕ) → q ≡ root_digits m w → (w / 2 + 485) * 2 ^ 52 % 2 ^ 64 + q ≡ 0 + min ((w / 2 + 485) * hid binary64 + q) (ones binary64 * hid binary64)
        bits q e = let h = rounded_hi in let m = mod-eq_of_lt {n = (w / 2 + 485) * 2 ^ 52} {m = 2 ^ 64} (omega arith) in omega arith
