-- A root that is rounded needs one digit more than the format keeps, and to know whether anything is left: the search may stop there.
-- With T a power of two, the root of N * T * T lies from T times the whole root r of N to below T times r + 1, and where it is not T * r it rounds
-- as r and a half does. Assumes nothing.
use Rattle.std.proofs.Common.{◌≡◌, ℕ, suc, ◌+◌, ◌-◌, ◌*◌, ◌^◌, ◌<◌, ◌≤◌, Bool, true, false, cond, not, T, ltb, sym, refl, ap, ◌∙◌, inl, inr, le_trans, le_of_eq, lt_of_lt_of_le, lt_of_le_of_lt, mul-le-mul_right, zero-lt-suc, eq-or-lt_of_le, mul-lt-mul_of_pos_right, mul-pos, arith, ltb→lt, nltb→le, pow_pos, pow-add}
use native.Mathlib.Nat.{pow-succ'}
use lib.Ieee.{Format, binary32, binary64, prec, low, units}
use lib.Ieee.Nearest.{closest, closest_same}
use Rattle.number.specs.Root.{root_of, rest_of, round_root}
use Rattle.number.proofs.Rounding.{round_at, closest_between}
use Rattle.number.proofs.WholeRoot.{root_le, root_lt, root_scaled}

-- ---- the rest is 0 at a square and 1 elsewhere
pub rest_none : (r n : ℕ) → r * r ≡ n → rest_of r n ≡ 0
rest_none r n e = go (ltb (r * r) n) (ltb→lt (r * r) n)
  where
    go : (b : Bool) → (T b → r * r < n) → ◌≡◌ {A = ℕ} (cond b 1 0) 0
    go true l = absurd (let z = l tt in omega arith)
    go false l = refl

pub rest_some : (r n : ℕ) → r * r < n → rest_of r n ≡ 1
rest_some r n l = go (ltb (r * r) n) (nltb→le (r * r) n)
  where
    go : (b : Bool) → (T (not b) → n ≤ r * r) → ◌≡◌ {A = ℕ} (cond b 1 0) 1
    go true g = refl
    go false g = absurd (let z = g tt in omega arith)

pub rest_le : (r n : ℕ) → rest_of r n ≤ 1
rest_le r n = go (ltb (r * r) n)
  where
    go : (b : Bool) → cond b 1 0 ≤ 1
    go true = omega arith
    go false = omega arith

-- ---- the scaled number's root, with its half
module _ (N t : ℕ) (t0 : 0 < t) where
  abbrev S : ℕ
  S = N * (t * t)

  abbrev A : ℕ
  A = 2 * root_of S + rest_of (root_of S) S

  abbrev r : ℕ
  r = root_of N

  scaled : (r * t ≤ root_of S) × (root_of S < suc r * t) × (N ≡ r * r → root_of S ≡ r * t)
  scaled = root_scaled N r t t0 (root_le N) (root_lt N)

  pub least : 2 * r * t ≤ A
  least = let h = scaled.0 in omega arith

  pub most : A < 2 * suc r * t
  most = let h = scaled.1 in let g = rest_le (root_of S) S in omega arith

  squares : (a : ℕ) → a * t * (a * t) ≡ a * a * (t * t)
  squares a = omega arith

  at_square : r * r ≡ N → A ≡ 2 * (r * t)
  at_square e =
      let q = scaled.2 (sym e) in
      let z : root_of S * root_of S ≡ S = ap (λ (i : ℕ). i * i) q ∙ squares r ∙ ap (λ (i : ℕ). i * (t * t)) e in
      let n = rest_none (root_of S) S z in
      omega arith

  past_square : r * r < N → 2 * r * t < A
  past_square l = elim (eq-or-lt_of_le scaled.0) [
    | inl e ↦
        let z : root_of S * root_of S < S =
        lt_of_le_of_lt (le_of_eq (ap (λ (i : ℕ). i * i) (sym e) ∙ squares r)) (mul-lt-mul_of_pos_right l (mul-pos t0 t0)) in
        let n = rest_some (root_of S) S z in
        omega arith
    | inr g ↦ omega arith
  ]

  pub rounds_as : closest A (4 * t) ≡ closest (2 * r + rest_of r N) 4
  rounds_as = elim (eq-or-lt_of_le (root_le N)) [
    | inl e ↦
        ap (λ (i : ℕ). closest i (4 * t)) (at_square e)
        ∙ closest_same (2 * (r * t)) (4 * t) (2 * r + 0) 4 (mul-pos (zero-lt-suc 3) t0) (zero-lt-suc 3) (regroup r t)
        ∙ ap (λ (i : ℕ). closest (2 * r + i) 4) (sym (rest_none r N e))
    | inr l ↦ closest_between r t A t0 (past_square l) most ∙ ap (λ (i : ℕ). closest (2 * r + i) 4) (sym (rest_some r N l))
  ]
    where
      regroup : (a b : ℕ) → 2 * (a * b) * 4 ≡ (2 * a + 0) * (4 * b)
      regroup a b = omega arith

-- ---- the rounded root, from a whole root with one digit more than the format keeps
module _ (f : Format) (N j : ℕ) (lo : 2 ^ prec f ≤ root_of N) (hi : root_of N < 2 ^ suc (prec f)) where
  abbrev half : ℕ
  half = A N (2 ^ j) (pow_pos j)

  enough : 2 * 2 ^ (prec f - 1 + suc j) ≤ half
  enough = le_trans (le_of_eq (ap (λ (i : ℕ). 2 * 2 ^ i) (digits f) ∙ ap (λ (i : ℕ). 2 * i) (pow-add 2 (prec f) j)))
      (le_trans (scale (2 ^ prec f) (root_of N) (2 ^ j) lo) (least N (2 ^ j) (pow_pos j)))
    where
      digits : (f : Format) → prec f - 1 + suc j ≡ prec f + j
      digits binary32 = omega arith
      digits binary64 = omega arith

      scale : (a b c : ℕ) → a ≤ b → 2 * (a * c) ≤ 2 * b * c
      scale a b c h = let m = mul-le-mul_right c h in omega arith

  not_more : half < 2 * 2 ^ (prec f + suc j)
  not_more = lt_of_lt_of_le (most N (2 ^ j) (pow_pos j)) (le_trans (scale (suc (root_of N)) (2 ^ suc (prec f)) (2 ^ j) hi)
      (le_of_eq (ap (λ (i : ℕ). 2 * i) (sym (pow-add 2 (suc (prec f)) j)) ∙ ap (λ (i : ℕ). 2 * 2 ^ i) (moved (prec f) j))))
    where
      scale : (a b c : ℕ) → a ≤ b → 2 * a * c ≤ 2 * (b * c)
      scale a b c h = let m = mul-le-mul_right c h in omega arith

      moved : (a b : ℕ) → suc a + b ≡ a + suc b
      moved a b = omega arith

  pub root_rounds : round_root f (N * (2 ^ j * 2 ^ j)) ≡ units f false (closest (2 * root_of N + rest_of (root_of N) N) 4) (suc j)
  unfolding round_root
  root_rounds =
      round_at f false half (2 * 2 ^ low f) (suc j) (mul-pos (zero-lt-suc 1) (pow_pos (low f)))
      (λ z. at_least (2 ^ (prec f - 1 + suc j)) (2 ^ low f) half enough)
      (below (2 ^ (prec f + suc j)) (2 ^ low f) half (pow_pos (low f)) not_more)
      ∙ ap (λ (i : ℕ). units f false i (suc j))
      (closest_same (half * 2 ^ low f) (2 * 2 ^ low f * 2 ^ suc j) half (4 * 2 ^ j)
      (mul-pos (mul-pos (zero-lt-suc 1) (pow_pos (low f))) (pow_pos (suc j))) (mul-pos (zero-lt-suc 3) (pow_pos j))
      (ap (λ (i : ℕ). half * 2 ^ low f * i) (four (2 ^ j) ∙ ap (λ (i : ℕ). 2 * i) (sym (pow-succ' 2 j))) ∙ regroup half (2 ^ low f) (2 ^ suc j))
      ∙ rounds_as N (2 ^ j) (pow_pos j))
    where
      at_least : (p l a : ℕ) → 2 * p ≤ a → p * (2 * l) ≤ a * l
      at_least p l a h = let m = mul-le-mul_right l h in omega arith

      below : (p l a : ℕ) → 0 < l → a < 2 * p → a * l < p * (2 * l)
      below p l a L h = let m = mul-lt-mul_of_pos_right h L in omega arith

      four : (a : ℕ) → 4 * a ≡ 2 * (2 * a)
      four a = omega arith

      regroup : (a l k : ℕ) → a * l * (2 * k) ≡ a * (2 * l * k)
      regroup a l k = omega arith
