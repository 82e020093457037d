-- The grid's rounding gives a whole number that none is nearer than, and where another is as near, an even one.
-- The idea: it is within a half, and another whole number is at least one further off; it is just a half away only where the rule picks the even one.
use Rattle.std.proofs.Common.{◌≡◌, ℕ, suc, ◌+◌, ◌*◌, ◌/◌, ◌%◌, ◌<◌, ◌≤◌, Bool, true, false, cond, not, T, ltb, ◌⊎◌, inl, inr, le_refl, mul-le-mul_right, mod-lt, div-add-mod', arith, ltb→lt, nltb→le}
use native.Mathlib.Decide.{dec_lt}
use Rattle.number.specs.Grid.{whole_nearest, apart, RoundsToEven}
use Rattle.number.proofs.Centimetres.{whole_near}

module _ (a b : ℕ) (B : 0 < b) where
  -- just a half away
  abbrev Half : ℕ → Type 0
  Half n = (2 * (n * b) ≡ 2 * a + b) ⊎ (2 * a ≡ 2 * (n * b) + b)

  half_even : Half (whole_nearest a b) → whole_nearest a b % 2 ≡ 0
  half_even = go (ltb (a % b * 2) b) (ltb b (a % b * 2)) (a / b) (a % b) (div-add-mod' a b) (mod-lt a B) (ltb→lt (a % b * 2) b) (nltb→le (a % b * 2) b)
      (ltb→lt b (a % b * 2))
    where
      go : (l g : Bool) (q r : ℕ) → q * b + r ≡ a → r < b → (T l → r * 2 < b) → (T (not l) → b ≤ r * 2) → (T g → b < r * 2)
          → Half (cond l q (cond g (q + 1) (q + q % 2))) → cond l q (cond g (q + 1) (q + q % 2)) % 2 ≡ 0
      go true g q r e k h i j (inl t) = absurd (let z = h tt in omega arith)
      go true g q r e k h i j (inr t) = absurd (let z = h tt in omega arith)
      go false true q r e k h i j (inl t) = absurd (let z = j tt in omega arith)
      go false true q r e k h i j (inr t) = absurd (let z = j tt in omega arith)
      go false false q r e k h i j t = omega arith

  -- the next whole number, and all beyond it, are at least b further
  beyond : (m n : ℕ) → m < n → m * b + b ≤ n * b
  beyond m n h = let z : suc m * b ≤ n * b = mul-le-mul_right b h in omega arith

  module _ (n : ℕ) (low : 2 * a ≤ 2 * (n * b) + b) (high : 2 * (n * b) ≤ 2 * a + b) where
    nearer : (m : ℕ) → apart a (n * b) ≤ apart a (m * b)
    nearer m = elim (dec_lt m n) [
      | yes l ↦ let z = beyond m n l in omega arith
      | no k ↦ elim (dec_lt n m) [
        | yes g ↦ let z = beyond n m g in omega arith
        | no i ↦ let e : m ≡ n = omega arith in rw e (le_refl (apart a (n * b)))
      ]
    ]

    as_near : (m : ℕ) → apart a (n * b) ≡ apart a (m * b) → (m ≡ n) ⊎ Half n
    as_near m e = elim (dec_lt m n) [
      | yes l ↦ let z = beyond m n l in inr (inl (omega arith))
      | no k ↦ elim (dec_lt n m) [
        | yes g ↦ let z = beyond n m g in inr (inr (omega arith))
        | no i ↦ inl (omega arith)
      ]
    ]

pub rounds_to_even : RoundsToEven
rounds_to_even a b B =
    let n = whole_nearest a b in
    let h = whole_near a b B in
    record {
      nearest = nearer a b B n h.0 h.1;
      even = λ m e. elim (as_near a b B n h.0 h.1 m e) [
        | inl s ↦ inl s
        | inr t ↦ inr (half_even a b B t)
      ];
    }
