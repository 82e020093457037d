-- Of two equal numbers the bits are the same but for a zero's sign, so that their bits joined, each digit where either or where both have it, are the smaller's and
-- the larger's. Assumes nothing.
use Rattle.std.proofs.Common.{◌≡◌, ℕ, Bool, true, false, cond, not, T, sym, refl, ap, ◌∙◌, subst}
use lib.Bits.{bit_and, bit_or, and_self, or_self}
use lib.Ieee.{Float, binary64, lt, eq, is_nan, to_bits, of_bits, nan_bits}
use lib.Ieee.Bits.{of_bits-to_bits, nan_bits_is}
use Rattle.number.specs.Arithmetic.{zero_of, precedes, min_of, max_of}
use Rattle.number.specs.Extremes.{Value}
use Rattle.number.proofs.Extremes.{Alike, same, zeros, alike, equal_numbers, min_number, max_number}

itself : (b c : Bool) (x : Float) → x ≡ cond b x (cond c x x)
itself true c x = refl
itself false true x = refl
itself false false x = refl

min_own : (x : Float) → min_of x x ≡ x
unfolding min_of
min_own x = sym (itself (is_nan x) (precedes x x) x)

max_own : (x : Float) → max_of x x ≡ x
unfolding max_of
max_own x = sym (itself (is_nan x) (precedes x x) x)

-- ---- the bits of equal numbers, joined

module _ (join : ℕ → ℕ → ℕ) (self : (a : ℕ) → join a a ≡ a) (pick : Float → Float → Float) (own : (x : Float) → pick x x ≡ x)
    (zero_join : (s t : Bool) → of_bits binary64 (join (to_bits binary64 (zero_of s)) (to_bits binary64 (zero_of t))) ≡ pick (zero_of s) (zero_of t))
    (number : (x y : Float) → is_nan x ≡ false → is_nan y ≡ false → is_nan (pick x y) ≡ false)
    (x y : Float) (v : Value x) (w : Value y) (h : eq x y ≡ true) where
  joined : of_bits binary64 (join (to_bits binary64 x) (to_bits binary64 y)) ≡ pick x y
  joined = by (alike x y v w (subst T (sym h) tt))
    where
      by : Alike x y → of_bits binary64 (join (to_bits binary64 x) (to_bits binary64 y)) ≡ pick x y
      by (same e) =
          subst (λ (z : Float). of_bits binary64 (join (to_bits binary64 x) (to_bits binary64 z)) ≡ pick x z) e
          (ap (of_bits binary64) (self (to_bits binary64 x)) ∙ of_bits-to_bits binary64 x v ∙ sym (own x))
      by (zeros s t p q) = rw (p, q) (zero_join s t)

  joined_number : T (not (nan_bits binary64 (join (to_bits binary64 x) (to_bits binary64 y))))
  joined_number =
      let n = equal_numbers x y h in
      subst (λ (b : Bool). T (not b)) (sym (nan_bits_is binary64 _ ∙ ap is_nan joined ∙ number x y n.0 n.1)) tt

or_zeros : (s t : Bool) → of_bits binary64 (bit_or (to_bits binary64 (zero_of s)) (to_bits binary64 (zero_of t))) ≡ min_of (zero_of s) (zero_of t)
unfolding of_bits to_bits min_of is_nan lt eq
or_zeros true true = refl
or_zeros true false = refl
or_zeros false true = refl
or_zeros false false = refl

and_zeros : (s t : Bool) → of_bits binary64 (bit_and (to_bits binary64 (zero_of s)) (to_bits binary64 (zero_of t))) ≡ max_of (zero_of s) (zero_of t)
unfolding of_bits to_bits max_of is_nan lt eq
and_zeros true true = refl
and_zeros true false = refl
and_zeros false true = refl
and_zeros false false = refl

module _ (x y : Float) (v : Value x) (w : Value y) (h : eq x y ≡ true) where
  pub min_joined : of_bits binary64 (bit_or (to_bits binary64 x) (to_bits binary64 y)) ≡ min_of x y
  min_joined = joined bit_or or_self min_of min_own or_zeros min_number x y v w h

  pub min_joined_number : T (not (nan_bits binary64 (bit_or (to_bits binary64 x) (to_bits binary64 y))))
  min_joined_number = joined_number bit_or or_self min_of min_own or_zeros min_number x y v w h

  pub max_joined : of_bits binary64 (bit_and (to_bits binary64 x) (to_bits binary64 y)) ≡ max_of x y
  max_joined = joined bit_and and_self max_of max_own and_zeros max_number x y v w h

  pub max_joined_number : T (not (nan_bits binary64 (bit_and (to_bits binary64 x) (to_bits binary64 y))))
  max_joined_number = joined_number bit_and and_self max_of max_own and_zeros max_number x y v w h
