-- A zero times numbers stays a zero just where all are finite, and is a NaN from then on; four such products tell of four numbers at a time. By the product's cases. Assumes nothing.
use Rattle.std.proofs.Common.{◌≡◌, ℕ, ◌+◌, ◌<◌, Bool, true, false, ◌&&◌, ◌⊎◌, List, length, drop, sym, refl, ap, ◌∙◌, subst, inl, inr, mul-pos, add-one, arith, lit<, drop-cons}
use lib.Seq.{drop-length}
use lib.Ieee.{Float, nan, inf, fin, binary64, unlike, mul, eq, of_bits}
use lib.Ieee.Scale.{finite}
use lib.Ieee.Fits.{down_pos}
use Rattle.number.specs.Arithmetic.{◌⊗◌, zero_of}
use Rattle.number.specs.Every.{every}
use Rattle.number.specs.Slice.{at, all_finite}
use Rattle.number.proofs.Tests.{and_true}
use Rattle.number.proofs.Zeros.{round_zero}

abbrev pub nought : Float
nought = of_bits binary64 0

abbrev pub clean : Float → Bool
clean x = eq x nought

-- a NaN, or a zero of either sign
abbrev pub Kept : Float → Type 0
Kept x = (x ≡ nan) ⊎ ((x ≡ zero_of false) ⊎ (x ≡ zero_of true))

kept_zero : (s : Bool) → Kept (zero_of s)
kept_zero false = inr (inl refl)
kept_zero true = inr (inr refl)

clean_zero : (s : Bool) → clean (zero_of s) ≡ true
unfolding eq of_bits
clean_zero false = refl
clean_zero true = refl

pub kept_nought : Kept nought
unfolding of_bits
kept_nought = inr (inl refl)

-- ---- one number more

abbrev More : Float → Float → Type 0
More x y = Kept (x ⊗ y) × (clean (x ⊗ y) ≡ (clean x && finite y))

more_nan : (y : Float) → More nan y
unfolding mul eq
more_nan y = (inl refl, refl)

-- a zero times a finite number
product : (s t : Bool) (n : ℕ) (d : _) → zero_of s ⊗ fin t n d ≡ zero_of (unlike s t)
unfolding mul
product s t n d = round_zero binary64 (unlike s t) _ _ (mul-pos (lit< tt) (down_pos d)) (omega arith)

more_zero : (s : Bool) (y : Float) → More (zero_of s) y
unfolding mul eq of_bits
more_zero false nan = (inl refl, refl)
more_zero true nan = (inl refl, refl)
more_zero false (inf t) = (inl refl, refl)
more_zero true (inf t) = (inl refl, refl)
more_zero s (fin t n d) =
    (subst Kept (sym (product s t n d)) (kept_zero (unlike s t)), ap clean (product s t n d) ∙ clean_zero (unlike s t) ∙ sym (ap (λ (b : Bool). b && true) (clean_zero s)))

more : (x y : Float) → Kept x → More x y
more x y (inl e) = subst (λ (z : Float). More z y) (sym e) (more_nan y)
more x y (inr (inl e)) = subst (λ (z : Float). More z y) (sym e) (more_zero false y)
more x y (inr (inr e)) = subst (λ (z : Float). More z y) (sym e) (more_zero true y)

-- ---- four numbers more

none : (b : Bool) → (b && false) ≡ false
none true = refl
none false = refl

regrouped : (a b c d e f g h r : Bool)
    → (((a && e) && (b && f) && (c && g) && (d && h)) && r) ≡ ((a && b && c && d) && (e && (f && (g && (h && r)))))
regrouped false b c d e f g h r = refl
regrouped true b c d false f g h r = sym (none (b && c && d))
regrouped true false c d true f g h r = refl
regrouped true true c d true false g h r = sym (none (c && d))
regrouped true true false d true true g h r = refl
regrouped true true true d true true false h r = sym (none d)
regrouped true true true false true true true h r = refl
regrouped true true true true true true true h r = refl

next : (s : List Float) (i j : ℕ) → i < length s → j ≡ i + 1 → all_finite (drop i s) ≡ (finite (at s i) && all_finite (drop j s))
unfolding every
next s i j h e = ap all_finite (drop-cons s i nan h) ∙ ap (λ (n : ℕ). finite (at s i) && all_finite (drop n s)) (sym (e ∙ add-one i))

-- four zeros, and what they tell with the numbers from a place on
pub record FourKept (s : List Float) (i : ℕ) (a b c d : Float) : Type 0 where
  pub first : Kept a
  pub second : Kept b
  pub third : Kept c
  pub fourth : Kept d
  pub told : ((clean a && clean b && clean c && clean d) && all_finite (drop i s)) ≡ all_finite s

three_more : (b r : Bool) → ((b && true && true && true) && r) ≡ (b && r)
three_more true r = refl
three_more false r = refl

pub started : (s : List Float) → 0 < length s → FourKept s 1 (nought ⊗ at s 0) nought nought nought
unfolding of_bits eq
started s h =
    let m = more_zero false (at s 0) in
    record {
      first = m.0;
      second = kept_nought;
      third = kept_nought;
      fourth = kept_nought;
      told =
          (λ t. (m.1 t && true && true && true) && all_finite (drop 1 s)) ∙ three_more (finite (at s 0)) (all_finite (drop 1 s)) ∙ sym (next s 0 1 h (omega arith));
    }

pub four_more : (s : List Float) (i j : ℕ) (a b c d : Float) → i + 3 < length s → j ≡ i + 4 → FourKept s i a b c d
    → FourKept s j (a ⊗ at s i) (b ⊗ at s (i + 1)) (c ⊗ at s (i + 2)) (d ⊗ at s (i + 3))
four_more s i j a b c d h e k =
    let A = more a (at s i) k.first in
    let B = more b (at s (i + 1)) k.second in
    let C = more c (at s (i + 2)) k.third in
    let D = more d (at s (i + 3)) k.fourth in
    let four = next s i (i + 1) (omega arith) (omega arith) ∙ ap (λ (z : Bool). finite (at s i) && z)
    (next s (i + 1) (i + 2) (omega arith) (omega arith) ∙ ap (λ (z : Bool). finite (at s (i + 1)) && z)
    (next s (i + 2) (i + 3) (omega arith) (omega arith) ∙ ap (λ (z : Bool). finite (at s (i + 2)) && z)
    (next s (i + 3) j (omega arith) (omega (arith, e))))) in
    record {
      first = A.0;
      second = B.0;
      third = C.0;
      fourth = D.0;
      told =
          (λ t. (A.1 t && B.1 t && C.1 t && D.1 t) && all_finite (drop j s))
          ∙ regrouped (clean a) (clean b) (clean c) (clean d) _ _ _ _ (all_finite (drop j s))
          ∙ sym (ap (λ (z : Bool). (clean a && clean b && clean c && clean d) && z) four) ∙ k.told;
    }

-- none is left
pub all_told : (s : List Float) (i : ℕ) (a b c d : Float) → i ≡ length s → FourKept s i a b c d → (clean a && clean b && clean c && clean d) ≡ all_finite s
unfolding every
all_told s i a b c d e k =
    sym (and_true (clean a && clean b && clean c && clean d))
    ∙ sym (ap (λ (l : List Float). (clean a && clean b && clean c && clean d) && all_finite l) (ap (λ (n : ℕ). drop n s) e ∙ drop-length s)) ∙ k.told
