-- With the sign's bit taken off, the bits of a number are those of its magnitude. Assumes nothing.
use Rattle.std.proofs.Common.{◌≡◌, ℕ, zero, suc, ◌+◌, ◌-◌, ◌*◌, ◌%◌, ◌^◌, ◌<◌, Bool, true, false, not, T, ℤ, sym, refl, ap, ◌∙◌, subst, mod-eq_of_lt, arith}
use native.Mathlib.Nat.{add-mod_left}
use lib.Bits.{bit_and, and_mask}
use lib.Ieee.{Float, nan, inf, fin, Format, binary64, fits, is_nan, to_bits, of_bits, nan_bits, top}
use lib.Ieee.Bits.{to_bits-lt, of_bits-to_bits, nan_bits_is}
use Rattle.number.specs.Arithmetic.{abs_of}

fits_signless : (f : Format) (s t : Bool) (m : ℕ) (e : ℤ) → T (fits f (fin s m e)) → T (fits f (fin t m e))
unfolding fits
fits_signless f s t zero e h = h
fits_signless f s t (suc m) e h = h

bits_fin : (f : Format) (s : Bool) (m : ℕ) (e : ℤ) → T (fits f (fin s m e)) → to_bits f (fin s m e) % top f ≡ to_bits f (fin false m e)
unfolding to_bits
bits_fin f s m e h = go s (to_bits-lt f (fin true m e) (fits_signless f s true m e h))
  where
    go : (s : Bool) → to_bits f (fin true m e) < 2 * top f → to_bits f (fin s m e) % top f ≡ to_bits f (fin false m e)
    go true l = over (top f) _ _ l
      where
        over : (t k n : ℕ) → t + k + n < 2 * t → (t + k + n) % t ≡ 0 + k + n
        over t k n h =
            ap (λ (x : ℕ). x % t) {x = t + k + n} {y = t + (k + n)} (omega arith) ∙ add-mod_left t (k + n) ∙ mod-eq_of_lt (omega arith) ∙ omega arith
    go false l = under (top f) _ _ l
      where
        under : (t k n : ℕ) → t + k + n < 2 * t → (0 + k + n) % t ≡ 0 + k + n
        under t k n h = mod-eq_of_lt (omega arith)

bits_inf : (s : Bool) → to_bits binary64 (inf s) % top binary64 ≡ to_bits binary64 (inf false)
unfolding to_bits
bits_inf true = refl
bits_inf false = refl

bits_of : (x : Float) → T (fits binary64 x) → is_nan x ≡ false → to_bits binary64 x % top binary64 ≡ to_bits binary64 (abs_of x)
unfolding abs_of is_nan
bits_of nan h k = absurd (subst T k tt)
bits_of (inf s) h k = bits_inf s
bits_of (fin s m e) h k = bits_fin binary64 s m e h

pub abs_fits : (x : Float) → T (fits binary64 x) → T (fits binary64 (abs_of x))
unfolding abs_of fits
abs_fits nan h = h
abs_fits (inf s) h = h
abs_fits (fin s m e) h = fits_signless binary64 s false m e h

pub abs_number : (x : Float) → is_nan x ≡ false → is_nan (abs_of x) ≡ false
unfolding abs_of is_nan
abs_number nan h = h
abs_number (inf s) h = refl
abs_number (fin s m e) h = refl

module _ (x : Float) (h : T (fits binary64 x)) (n : is_nan x ≡ false) where
  pub masked : of_bits binary64 (bit_and (to_bits binary64 x) (2 ^ 63 - 1)) ≡ abs_of x
  masked = ap (of_bits binary64) (and_mask (to_bits binary64 x) 63 ∙ bits_of x h n) ∙ of_bits-to_bits binary64 (abs_of x) (abs_fits x h)

  pub masked_number : T (not (nan_bits binary64 (bit_and (to_bits binary64 x) (2 ^ 63 - 1))))
  masked_number = subst (λ (b : Bool). T (not b)) (sym (nan_bits_is binary64 _ ∙ ap is_nan masked ∙ abs_number x n)) tt

pub nan_abs : (x : Float) → x ≡ nan → nan ≡ abs_of x
unfolding abs_of
nan_abs x e = sym (ap abs_of e)
