-- What the tests x != x and 0.0 / 0.0 say, and what the constants are. Assumes nothing.
use Rattle.std.proofs.Common.{◌≡◌, Bool, true, false, not, T, sym, refl, subst}
use lib.Ieee.{Float, nan, inf, fin, binary32, binary64, is_nan, ne, eq, div, of_bits}
use lib.Ieee.Compare.{differs_from_itself}

pub is_nan_lem : (x : Float) → ne x x ≡ true → x ≡ nan
is_nan_lem x t = differs_from_itself x (subst T (sym t) tt)

pub not_nan : (x : Float) → ne x x ≡ false → is_nan x ≡ false
unfolding is_nan ne eq
not_nan nan t = t
not_nan (inf s) t = refl
not_nan (fin s m e) t = refl

pub number : (x : Float) → is_nan x ≡ false → T (not (is_nan x))
number x e = subst (λ (b : Bool). T (not b)) (sym e) tt

pub zero_by_zero : div binary64 (of_bits binary64 0) (of_bits binary64 0) ≡ nan
unfolding div of_bits
zero_by_zero = refl

pub zero_by_zero_32 : div binary32 (of_bits binary32 0) (of_bits binary32 0) ≡ nan
unfolding div of_bits
zero_by_zero_32 = refl

-- the constants f64::NAN and f32::NAN
pub nan_constant : of_bits binary64 0x7ff8_0000_0000_0000 ≡ nan
unfolding of_bits
nan_constant = refl

pub nan_constant_32 : of_bits binary32 0x7fc0_0000 ≡ nan
unfolding of_bits
nan_constant_32 = refl

pub nan_is : (x : Float) → is_nan x ≡ true → x ≡ nan
unfolding is_nan
nan_is nan p = refl
nan_is (inf s) p = absurd (subst T (sym p) tt)
nan_is (fin s m e) p = absurd (subst T (sym p) tt)
