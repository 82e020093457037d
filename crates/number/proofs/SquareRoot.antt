-- The square root of a number, by what its value is. Assumes nothing.
use Rattle.std.proofs.Common.{◌≡◌, ℕ, zero, suc, ◌+◌, ◌*◌, ◌/◌, ◌^◌, ◌<◌, Bool, true, false, cond, sym, refl, ap, ◌∙◌, subst, lt_irrefl, zero-lt-suc, mul-pos, zero-mul, mul-div_cancel, arith, pow_pos}
use lib.Ieee.{Float, nan, inf, fin, Format, low, up, down, is_nan}
use lib.Ieee.Exact.{HasValue}
use lib.Ieee.Fits.{up_pos, down_pos, round_is}
use Rattle.number.specs.Root.{root_of, rest_of, round_root, sqrt_of}
use Rattle.number.proofs.Pack.{units_number}

zero_of : (m u l n d : ℕ) → 0 < u → 0 < l → m * u * l ≡ n * d → n ≡ 0 → m ≡ 0
zero_of zero u l n d U L e z = refl
zero_of (suc m) u l n d U L e z =
    absurd (lt_irrefl 0 (subst (λ (i : ℕ). 0 < i) (e ∙ ap (λ (i : ℕ). i * d) z ∙ zero-mul d) (mul-pos (mul-pos (zero-lt-suc m) U) L)))

-- a zero is its own root
pub sqrt_zero : (f : Format) (x : Float) (s : Bool) → HasValue x s 0 (2 ^ low f) → sqrt_of f x ≡ x
unfolding sqrt_of
sqrt_zero f nan s h = absurd h
sqrt_zero f (inf t) s h = absurd h
sqrt_zero f (fin t zero e) s h = refl
sqrt_zero f (fin t (suc m) e) s h = absurd (never (zero_of (suc m) (up e) (2 ^ low f) 0 (down e) (up_pos e) (pow_pos (low f)) h.1 refl))
  where
    never : suc m ≡ 0 → ⊥
    never z = omega arith

-- what is below zero has no root
pub sqrt_negative : (f : Format) (x : Float) (n : ℕ) → 0 < n → HasValue x true n (2 ^ low f) → sqrt_of f x ≡ nan
unfolding sqrt_of
sqrt_negative f nan n p h = refl
sqrt_negative f (inf t) n p h = absurd h
sqrt_negative f (fin t zero e) n p h = absurd (lt_irrefl 0 (subst (λ (i : ℕ). 0 < i) (sym h.1 ∙ ap (λ (i : ℕ). i * 2 ^ low f) (zero-mul (up e)) ∙ zero-mul (2 ^ low f)) (mul-pos p (down_pos e))))
sqrt_negative f (fin t (suc m) e) n p h = ap (λ (b : Bool). cond b nan (round_root f (suc m * up e * 2 ^ low f / down e * 2 ^ low f))) h.0

-- the root of n smallest values
pub sqrt_value : (f : Format) (x : Float) (n : ℕ) → 0 < n → HasValue x false n (2 ^ low f) → sqrt_of f x ≡ round_root f (n * 2 ^ low f)
unfolding sqrt_of
sqrt_value f nan n p h = absurd h
sqrt_value f (inf t) n p h = absurd h
sqrt_value f (fin t zero e) n p h = absurd (lt_irrefl 0 (subst (λ (i : ℕ). 0 < i) (sym h.1 ∙ ap (λ (i : ℕ). i * 2 ^ low f) (zero-mul (up e)) ∙ zero-mul (2 ^ low f)) (mul-pos p (down_pos e))))
sqrt_value f (fin t (suc m) e) n p h =
    ap (λ (b : Bool). cond b nan (round_root f (suc m * up e * 2 ^ low f / down e * 2 ^ low f))) h.0
    ∙ ap (λ (i : ℕ). round_root f (i * 2 ^ low f)) (ap (λ (i : ℕ). i / down e) h.1 ∙ mul-div_cancel n (down_pos e))

pub sqrt_inf : (f : Format) (x : Float) (s : Bool) → x ≡ inf s → sqrt_of f x ≡ cond s nan (inf false)
unfolding sqrt_of
sqrt_inf f x s e = ap (sqrt_of f) e

pub sqrt_nan : (f : Format) (x : Float) → x ≡ nan → sqrt_of f x ≡ x
unfolding sqrt_of
sqrt_nan f x e = ap (sqrt_of f) e ∙ sym e

-- a rounded root is a number
pub root_number : (f : Format) (s : ℕ) → is_nan (round_root f s) ≡ false
unfolding round_root
root_number f s = ap is_nan (round_is f false (2 * root_of s + rest_of (root_of s) s) (2 * 2 ^ low f)) ∙ units_number f false _ _
