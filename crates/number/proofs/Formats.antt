-- A value that a format holds is rounded to itself, so a value of binary32 is narrowed to itself. And narrowing always gives a value of binary32.
-- The idea: in the format's smallest values such a number is m * 2 ^ j, whose digits the format keeps, so rounding leaves the value as it is.
-- And of the values that a format holds only one has that sign and size, for the two settle its bits. Assumes nothing.
use Rattle.std.proofs.Common.{◌≡◌, ℕ, zero, suc, ◌+◌, ◌*◌, ◌^◌, ◌<◌, Bool, T, ℤ, sym, refl, ap, ◌∙◌, mul_assoc, mul_comm, lt_of_mul-lt-mul_right, mul-lt-mul_of_pos_right, mul_right_comm, arith, pow_pos, pow-add}
use lib.Ieee.{Float, nan, inf, fin, Format, binary32, prec, emax, low, up, down, round, fits, of_bits}
use lib.Ieee.Bits.{of_bits-to_bits}
use lib.Ieee.Exact.{HasValue, round_exact}
use lib.Ieee.Fits.{down_pos, round-fits, nan-fits, inf-fits}
use lib.Ieee.Scale.{round_same}
use Rattle.number.specs.Format.{narrow_of}
use Rattle.number.proofs.Spacing.{fits_facts, in_units}
use Rattle.number.proofs.Pack.{value_bits}

-- Two values of a format that have one sign and one size have the same bits, so they are the same.
pub value_unique : (f : Format) (x y : Float) (s : Bool) (n : ℕ) → T (fits f x) → T (fits f y)
    → HasValue x s n (2 ^ low f) → HasValue y s n (2 ^ low f) → x ≡ y
value_unique f x y s n p q v w =
    sym (of_bits-to_bits f x p) ∙ ap (of_bits f) (value_bits f x s n v ∙ sym (value_bits f y s n w)) ∙ of_bits-to_bits f y q

-- A value that is m * 2 ^ j smallest values, with the bounds that rounding asks for to be exact, is rounded to itself.
kept : (f : Format) (s : Bool) (m : ℕ) (e : ℤ) (j : ℕ) → T (fits f (fin s m e)) → m < 2 ^ prec f → m * 2 ^ j < 2 ^ (low f + suc (emax f))
    → m * up e * 2 ^ low f ≡ m * 2 ^ j * down e → round f s (m * up e) (down e) ≡ fin s m e
kept f s m e j t small fine v =
    let n = m * 2 ^ j in
    let l = 2 ^ low f in
    round_same f s (m * up e) (down e) n l (down_pos e) (pow_pos (low f)) v
    ∙ value_unique f (round f s n l) (fin s m e) s n (round-fits f s n l) t (round_exact f s n l m j (pow_pos (low f)) small fine refl) (refl, v)

-- A bound on m * u over d is one on m * j over l, where u over d is j over l.
pub bound : (m u d j l o : ℕ) → 0 < l → m * u * l ≡ m * j * d → m * u < o * d → m * j < l * o
bound m u d j l o L v h = lt_of_mul-lt-mul_right d (rw (← v, mul_comm l o, mul_right_comm o l d) (mul-lt-mul_of_pos_right h L))

-- A value of a format is rounded to itself.
pub round_self : (f : Format) (s : Bool) (m : ℕ) (e : ℤ) → T (fits f (fin s m e)) → round f s (m * up e) (down e) ≡ fin s m e
round_self f s zero e t = kept f s 0 e 0 t (pow_pos (prec f)) (pow_pos (low f + suc (emax f))) (omega arith)
round_self f s (suc m) e t =
    let h = fits_facts f s m e t in
    let (j, w) = in_units (low f) e h.least in
    let v : suc m * up e * 2 ^ low f ≡ suc m * 2 ^ j * down e =
    mul_assoc (suc m) (up e) (2 ^ low f) ∙ ap (λ (i : ℕ). suc m * i) w ∙ sym (mul_assoc (suc m) (2 ^ j) (down e)) in
    let fine : suc m * 2 ^ j < 2 ^ (low f + suc (emax f)) =
    rw (pow-add 2 (low f) (suc (emax f))) (bound (suc m) (up e) (down e) (2 ^ j) (2 ^ low f) (2 ^ suc (emax f)) (pow_pos (low f)) v h.most) in
    kept f s (suc m) e j t h.digits fine v

-- A value of binary32 is narrowed to itself.
pub narrow_same : (x : Float) → T (fits binary32 x) → narrow_of x ≡ x
unfolding narrow_of
narrow_same nan t = refl
narrow_same (inf s) t = refl
narrow_same (fin s m e) t = round_self binary32 s m e t

-- Narrowing gives a value of binary32.
pub narrow_fits : (x : Float) → T (fits binary32 (narrow_of x))
unfolding narrow_of
narrow_fits nan = nan-fits binary32
narrow_fits (inf s) = inf-fits binary32 s
narrow_fits (fin s m e) = round-fits binary32 s (m * up e) (down e)
