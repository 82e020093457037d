-- Where the sign of a zero can be left open: a choice by one comparison is right but for two zeros and a NaN, and a sum that is neither a zero nor a NaN does
-- not see which zeros were added. The idea: a relation, `Near`, that leaves open a zero's sign and all of a NaN, and that choices and sums keep. Assumes nothing.
use Rattle.std.proofs.Common.{◌≡◌, ℕ, zero, suc, ◌*◌, Bool, true, false, cond, not, ◌&&◌, ◌||◌, T, eqb, ℤ, pos, sym, refl, ap, ◌∙◌, subst, eqb→eq}
use lib.Ieee.{Float, nan, inf, fin, Format, up, down}
use lib.Ieee.{lt, eq, add, is_nan}
use lib.Ieee.Fits.{up_pos, down_pos, and_l, and_r}
use Rattle.number.specs.Arithmetic.{negative, lower_of, upper_of, min_of, max_of}
use Rattle.number.proofs.Extremes.{no_digits}
use Rattle.number.proofs.Nan.{nan_is}
use Rattle.number.proofs.Zeros.{number_after, number_before, both_zeros}

-- ---- the same but for the sign of a zero, unless the first is a NaN

pub data Near : Float → Float → Type 0 where
  equal : {x y : Float} → x ≡ y → Near x y
  zeros : {x y : Float} (s t : Bool) (e d : ℤ) → x ≡ fin s zero e → y ≡ fin t zero d → Near x y
  nothing : {x y : Float} → x ≡ nan → Near x y

-- a choice by one comparison

below_nan : (y : Float) → lt y nan ≡ false
unfolding lt
below_nan nan = refl
below_nan (inf s) = refl
below_nan (fin s m e) = refl

above_nan : (y : Float) → lt nan y ≡ false
unfolding lt
above_nan y = refl

-- two equal numbers of which only the first is negative are zeros
split : (x y : Float) → T (negative x && not (negative y) && eq x y) → Near x y × Near y x
unfolding eq
split nan y t = absurd t
split (inf true) nan t = absurd t
split (inf true) (inf true) t = absurd t
split (inf true) (inf false) t = absurd t
split (inf false) y t = absurd t
split (inf true) (fin true n d) t = absurd t
split (inf true) (fin false n d) t = absurd t
split (fin true m e) nan t = absurd t
split (fin true m e) (inf true) t = absurd t
split (fin true m e) (inf false) t = absurd t
split (fin false m e) y t = absurd t
split (fin true m e) (fin true n d) t = absurd t
split (fin true m e) (fin false n d) t =
    let k = m * up e * down d in
    let l = n * up d * down e in
    let z = eqb→eq k 0 (and_r (eqb k l) (eqb k 0) t) in
    let w = eqb→eq k l (and_l (eqb k l) (eqb k 0) t) in
    let p = ap (λ (i : ℕ). fin true i e) (no_digits m (up e) (down d) (up_pos e) (down_pos d) z) in
    let q = ap (λ (i : ℕ). fin false i d) (no_digits n (up d) (down e) (up_pos d) (down_pos e) (sym w ∙ z)) in
    (zeros true false e d p q, zeros false true d e q p)

chosen : (x y : Float) (n b c : Bool) → is_nan x ≡ n → (n ≡ true → b ≡ false) → (T c → Near x y) → Near (cond b y x) (cond n y (cond (b || c) y x))
unfolding is_nan
chosen nan y n true c p q r = absurd (subst T (q (sym p)) tt)
chosen nan y n false c p q r = nothing refl
chosen (inf s) y true b c p q r = absurd (subst T (sym p) tt)
chosen (fin s m e) y true b c p q r = absurd (subst T (sym p) tt)
chosen (inf s) y false true c p q r = equal refl
chosen (fin s m e) y false true c p q r = equal refl
chosen (inf s) y false false true p q r = r tt
chosen (inf s) y false false false p q r = equal refl
chosen (fin s m e) y false false true p q r = r tt
chosen (fin s m e) y false false false p q r = equal refl

pub near_min : (x y : Float) → Near (lower_of x y) (min_of x y)
unfolding min_of
near_min x y = chosen x y (is_nan x) (lt y x) (negative y && not (negative x) && eq y x) refl (λ p. rw (nan_is x p) (below_nan y)) (λ t. (split y x t).1)

pub near_max : (x y : Float) → Near (upper_of x y) (max_of x y)
unfolding max_of
near_max x y = chosen x y (is_nan x) (lt x y) (negative x && not (negative y) && eq x y) refl (λ p. rw (nan_is x p) (above_nan y)) (λ t. (split x y t).0)

-- ---- a sum

add_nan : (f : Format) (x : Float) → add f x nan ≡ nan
unfolding add
add_nan f nan = refl
add_nan f (inf s) = refl
add_nan f (fin s m e) = refl

zero_to : (f : Format) (x : Float) (s t : Bool) (e d : ℤ) → Near (add f x (fin s zero e)) (add f x (fin t zero d))
unfolding add
zero_to f nan s t e d = nothing refl
zero_to f (inf r) s t e d = equal refl
zero_to f (fin r zero i) s t e d = zeros (r && s) (r && t) (pos 0) (pos 0) (both_zeros f r s i e) (both_zeros f r t i d)
zero_to f (fin r (suc m) i) s t e d = equal (number_before f r s m i e ∙ sym (number_before f r t m i d))

to_zero : (f : Format) (y : Float) (s t : Bool) (e d : ℤ) → Near (add f (fin s zero e) y) (add f (fin t zero d) y)
unfolding add
to_zero f nan s t e d = nothing refl
to_zero f (inf r) s t e d = equal refl
to_zero f (fin r zero i) s t e d = zeros (s && r) (t && r) (pos 0) (pos 0) (both_zeros f s r e i) (both_zeros f t r d i)
to_zero f (fin r (suc n) i) s t e d = equal (number_after f r s n i e ∙ sym (number_after f r t n i d))

pub near_add : (f : Format) {x x' y y' : Float} → Near x x' → Near y y' → Near (add f x y) (add f x' y')
unfolding add
near_add f {x} {x'} {y} {y'} (nothing p) g = nothing {x = add f x y} (rw p)
near_add f {x} {x'} {y} {y'} (equal p) (nothing q) = nothing (ap (add f x) q ∙ add_nan f x)
near_add f {x} {x'} {y} {y'} (zeros s t e d p r) (nothing q) = nothing (ap (add f x) q ∙ add_nan f x)
near_add f {x} {x'} {y} {y'} (equal p) (equal q) = equal (λ i. add f (p i) (q i))
near_add f {x} {x'} {y} {y'} (equal p) (zeros s t e d q r) = rw (← p, q, r) (zero_to f x s t e d)
near_add f {x} {x'} {y} {y'} (zeros s t e d p r) (equal q) = rw (p, r, ← q) (to_zero f y s t e d)
near_add f {x} {x'} {y} {y'} (zeros s t e d p r) (zeros s' t' e' d' p' r') =
    zeros {x = add f x y} {y = add f x' y'} (s && s') (t && t') (pos 0) (pos 0) (rw (p, p') (both_zeros f s s' e e')) (rw (r, r') (both_zeros f t t' d d'))
