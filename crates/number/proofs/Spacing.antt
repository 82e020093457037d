-- The values of a format lie on grids: in the format's smallest values, and whatever k is, each is a multiple of 2 ^ k or has fewer than all the format's
-- digits of that unit. The idea: it is m * 2 ^ j with m of at most the format's digits, and j is at least k or less. Assumes nothing.
use Rattle.std.proofs.Common.{◌≡◌, ℕ, zero, suc, ◌+◌, ◌-◌, ◌*◌, ◌%◌, ◌^◌, ◌<◌, ◌≤◌, Bool, false, ◌&&◌, T, eqb, ltb, leb, ◌⊎◌, ℤ, pos, negsuc, sym, ap, ◌∙◌, inl, inr, lt_of_lt_of_le, le_of_suc-le-suc, mul_assoc, mul-lt-mul_of_pos_right, one-mul, lt_of_not-le, mul-one, not-le_of_lt, arith, ltb→lt, leb→le, pow_pos, pow_mono, pow-add}
use native.Mathlib.Nat.{eq_of_mul-eq-mul_right}
use native.Mathlib.Decide.{dec_lt}
use lib.Pow.{pow-lt}
use lib.Ieee.{Float, nan, inf, fin, Format, prec, emax, low, up, down, fits}
use lib.Ieee.Exact.{HasValue}
use lib.Ieee.Fits.{two, two-le_pos, down_pos, and_l, and_r}

-- a multiple of u, or less than b of them
abbrev pub Spaced : ℕ → ℕ → ℕ → Type 0
Spaced b u Z = ((c : ℕ) × (Z ≡ c * u)) ⊎ (Z < b * u)

fewer : (p j k : ℕ) → 0 < p → j < k → p + j ≤ p - 1 + k
fewer p j k P h = omega arith

join : (j k : ℕ) → k ≤ j → j ≡ j - k + k
join j k h = omega arith

-- m * 2 ^ j, with m of at most p digits
spaced : (p k m j : ℕ) → 0 < p → m < 2 ^ p → Spaced (2 ^ (p - 1)) (2 ^ k) (m * 2 ^ j)
spaced p k m j P h = go (dec_lt j k)
  where
    go : Dec (j < k) → Spaced (2 ^ (p - 1)) (2 ^ k) (m * 2 ^ j)
    go (yes l) =
        let more : 2 ^ p * 2 ^ j ≤ 2 ^ (p - 1) * 2 ^ k = simp (← pow-add) (pow_mono (fewer p j k P l)) in
        inr (lt_of_lt_of_le (mul-lt-mul_of_pos_right h (pow_pos j)) more)
    go (no n) =
        let split : 2 ^ j ≡ 2 ^ (j - k) * 2 ^ k = ap (λ (i : ℕ). 2 ^ i) (join j k (omega arith)) ∙ pow-add 2 (j - k) k in
        inl (m * 2 ^ (j - k), ap (λ (x : ℕ). m * x) split ∙ sym (mul_assoc m (2 ^ (j - k)) (2 ^ k)))

-- what `fits` says of a number above zero
pub record Fits (f : Format) (m : ℕ) (e : ℤ) : Type 0 where
  pub digits : m < 2 ^ prec f
  pub least : down e ≤ 2 ^ low f
  pub most : m * up e < 2 ^ suc (emax f) * down e

pub fits_facts : (f : Format) (s : Bool) (m : ℕ) (e : ℤ) → T (fits f (fin s (suc m) e)) → Fits f (suc m) e
unfolding fits
fits_facts f s m e t =
    let a : Bool = eqb (suc m % 2) 1 in
    let b : Bool = ltb (suc m) (2 ^ prec f) in
    let c : Bool = leb (down e) (2 ^ low f) in
    let d : Bool = ltb (suc m * up e) (2 ^ suc (emax f) * down e) in
    let abc = and_l (a && b && c) d t in
    record {
      digits = ltb→lt (suc m) (2 ^ prec f) (and_r a b (and_l (a && b) c abc));
      least = leb→le (down e) (2 ^ low f) (and_r (a && b) c abc);
      most = ltb→lt (suc m * up e) (2 ^ suc (emax f) * down e) (and_r (a && b && c) d t);
    }

pow_le : (i j : ℕ) → 2 ^ i ≤ 2 ^ j → i ≤ j
pow_le i j h = le_of_suc-le-suc (lt_of_not-le (λ (g : suc j ≤ i). not-le_of_lt (pow-lt g) h))

-- 2 ^ e, if it is no smaller than 2 ^ -l, is 2 ^ j of those
pub in_units : (l : ℕ) (e : ℤ) → down e ≤ 2 ^ l → (j : ℕ) × (up e * 2 ^ l ≡ 2 ^ j * down e)
in_units l (pos k) h = (k + l, sym (mul-one (2 ^ (k + l)) ∙ pow-add 2 k l))
in_units l (negsuc k) h = (
  l - suc k,
  one-mul (2 ^ l) ∙ ap (λ (i : ℕ). 2 ^ i) (join l (suc k) (pow_le (suc k) l h)) ∙ pow-add 2 (l - suc k) (suc k),
)

none : (Z u l d t : ℕ) → 0 * u * l ≡ Z * d → Z * d ≡ 0 * t * d
none Z u l d t h = omega arith

times : (m u l j d Z : ℕ) → u * l ≡ j * d → m * u * l ≡ Z * d → Z * d ≡ m * j * d
times m u l j d Z e v = sym v ∙ mul_assoc m u l ∙ ap (λ (x : ℕ). m * x) e ∙ sym (mul_assoc m j d)

-- Whatever k is, a value is a multiple of 2 ^ k smallest values, or has fewer than all digits of that unit.
pub value_spaced : (f : Format) (k : ℕ) (z : Float) (Z : ℕ) → T (fits f z) → HasValue z false Z (2 ^ low f)
    → Spaced (2 ^ (prec f - 1)) (2 ^ k) Z
value_spaced f k nan Z t v = absurd v
value_spaced f k (inf s) Z t v = absurd v
value_spaced f k (fin s zero e) Z t v =
    inl (0, eq_of_mul-eq-mul_right (down e) (down_pos e) Z (0 * 2 ^ k) (none Z (up e) (2 ^ low f) (down e) (2 ^ k) v.1))
value_spaced f k (fin s (suc m) e) Z t v =
    let h = fits_facts f s m e t in
    let (j, w) = in_units (low f) e h.least in
    let is : Z ≡ suc m * 2 ^ j =
    eq_of_mul-eq-mul_right (down e) (down_pos e) Z (suc m * 2 ^ j) (times (suc m) (up e) (2 ^ low f) (2 ^ j) (down e) Z w v.1) in
    rw is (spaced (prec f) k (suc m) j (two-le_pos (prec f) (two f)) h.digits)
