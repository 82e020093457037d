-- Floats that are whole numbers of the grid, by a sum: a float is added to one halfway from 2 ^ 52 to 2 ^ 53, and that one is taken away again. The idea: a float between
-- these two is whole, so that what comes back is whole, and is the number itself just where that was whole. Assumes nothing.
use mathlib.Core.Path.{◌≡◌, refl, sym, ap, subst, ◌∙◌}
use mathlib.Core.Logic.{◌⊎◌, inl, inr}
use mathlib.Core.Bool.{Bool, true, false, cond, ◌&&◌, ◌||◌, beq, true≢false}
use Prim.Native.Nat.{ℕ, zero, suc, ◌+◌, ◌-◌, ◌*◌, ◌/◌, ◌%◌, ◌^◌, min, ◌≤◌, ◌<◌}
use native.Mathlib.Nat.{le_trans, mul-pos, le-div_iff_mul-le, div-lt_iff_lt-mul, eq_of_mul-eq-mul_right, eq-zero-or-pos, pow-suc}
use native.Mathlib.Omega.{arith}
use borrow.Author.Tests.{leb-true, le-leb, lt-ltb, le-ltb}
use lib.Dec.{T, lit<, lit≤, eqb, ltb, leb, eqb→eq, ltb→lt, nltb→le, le→leb, lt→ltb}
use lib.Pow.{pow_pos}
use lib.IntN.{ℤ, pos, negsuc, neg_ℤ, nat_abs}
use lib.Ieee.{Float, nan, inf, fin, binary64, up, down, round, sum, neg, add, sub, le, eq, of_int, to_signed, in_signed, in_float, fits}
use lib.Ieee.Back.{round_whole, positive_back, negative_back}
use lib.Ieee.Bits.{is_true}
use lib.Ieee.Exact.{HasValue}
use lib.Ieee.Fits.{down_pos, and_i, and_l, and_r, eq→eqb, add-fits}
use lib.Ieee.Scale.{round_same}
use Rattle.number.specs.Limits.{distance_limit}
use Rattle.number.specs.Grid.{signed}
use Rattle.number.proofs.Tests.{both_hold}
use Rattle.whole.specs.SegmentCall.{within}
use Rattle.whole.proofs.Integer.{by_test}
use Rattle.verdict.proofs.Between.{Between, between, above, under}
use Rattle.placed.specs.Numbers.{truncated, is_whole_number}

-- ---- floats of one value are equal, whatever the signs of zeros

-- signs that differ at a zero alone
abbrev Alike : Bool → Bool → ℕ → Type 0
Alike s t n = (s ≡ t) ⊎ (n ≡ 0)

beq_same : (s t b : Bool) → s ≡ t → T (beq s t || b)
beq_same true true b e = tt
beq_same false false b e = tt
beq_same true false b e = absurd (true≢false e)
beq_same false true b e = absurd (true≢false (sym e))

or_right : (a b : Bool) → T b → T (a || b)
or_right true b t = tt
or_right false b t = t

same_value : (x y : Float) (s t : Bool) (n : ℕ) → HasValue x s n 1 → HasValue y t n 1 → Alike s t n → T (eq x y)
unfolding eq
same_value nan y s t n v w a = absurd v
same_value (inf i) y s t n v w a = absurd v
same_value (fin i m e) nan s t n v w a = absurd w
same_value (fin i m e) (inf j) s t n v w a = absurd w
same_value (fin i m e) (fin j k d) s t n v w a =
    let p = ap (λ (z : ℕ). z * down d) v.1 in
    let q = ap (λ (z : ℕ). z * down e) w.1 in
    let r : m * up e * down d ≡ k * up d * down e = omega (arith, p, q) in
    and_i (eqb (m * up e * down d) (k * up d * down e)) (beq i j || eqb (m * up e * down d) 0) (eq→eqb r) (signs a)
  where
    signs : Alike s t n → T (beq i j || eqb (m * up e * down d) 0)
    signs (inl f) = beq_same i j _ (v.0 ∙ f ∙ sym w.0)
    signs (inr f) =
        let r : m * up e * down d ≡ 0 = omega (arith, ap (λ (z : ℕ). z * down d) v.1, ap (λ (z : ℕ). z * (down e * down d)) f) in
        or_right (beq i j) (eqb (m * up e * down d) 0) (eq→eqb r)

record Valued (x : Float) (t : Bool) (n : ℕ) : Type 0 where
  sign : Bool
  value : HasValue x sign n 1
  alike : Alike sign t n

beq_is : (s t : Bool) → T (beq s t) → s ≡ t
beq_is true true h = refl
beq_is false false h = refl
beq_is true false h = absurd h
beq_is false true h = absurd h

no_factor : (n k : ℕ) → 0 < k → n * k ≡ 0 → n ≡ 0
no_factor n k h e = elim (eq-zero-or-pos n) [ inl z ↦ z | inr p ↦ absurd (omega (arith, mul-pos p h)) ]

equal_value : (x y : Float) (t : Bool) (n : ℕ) → T (eq x y) → HasValue y t n 1 → Valued x t n
unfolding eq
equal_value nan y t n h w = absurd h
equal_value (inf i) nan t n h w = absurd h
equal_value (inf i) (inf j) t n h w = absurd w
equal_value (inf i) (fin j k d) t n h w = absurd h
equal_value (fin i m e) nan t n h w = absurd h
equal_value (fin i m e) (inf j) t n h w = absurd h
equal_value (fin i m e) (fin j k d) t n h w = record { sign = i; value = (refl, size); alike = signs (beq i j) (beq_is i j) (and_r (eqb (m * up e * down d) (k * up d * down e)) _ h) }
  where
    cross : m * up e * down d ≡ n * down e * down d
    cross =
        let q = ap (λ (z : ℕ). z * down e) w.1 in
        let p = eqb→eq (m * up e * down d) (k * up d * down e) (and_l (eqb (m * up e * down d) (k * up d * down e)) _ h) in
        omega (arith, p, q)

    size : m * up e * 1 ≡ n * down e
    size = let p = eq_of_mul-eq-mul_right (down d) (down_pos d) (m * up e) (n * down e) cross in omega (arith, p)

    signs : (b : Bool) → (T b → i ≡ j) → T (b || eqb (m * up e * down d) 0) → Alike i t n
    signs true f g = inl (f tt ∙ w.0)
    signs false f g =
        let z = eqb→eq (m * up e * down d) 0 g in inr (no_factor n (down e * down d) (mul-pos (down_pos e) (down_pos d)) (omega (arith, cross, z)))

-- ---- a whole number is cut to itself

quotient : (n k d : ℕ) → 0 < d → n * 1 ≡ k * d → n / d ≡ k
quotient n k d h e =
    let l : k ≤ n / d = (le-div_iff_mul-le h).1 (omega arith) in
    let u : n / d < suc k = (div-lt_iff_lt-mul h).1 (omega arith) in
    omega arith

pub cut : (x : Float) (s : Bool) (k : ℕ) → k ≤ distance_limit → HasValue x s k 1 → truncated x ≡ signed s k
unfolding to_signed
cut nan s k h v = absurd v
cut (inf t) s k h v = absurd v
cut (fin true m e) s k h v =
    let q = quotient (m * up e) k (down e) (down_pos e) v.1 in
    let r : min (m * up e / down e) (2 ^ 63) ≡ k = omega arith in
    ap (λ (n : ℕ). neg_ℤ (pos n)) r ∙ ap (λ (t : Bool). signed t k) v.0
cut (fin false m e) s k h v =
    let q = quotient (m * up e) k (down e) (down_pos e) v.1 in
    let r : min (m * up e / down e) (2 ^ 63 - 1) ≡ k = omega arith in
    ap pos r ∙ ap (λ (t : Bool). signed t k) v.0

-- ---- the float of a whole number

abbrev below_zero : ℤ → Bool
below_zero (pos n) = false
below_zero (negsuc n) = true

of_int_lem : (z : ℤ) → nat_abs z ≤ distance_limit → HasValue (of_int binary64 z) (below_zero z) (nat_abs z) 1
unfolding of_int
of_int_lem (pos n) h = round_whole binary64 false n (le_trans h (lit≤ tt))
of_int_lem (negsuc n) h = round_whole binary64 true (suc n) (le_trans h (lit≤ tt))

signed_is : (z : ℤ) (t : Bool) → Alike t (below_zero z) (nat_abs z) → signed t (nat_abs z) ≡ z
signed_is (pos n) t (inl e) = ap (λ (s : Bool). signed s n) e
signed_is (pos n) false (inr e) = refl
signed_is (pos n) true (inr e) = ap (λ (k : ℕ). neg_ℤ (pos k)) e ∙ ap pos (sym e)
signed_is (negsuc n) t (inl e) = ap (λ (s : Bool). signed s (suc n)) e
signed_is (negsuc n) t (inr e) = absurd (omega (arith, e))

-- what equals it is a whole number of the grid, and is cut to it
module _ (x : Float) (z : ℤ) (h : nat_abs z ≤ distance_limit) (t : T (eq x (of_int binary64 z))) where
  pub cut_to_lem : truncated x ≡ z
  cut_to_lem = let v = equal_value x (of_int binary64 z) _ _ t (of_int_lem z h) in cut x v.sign (nat_abs z) h v.value ∙ signed_is z v.sign v.alike

  pub is_whole : is_whole_number x ≡ true
  is_whole =
      let e = cut_to_lem in
      let a = le-leb (nat_abs z) distance_limit h in
      let b = is_true (eq x (of_int binary64 z)) t in
      (λ i. within distance_limit (e i) && eq x (of_int binary64 (e i))) ∙ (λ i. a i && b i)

-- ---- the sum and what comes back

abbrev M : ℕ
M = 3 * 2 ^ 51

abbrev pub halfway : Float
halfway = fin false 3 (pos 51)

abbrev lowest : ℕ
lowest = 402653183 * 2 ^ 24

abbrev highest : ℕ
highest = 402653185 * 2 ^ 24

abbrev pub least : Float
least = fin false 402653183 (pos 24)

abbrev pub greatest : Float
greatest = fin false 402653185 (pos 24)

abbrev pub sum_of : Float → Float
sum_of x = add binary64 x halfway

abbrev pub back : Float → Float
back x = sub binary64 (sum_of x) halfway

-- by sign and size: n away from M
module _ (m : ℕ) (e : ℤ) (n : ℕ) (v : m * up e * 1 ≡ n * down e) where
  one : 0 < down e * 1
  one = omega (arith, down_pos e)

  short : (s : Bool) (w : ℕ) (other : Float) → n + w ≡ M → 0 < w
      → cond (ltb (m * up e * 1) (M * down e)) (round binary64 s (M * down e - m * up e * 1) (down e * 1)) other ≡ round binary64 s w 1
  short s w other h p =
      let k = ap (λ (z : ℕ). z * down e) h in
      let l = mul-pos p (down_pos e) in
      ap (λ (b : Bool). cond b (round binary64 s (M * down e - m * up e * 1) (down e * 1)) other) (lt-ltb (m * up e * 1) (M * down e) (omega (arith, k, l, v)))
      ∙ round_same binary64 s (M * down e - m * up e * 1) (down e * 1) w 1 one (lit< tt) (omega (arith, k, l, v))

  past : (w : ℕ) (other : Float) → n ≡ M + w
      → cond (ltb (m * up e * 1) (M * down e)) other (round binary64 false (m * up e * 1 - M * down e) (down e * 1)) ≡ round binary64 false w 1
  past w other h =
      let k = ap (λ (z : ℕ). z * down e) h in
      ap (λ (b : Bool). cond b other (round binary64 false (m * up e * 1 - M * down e) (down e * 1))) (le-ltb (m * up e * 1) (M * down e) (omega (arith, k, v)))
      ∙ round_same binary64 false (m * up e * 1 - M * down e) (down e * 1) w 1 one (lit< tt) (omega (arith, k, v))

plus : (x : Float) (n : ℕ) → HasValue x false n 1 → sum_of x ≡ round binary64 false (n + M) 1
unfolding add sum
plus nan n v = absurd v
plus (inf t) n v = absurd v
plus (fin true m e) n v = absurd (true≢false v.0)
plus (fin false m e) n v = round_same binary64 false (m * up e * 1 + M * down e) (down e * 1) (n + M) 1 (one m e n v.1) (lit< tt) (omega (arith, v.1))

plus_negative : (x : Float) (n w : ℕ) → HasValue x true n 1 → n + w ≡ M → 0 < w → sum_of x ≡ round binary64 false w 1
unfolding add sum
plus_negative nan n w v h p = absurd v
plus_negative (inf t) n w v h p = absurd v
plus_negative (fin false m e) n w v h p = absurd (true≢false (sym v.0))
plus_negative (fin true m e) n w v h p = short m e n v.1 false w _ h p

minus_past : (y : Float) (n w : ℕ) → HasValue y false n 1 → n ≡ M + w → sub binary64 y halfway ≡ round binary64 false w 1
unfolding sub neg add sum
minus_past nan n w v h = absurd v
minus_past (inf t) n w v h = absurd v
minus_past (fin true m e) n w v h = absurd (true≢false v.0)
minus_past (fin false m e) n w v h = past m e n v.1 w _ h

minus_short : (y : Float) (n w : ℕ) → HasValue y false n 1 → n + w ≡ M → 0 < w → sub binary64 y halfway ≡ round binary64 true w 1
unfolding sub neg add sum
minus_short nan n w v h p = absurd v
minus_short (inf t) n w v h p = absurd v
minus_short (fin true m e) n w v h p = absurd (true≢false v.0)
minus_short (fin false m e) n w v h p = short m e n v.1 true w _ h p

-- ---- a float between 2 ^ 52 and 2 ^ 53 is whole
record Near (y : Float) : Type 0 where
  n : ℕ
  value : HasValue y false n 1
  low : lowest ≤ n
  high : n ≤ highest

near : (y : Float) → T (fits binary64 y) → Between lowest highest y → Near y
unfolding fits
near nan f h = absurd h
near (inf s) f h = absurd h
near (fin s m (pos k)) f h = record { n = m * 2 ^ k; value = (h.0, refl); low = omega (arith, h.1); high = omega (arith, h.2) }
near (fin s zero (negsuc k)) f h = absurd (omega (arith, h.1, pow_pos (suc k)))
near (fin s (suc m) (negsuc k)) f h =
    let E = down (negsuc k) in
    let o = eqb (suc m % 2) 1 in
    let d = ltb (suc m) (2 ^ 53) in
    let l = leb E (2 ^ 1074) in
    let digits = ltb→lt (suc m) (2 ^ 53) (and_r o d (and_l (o && d) l (and_l (o && d && l) (ltb (suc m * 1) (2 ^ 1024 * E)) f))) in
    absurd (omega (arith, h.1, pow-suc 2 k, pow_pos k, digits))

-- ---- the test
abbrev pub test : Float → Bool
test x = le least (sum_of x) && le (sum_of x) greatest && eq x (back x)

pub record Cut (x : Float) : Type 0 where
  pub z : ℤ
  pub small : nat_abs z ≤ distance_limit
  pub is : back x ≡ of_int binary64 z

come_back : (x : Float) → Near (sum_of x) → Cut x
unfolding of_int
come_back x N = by_test (λ b. Cut x) (ltb N.n M)
    (λ t. let l = ltb→lt N.n M t in
    let h = N.low in
    record { z = negsuc (M - suc N.n); small = omega arith; is = minus_short (sum_of x) N.n (suc (M - suc N.n)) N.value (omega arith) (omega arith) })
    (λ t. let l = nltb→le N.n M t in
    let h = N.high in
    record { z = pos (N.n - M); small = omega arith; is = minus_past (sum_of x) N.n (N.n - M) N.value (omega arith) })

module _ (x : Float) (t : T (test x)) where
  abbrev bounds : Bool
  bounds = le least (sum_of x) && le (sum_of x) greatest

  pub passes : Cut x
  passes =
      let b = and_l bounds (eq x (back x)) t in
      come_back x (near (sum_of x) (add-fits binary64 x halfway)
      (between lowest highest least greatest (sum_of x) (lit< tt) (refl, refl) (refl, refl) (and_l (le least (sum_of x)) _ b) (and_r (le least (sum_of x)) _ b)))

  equals : T (eq x (of_int binary64 passes.z))
  equals = subst (λ (y : Float). T (eq x y)) passes.is (and_r bounds (eq x (back x)) t)

  test_whole : is_whole_number x ≡ true
  test_whole = is_whole x passes.z passes.small equals

  pub test_cut : truncated x ≡ passes.z
  test_cut = cut_to_lem x passes.z passes.small equals

-- and a whole number passes it
own : (y : Float) (n : ℕ) → HasValue y false n 1 → Between n n y
own nan n v = absurd v
own (inf s) n v = absurd v
own (fin s m e) n v = (v.0, omega (arith, v.1), omega (arith, v.1))

module _ (x : Float) where
  joined : (n : ℕ) → lowest ≤ n → n ≤ highest → HasValue (sum_of x) false n 1 → T (eq x (back x)) → T (test x)
  joined n l h v t =
      let b = own (sum_of x) n v in
      and_i (le least (sum_of x) && le (sum_of x) greatest) (eq x (back x))
      (and_i (le least (sum_of x)) (le (sum_of x) greatest) (above lowest n n least (sum_of x) l (refl, refl) b) (under n n highest greatest (sum_of x) h (refl, refl) b)) t

  valued : (s : Bool) (n : ℕ) → n ≤ 2 ^ 53 → (y : Float) → y ≡ round binary64 s n 1 → HasValue y s n 1
  valued s n h y e = subst (λ (u : Float). HasValue u s n 1) (sym e) (round_whole binary64 s n h)

  by_value : (s : Bool) (n : ℕ) → n ≤ distance_limit → HasValue x s n 1 → T (test x)
  by_value false n h v =
      let y = valued false (n + M) (omega arith) (sum_of x) (plus x n v) in
      let d = valued false n (omega arith) (back x) (minus_past (sum_of x) (n + M) n y (omega arith)) in
      joined (n + M) (omega arith) (omega arith) y (same_value x (back x) false false n v d (inl refl))
  by_value true zero h v =
      let y = valued false M (lit≤ tt) (sum_of x) (plus_negative x 0 M v (omega arith) (lit< tt)) in
      let d = valued false 0 (lit≤ tt) (back x) (minus_past (sum_of x) M 0 y (omega arith)) in
      joined M (lit≤ tt) (lit≤ tt) y (same_value x (back x) true false 0 v d (inr refl))
  by_value true (suc n) h v =
      let w = M - suc n in
      let y = valued false w (omega arith) (sum_of x) (plus_negative x (suc n) w v (omega arith) (omega arith)) in
      let d = valued true (suc n) (omega arith) (back x) (minus_short (sum_of x) w (suc n) y (omega arith) (omega arith)) in
      joined w (omega arith) (omega arith) y (same_value x (back x) true true (suc n) v d (inl refl))

  pub whole_passes : is_whole_number x ≡ true → T (test x)
  whole_passes e =
      let h = both_hold (within distance_limit (truncated x)) (eq x (of_int binary64 (truncated x))) e in
      let l = leb-true (nat_abs (truncated x)) distance_limit h.0 in
      let v = equal_value x (of_int binary64 (truncated x)) _ _ (subst T (sym h.1) tt) (of_int_lem (truncated x) l) in
      by_value v.sign (nat_abs (truncated x)) l v.value

  pub test_is : test x ≡ is_whole_number x
  test_is = go (test x) (is_whole_number x) (test_whole x) (λ e. whole_passes e)
    where
      go : (a b : Bool) → (T a → b ≡ true) → (b ≡ true → T a) → a ≡ b
      go true b f g = sym (f tt)
      go false true f g = absurd (g refl)
      go false false f g = refl

  -- what comes back of one can be made an integer of 32 bits, and is the number that it is cut to
  module _ (e : is_whole_number x ≡ true) where
    abbrev C : Cut x
    C = passes x (whole_passes e)

    integer : (z : ℤ) → nat_abs z ≤ distance_limit → T (in_signed binary64 31 (of_int binary64 z)) × (to_signed 31 (of_int binary64 z) ≡ z)
    unfolding in_float
    integer (pos n) h = positive_back binary64 31 n (le→leb n (2 ^ 53) (le_trans h (lit≤ tt))) (omega arith)
    integer (negsuc n) h = negative_back binary64 31 n (lt→ltb n (2 ^ 53) (omega arith)) (omega arith)

    pub casts : T (in_signed binary64 31 (back x))
    casts = subst (λ (y : Float). T (in_signed binary64 31 y)) (sym C.is) (integer C.z C.small).0

    pub cast_is : to_signed 31 (back x) ≡ truncated x
    cast_is = ap (to_signed 31) C.is ∙ (integer C.z C.small).1 ∙ sym (test_cut x (whole_passes e))

-- a whole number is small
pub whole_small : (x : Float) → is_whole_number x ≡ true → nat_abs (truncated x) ≤ distance_limit
whole_small x e = leb-true _ _ (both_hold (within distance_limit (truncated x)) (eq x (of_int binary64 (truncated x))) e).0
