-- Along one axis: the term of the reach times the length, and the term of the estimate, are close to the product of the normal's number and that of the furthest corner. The idea: each is a few
-- roundings away from it. Where the number made unit length is lost it may point toward the other end of the range, and both terms are within the error. Assumes nothing.
use Rattle.std.proofs.Common.{◌≡◌, ℕ, ◌+◌, ◌*◌, ◌^◌, ◌<◌, ◌≤◌, Bool, true, false, cond, ◌⊎◌, sym, refl, ◌∙◌, inl, inr, le_trans, mul-le-mul_right, mul-le-mul, mul-le-mul_left, arith}
use native.Mathlib.Decide.{dec_lt}
use lib.Count.{count_trailing_zeros}
use lib.Ieee.{Float, unlike, le, round, units, odd, size, span, climb}
use lib.Ieee.Bits.{is_true}
use Rattle.number.specs.Arithmetic.{◌⊗◌}
use Rattle.number.proofs.Comparisons.{over_zero, under_zero, refuted}
use Rattle.matrix.specs.Constants.{positive_zero}
use Rattle.verdict.specs.Plane.{end_toward}
use Rattle.number.proofs.RoundingError.{unit, room, unit_positive, Is, of_value, Units, Rounded, most_of, product, le_units}
use Rattle.number.proofs.CountedErrors.{About, about, rounded_about}
use Rattle.verdict.proofs.FilterTerms.{quotient_size, product_size, some_left, term, lost}
use Rattle.verdict.proofs.FilterNumbers.{Normal, End, figures, Within}

-- ---- whether a number is at least 0

zero_held : Is positive_zero false 0
unfolding round units odd size span climb count_trailing_zeros
zero_held = of_value (refl, omega arith)

at_least : {x : Float} {g : ℕ} → Is x false g → le positive_zero x ≡ true
at_least {x} h = is_true (le positive_zero x) ((le_units zero_held h).1 (omega arith))

below : {x : Float} {g : ℕ} → Is x true g → 0 < g → le positive_zero x ≡ false
below {x} {g} h p = refuted (le positive_zero x) (λ t. no ((le_units zero_held h).0 t))
  where
    no : 0 + g ≤ 0 + 0 → ⊥
    no h = omega arith

-- ---- room

pub room_for : (i j a b : ℕ) → a ≤ i * unit → b ≤ j * unit → i * j ≤ room → a * b ≤ room * (unit * unit)
room_for i j a b h k r = go unit (mul-le-mul h k)
  where
    go : (u : ℕ) → a * b ≤ i * u * (j * u) → a * b ≤ room * (u * u)
    go u h = omega (arith, h, mul-le-mul_right (u * u) r)

-- ---- the terms

-- P is the term of the reach and t that of the estimate; l is the length, and top what the exact product is at most
pub record Axis (l ε top : ℕ) (P t : Float) : Type 0 where
  pub sign : Bool
  pub exact : ℕ
  pub most : exact ≤ top
  pub reach : About l ε P (over_zero sign exact) (under_zero sign exact) 8
  pub estimate : About unit ε t (over_zero sign exact) (under_zero sign exact) 2

-- what is small is close to any other such
small : {x : Float} {s : Bool} {a : ℕ} (k ε : ℕ) (s' : Bool) (m : ℕ) → Is x s a → a * k ≤ 7 * ε → m ≤ ε → About k ε x (over_zero s' m) (under_zero s' m) 8
small {s = s} {a} k ε s' m h p q = let g = go s s' in record { sign = s; size = a; is = h; over = g.0; under = g.1 }
  where
    go : (s s' : Bool) → (over_zero s a * k + under_zero s' m ≤ under_zero s a * k + over_zero s' m + 8 * ε) × (under_zero s a * k + over_zero s' m ≤ over_zero s a * k + under_zero s' m + 8 * ε)
    go false false = omega arith
    go false true = omega arith
    go true false = omega arith
    go true true = omega arith

module _ (l ε ext : ℕ) (k : Float) (K : Rounded k false l (unit * unit) l) (UL : unit ≤ 2 ^ 31 * l) (L : 0 < l) (X : ext ≤ End * unit) (S : 8 * ((Normal + 1) * (End + 1)) * l ≤ ε) (UE : unit ≤ ε)
    (n : Float) (N : Units n) (AU : N.size ≤ Normal * unit) (T : N.size * ext ≤ 2 ^ 53 * ε) where
  abbrev a : ℕ
  a = N.size

  over_size : K.units ≤ 2 ^ 33 * unit
  over_size = quotient_size unit l K.units unit_positive L (most_of (K.units * l) (unit * unit) l K.near) UL

  scaled : Rounded (n ⊗ k) (unlike N.sign false) unit (a * K.units) unit
  scaled = product N.is K.is (room_for Normal (2 ^ 33) a K.units AU over_size figures.scaled_room)

  abbrev v : ℕ
  v = scaled.units

  scaled_is : Is (n ⊗ k) N.sign v
  scaled_is = rw (like N.sign) at scaled.is
    where
      like : (s : Bool) → unlike s false ≡ s
      like false = refl
      like true = refl

  scaled_size : v ≤ (2 * (Normal * 2 ^ 33) + 1) * unit
  scaled_size = product_size unit v a K.units Normal (2 ^ 33) unit_positive (most_of (v * unit) (a * K.units) unit scaled.near) AU over_size

  -- both point toward the same end, or nothing is left of the one made unit length
  agree : (le positive_zero (n ⊗ k) ≡ le positive_zero n) ⊎ (v ≤ 1)
  agree = go N.sign N.is scaled_is (dec_lt 1 v)
    where
      go : (s : Bool) → Is n s a → Is (n ⊗ k) s v → Dec (1 < v) → (le positive_zero (n ⊗ k) ≡ le positive_zero n) ⊎ (v ≤ 1)
      go false h g d = inl (at_least g ∙ sym (at_least h))
      go true h g (yes m) = inl (below g (omega (arith, m)) ∙ sym (below h (some_left a v K.units unit unit_positive (most_of (v * unit) (a * K.units) unit scaled.near) m)))
      go true h g (no m) = inr (omega (arith, m))

  module _ (c : Float) (C : Within ext c) where
    abbrev d : ℕ
    d = C.number.size

    near_end : d ≤ End * unit
    near_end = le_trans C.most X

    exact_most : a * d ≤ 2 ^ 53 * ε
    exact_most = le_trans (mul-le-mul_left a C.most) T

    made : Rounded (n ⊗ k ⊗ c) (unlike N.sign C.number.sign) unit (v * d) unit
    made = product scaled_is C.number.is (room_for (2 * (Normal * 2 ^ 33) + 1) End v d scaled_size near_end figures.made_room)

    estimated : About unit ε (n ⊗ c) (over_zero (unlike N.sign C.number.sign) (a * d)) (under_zero (unlike N.sign C.number.sign) (a * d)) 2
    estimated = rounded_about (product N.is C.number.is (room_for Normal End a d AU near_end figures.estimate_room)) exact_most UE

    same : Axis l ε (a * ext) (n ⊗ k ⊗ c) (n ⊗ c)
    same =
        let t = term unit l K.units a v Normal End ε unit_positive AU S K.near scaled.near d made.units near_end exact_most made.near in
        record { sign = unlike N.sign C.number.sign; exact = a * d; most = mul-le-mul_left a C.most; reach = about (a * d) made.is (omega (arith, t)); estimate = estimated }

  apart : (c c' : Float) → Within ext c → Within ext c' → v ≤ 1 → Axis l ε (a * ext) (n ⊗ k ⊗ c) (n ⊗ c')
  apart c c' C C' e =
      let w = made c C in
      let s = unlike N.sign C'.number.sign in
      let d' = C'.number.size in
      let z =
      lost unit l K.units a v Normal End ε unit_positive AU S K.near scaled.near C.number.size w.units d' e (near_end c C) (near_end c' C') (exact_most c C) w.near in
      record { sign = s; exact = a * d'; most = mul-le-mul_left a C'.most; reach = small l ε s (a * d') w.is z.0 z.1; estimate = estimated c' C' }

  end_within : (b : Bool) (low high : Float) → Within ext low → Within ext high → Within ext (cond b high low)
  end_within true low high x y = y
  end_within false low high x y = x

  pub axis : (low high : Float) → Within ext low → Within ext high → Axis l ε (a * ext) (n ⊗ k ⊗ end_toward (n ⊗ k) low high) (n ⊗ end_toward n low high)
  unfolding end_toward
  axis low high x y = go agree
    where
      go : (le positive_zero (n ⊗ k) ≡ le positive_zero n) ⊎ (v ≤ 1) → Axis l ε (a * ext) (n ⊗ k ⊗ cond (le positive_zero (n ⊗ k)) high low) (n ⊗ cond (le positive_zero n) high low)
      go (inl e) = rw e (same (cond (le positive_zero n) high low) (end_within (le positive_zero n) low high x y))
      go (inr e) = apart _ _ (end_within (le positive_zero (n ⊗ k)) low high x y) (end_within (le positive_zero n) low high x y) e
