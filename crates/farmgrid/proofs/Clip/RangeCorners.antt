-- A sum that is affine along each axis and is positive at an exact point of a range is positive at some corner of it. The idea: along an axis it grows towards the
-- greatest bound where its coefficient there is not negative, and towards the least one where it is; so a step to that bound, along one axis after another, leads to a
-- corner and takes nothing away. Assumes nothing.
use mathlib.Core.Path.{◌≡◌, refl}
use mathlib.Core.Bool.{Bool, true, false, cond}
use Prim.Native.Nat.{ℕ, suc, ◌+◌, ◌*◌, ◌/◌, ◌%◌, ◌^◌, ◌≤◌, ◌<◌}
use native.Mathlib.Nat.{mul-le-mul, lt_of_mul-lt-mul_right}
use native.Mathlib.Omega.{arith}
use lib.Dec.{eqb, lit<}
use lib.IntN.{ℤ, pos, negsuc, ◌+ℤ◌, ◌*ℤ◌}
use lib.Signed.{non_neg, ◌≤ℤ◌, ◌<ℤ◌}
use Rattle.whole.proofs.Integer.{hi, lo, of_self as self, of_pos, of_le, of_lt, ◌⊞◌, ◌⊠◌}
use Rattle.whole.specs.Plane.{dotℤ}
use Rattle.farmgrid.specs.Placement.{cornerℤ}
use Rattle.exact.specs.ExactPoint.{ExactPoint}
use Rattle.farmgrid.specs.FarmGrid.{exactly}
use Rattle.farmgrid.proofs.Boxes.BoxReach.{ahead}

-- the affine sum of the coefficients c at an exact point, multiplied through by k: the last coefficient is the constant
abbrev pub affine_at : (ℕ → ℤ) → ExactPoint → ℤ
affine_at c X = dotℤ X.numbers c +ℤ pos X.k *ℤ c 3

-- ---- one step: along an axis no number between the bounds has a larger product with the coefficient than the bound ahead
step : (k : ℕ) (c x low high : ℤ) → (pos k *ℤ low) ≤ℤ x → x ≤ℤ (pos k *ℤ high)
    → (x *ℤ c) ≤ℤ (pos k *ℤ (cond (non_neg c) high low *ℤ c))
step k (pos n) x low high l h =
    let r : hi x + k * lo high ≤ k * hi high + lo x = omega (arith, (of_le (self x) (of_pos k ⊠ self high)).0 h) in
    let s : n ≤ n = omega arith in
    (of_le (self x ⊠ of_pos n) (of_pos k ⊠ (self high ⊠ of_pos n))).1 (omega (arith, mul-le-mul r s))
step k (negsuc n) x low high l h =
    let r : k * hi low + lo x ≤ hi x + k * lo low = omega (arith, (of_le (of_pos k ⊠ self low) (self x)).0 l) in
    let s : suc n ≤ suc n = omega arith in
    (of_le (self x ⊠ self (negsuc n)) (of_pos k ⊠ (self low ⊠ self (negsuc n)))).1 (omega (arith, mul-le-mul r s))

-- ---- three steps: where no sum loses, and the sum at the point is positive, the sum at the corner is
steps : (k : ℕ) (a a' a'' b b' b'' d : ℤ) → a ≤ℤ (pos k *ℤ b) → a' ≤ℤ (pos k *ℤ b') → a'' ≤ℤ (pos k *ℤ b'')
    → pos 0 <ℤ (a +ℤ a' +ℤ a'' +ℤ pos k *ℤ d) → pos 0 <ℤ (b +ℤ b' +ℤ b'' +ℤ pos 1 *ℤ d)
steps k a a' a'' b b' b'' d l l' l'' h =
    let K = of_pos k in
    let r = (of_le (self a) (K ⊠ self b)).0 l in
    let r' = (of_le (self a') (K ⊠ self b')).0 l' in
    let r'' = (of_le (self a'') (K ⊠ self b'')).0 l'' in
    let s = (of_lt (of_pos 0) (self a ⊞ self a' ⊞ self a'' ⊞ K ⊠ self d)).0 h in
    let t : lo b + lo b' + lo b'' + lo d < hi b + hi b' + hi b'' + hi d = lt_of_mul-lt-mul_right k (omega arith) in
    (of_lt (of_pos 0) (self b ⊞ self b' ⊞ self b'' ⊞ of_pos 1 ⊠ self d)).1 (omega arith)

-- ---- the number of a corner

-- of the corner that is the greatest along the axes of which a bit is set
abbrev numbered : Bool → Bool → Bool → ℕ
numbered u v w = cond u 1 0 + cond v 2 0 + cond w 4 0

below_eight : (u v w : Bool) → numbered u v w < 8
below_eight false false false = lit< tt
below_eight false false true = lit< tt
below_eight false true false = lit< tt
below_eight false true true = lit< tt
below_eight true false false = lit< tt
below_eight true false true = lit< tt
below_eight true true false = lit< tt
below_eight true true true = lit< tt

-- whether bit i is set
abbrev bit_at : ℕ → ℕ → Bool
bit_at k i = eqb (k / 2 ^ i % 2) 1

its_bits : (u v w : Bool) → let k = numbered u v w in (bit_at k 0 ≡ u) × (bit_at k 1 ≡ v) × (bit_at k 2 ≡ w)
its_bits false false false = (refl, refl, refl)
its_bits false false true = (refl, refl, refl)
its_bits false true false = (refl, refl, refl)
its_bits false true true = (refl, refl, refl)
its_bits true false false = (refl, refl, refl)
its_bits true false true = (refl, refl, refl)
its_bits true true false = (refl, refl, refl)
its_bits true true true = (refl, refl, refl)

-- ---- from the point to the corner
module _ (c low high : ℕ → ℤ) (X : ExactPoint) (least : (i : ℕ) → i < 3 → (pos X.k *ℤ low i) ≤ℤ X.numbers i)
    (greatest : (i : ℕ) → i < 3 → X.numbers i ≤ℤ (pos X.k *ℤ high i)) where
  along : (i : ℕ) → i < 3 → (X.numbers i *ℤ c i) ≤ℤ (pos X.k *ℤ (ahead c low high i *ℤ c i))
  along i h = step X.k (c i) (X.numbers i) (low i) (high i) (least i h) (greatest i h)

  at_ahead : pos 0 <ℤ affine_at c X → pos 0 <ℤ affine_at c (exactly (ahead c low high))
  at_ahead = steps X.k (X.numbers 0 *ℤ c 0) (X.numbers 1 *ℤ c 1) (X.numbers 2 *ℤ c 2)
      (ahead c low high 0 *ℤ c 0) (ahead c low high 1 *ℤ c 1) (ahead c low high 2 *ℤ c 2) (c 3)
      (along 0 (lit< tt)) (along 1 (lit< tt)) (along 2 (lit< tt))

  pub positive_corner : pos 0 <ℤ affine_at c X → (k : ℕ) × (k < 8) × (pos 0 <ℤ affine_at c (exactly (cornerℤ low high k)))
  positive_corner h = (k, below_eight u v w, rw same (at_ahead h))
    where
      u : Bool
      u = non_neg (c 0)

      v : Bool
      v = non_neg (c 1)

      w : Bool
      w = non_neg (c 2)

      k : ℕ
      k = numbered u v w

      same : affine_at c (exactly (cornerℤ low high k)) ≡ affine_at c (exactly (ahead c low high))
      same t =
          let e = its_bits u v w in
          cond (e.0 t) (high 0) (low 0) *ℤ c 0 +ℤ cond (e.1 t) (high 1) (low 1) *ℤ c 1 +ℤ cond (e.2 t) (high 2) (low 2) *ℤ c 2 +ℤ pos 1 *ℤ c 3
