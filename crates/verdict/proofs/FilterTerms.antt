-- The whole numbers of the filter: how large what is added up can be against its size, and how far a term of the reach is from the exact one. Assumes nothing.
use Rattle.std.proofs.Common.{◌≡◌, ℕ, zero, suc, ◌+◌, ◌*◌, ◌^◌, ◌<◌, ◌≤◌, mul-le-mul_right, mul-le-mul, mul-le-mul_left, le_of_mul-le-mul_right, arith, pow_pos}
use native.Mathlib.Decide.{dec_lt}
use Rattle.number.proofs.RoundingError.{Near, Least}
use Rattle.number.proofs.CountedErrors.{Apart}

-- x is y but for c parts in f of it, and t such parts of 1
abbrev Within : ℕ → ℕ → ℕ → ℕ → ℕ → Type 0
Within f c x y t = (f * x ≤ f * y + c * y + t) × (f * y ≤ f * x + c * y + t)

-- x times l is about X units, so that its product with d is so about X times d
by_number : (f c u l x X d z t t' : ℕ) → 0 < f → 0 < u → c ≤ f → Within f c (x * l) (X * u) t → Within f 1 (z * u) (x * d) (f * u) → 2 * (t * d) + f * (u * l) ≤ t' * u → Within f (c + 2) (z * l) (X * d) t'
by_number f c u l x X d z t t' F U C (a, b) (m, n) s =
    let size : x * l * d ≤ 2 * (X * u * d) + t * d =
    le_of_mul-le-mul_right {k = f} (omega (arith, mul-le-mul_right d a, mul-le-mul_right (X * u * d) C, mul-le-mul_right (t * d) F)) F in (
      le_of_mul-le-mul_right {k = u} (omega (arith, mul-le-mul_right d a, mul-le-mul_right l m, size, s)) U,
      le_of_mul-le-mul_right {k = u} (omega (arith, mul-le-mul_right d b, mul-le-mul_right l n, size, s)) U,
    )

near_within : (f x y z : ℕ) → (f * x ≤ f * y + y + z) × (f * y ≤ f * x + y + z) → Within f 1 x y z
near_within f x y z h = omega arith

-- ---- the terms of one axis: l is the length, κ one over it, a the number of the normal, v that made unit length, d the number of the range and p the product

module _ (u l κ a v A D ε : ℕ) (U : 0 < u) (AU : a ≤ A * u) (S : 8 * ((A + 1) * (D + 1)) * l ≤ ε) (H1 : Near (κ * l) (u * u) l) (H2 : Near (v * u) (a * κ) u) where
  unit_length : (f : ℕ) → 0 < f → Within f 1 (κ * l) (u * u) (f * l) → Within f 1 (v * u) (a * κ) (f * u) → Within f 3 (v * l) (a * u) (f * ((2 * A + 1) * l))
  unit_length f F h k =
      let t : Within f 3 (v * l) (u * a) (f * ((2 * A + 1) * l)) =
      by_number f 1 u l κ u a v (f * l) (f * ((2 * A + 1) * l)) F U F h (omega (arith, k.0), omega (arith, k.1)) (omega (arith, mul-le-mul_right (f * l) AU)) in
      (omega (arith, t.0), omega (arith, t.1))

  made_unit : Within (2 ^ 53) 3 (v * l) (a * u) (2 ^ 53 * ((2 * A + 1) * l))
  made_unit = unit_length (2 ^ 53) (pow_pos 53) (near_within (2 ^ 53) (κ * l) (u * u) (2 ^ 53 * l) H1) (near_within (2 ^ 53) (v * u) (a * κ) (2 ^ 53 * u) H2)

  pub term : (d p : ℕ) → d ≤ D * u → a * d ≤ 2 ^ 53 * ε → Near (p * u) (v * d) u → Apart (p * l) (a * d) (6 * ε)
  term d p DU T H3 =
      let w = by_number (2 ^ 53) 3 u l v a d p (2 ^ 53 * ((2 * A + 1) * l)) (2 ^ 53 * ((2 * (2 * A + 1) * D + 1) * l)) (pow_pos 53) U (omega arith) made_unit (near_within (2 ^ 53) (p * u) (v * d) (2 ^ 53 * u) H3) (room (2 ^ 53)) in
      let k : (2 * (2 * A + 1) * D + 1) * l ≤ ε = omega (arith, S) in
      (last (p * l) (a * d) _ w.0 T k, last_too (p * l) (a * d) _ w.1 T k)
    where
      room : (f : ℕ) → 2 * (f * ((2 * A + 1) * l) * d) + f * (u * l) ≤ f * ((2 * (2 * A + 1) * D + 1) * l) * u
      room f = omega (arith, mul-le-mul_right (f * ((2 * A + 1) * l)) DU)

      last : (x y s : ℕ) → 2 ^ 53 * x ≤ 2 ^ 53 * y + 5 * y + 2 ^ 53 * s → y ≤ 2 ^ 53 * ε → s ≤ ε → x ≤ y + 6 * ε
      last x y s h k l = omega (arith, h, k, l)

      last_too : (x y s : ℕ) → 2 ^ 53 * y ≤ 2 ^ 53 * x + 5 * y + 2 ^ 53 * s → y ≤ 2 ^ 53 * ε → s ≤ ε → y ≤ x + 6 * ε
      last_too x y s h k l = omega (arith, h, k, l)

  -- where nothing but a unit is left of the number made unit length, all is within the error
  pub lost : (d p d' : ℕ) → v ≤ 1 → d ≤ D * u → d' ≤ D * u → a * d ≤ 2 ^ 53 * ε → Near (p * u) (v * d) u → (p * l ≤ 7 * ε) × (a * d' ≤ ε)
  lost d p d' one DU DU' T H3 =
      let number = by (a * u) (v * l) ((2 * A + 1) * l) made_unit.1 (mul-le-mul_right l one) in
      let h = (term d p DU T H3).0 in
      let k = small d DU number in
      (omega (arith, h, k), small d' DU' number)
    where
      by : (x y s : ℕ) → 2 ^ 53 * x ≤ 2 ^ 53 * y + 3 * x + 2 ^ 53 * s → y ≤ 1 * l → x ≤ 2 * l + 2 * s
      by x y s h k = omega (arith, h, k)

      small : (e : ℕ) → e ≤ D * u → a * u ≤ 2 * l + 2 * ((2 * A + 1) * l) → a * e ≤ ε
      small e h n = omega (arith, mul-le-mul_left a h, mul-le-mul_right D n, S)

-- ---- how large a quotient and a product can be

pub quotient_size : (u l κ : ℕ) → 0 < u → 0 < l → κ * l ≤ 2 * (u * u) + l → u ≤ 2 ^ 31 * l → κ ≤ 2 ^ 33 * u
quotient_size u l κ U L h k = le_of_mul-le-mul_right {k = l} (omega (arith, h, mul-le-mul_right u k, mul-le-mul_right l U)) L

pub product_size : (u v a κ i j : ℕ) → 0 < u → v * u ≤ 2 * (a * κ) + u → a ≤ i * u → κ ≤ j * u → v ≤ (2 * (i * j) + 1) * u
product_size u v a κ i j U h k l = le_of_mul-le-mul_right {k = u} (omega (arith, h, mul-le-mul k l, mul-le-mul_right u U)) U

-- more than a unit is a product of no zero
pub some_left : (a v κ u : ℕ) → 0 < u → v * u ≤ 2 * (a * κ) + u → 1 < v → 0 < a
some_left zero v κ u U h g = absurd (omega (arith, h, mul-le-mul_right u g, U))
some_left (suc a) v κ u U h g = omega arith

-- ---- sizes

-- a number is at most 1 and its square together
one_and_square : (a u : ℕ) → a * u ≤ u * u + a * a
one_and_square a u = go (dec_lt a u)
  where
    go : Dec (a < u) → a * u ≤ u * u + a * a
    go (yes l) = omega (arith, mul-le-mul_right u l)
    go (no n) = let l : u ≤ a = omega (arith, n) in omega (arith, mul-le-mul_right a l)

-- so that the three are at most 3 and some times the square of the length: x, y, z the squares and g their sum
pub normals : (u a b c x y z g g' : ℕ) → 0 < u → Least (x * u) (a * a) u → Least (y * u) (b * b) u → Least (z * u) (c * c) u → Least (g' * 1) (x + y) 1 → Least (g * 1) (g' + z) 1 → a + b + c ≤ 3 * u + 2 * g + 16
normals u a b c x y z g g' U X Y Z G' G =
    le_of_mul-le-mul_right {k = u} (omega (arith, one_and_square a u, one_and_square b u, one_and_square c u, X, Y, Z, mul-le-mul_right u G', mul-le-mul_right u G)) U

-- six numbers and their sum
pub six : (a b c d e f g1 g2 g3 g4 g5 : ℕ) → Least (g1 * 1) (a + b) 1 → Least (g2 * 1) (g1 + c) 1 → Least (g3 * 1) (g2 + d) 1 → Least (g4 * 1) (g3 + e) 1 → Least (g5 * 1) (g4 + f) 1 → a + b + c + d + e + f ≤ 2 * g5 + 20
six a b c d e f g1 g2 g3 g4 g5 h1 h2 h3 h4 h5 = omega arith

-- s the numbers of the normal, γ the extent, o the last number, α the size and μ the error
pub record Sizes (u s γ o α μ K : ℕ) : Type 0 where
  pub normal_most : s ≤ (2 * K + 19) * u
  pub error_least : α ≤ 2 ^ 39 * μ
  pub error_most : μ ≤ 3 * α
  pub last_most : o ≤ 3 * α
  pub held : s * (2 * γ + 20) + o * u ≤ 2 ^ 42 * (μ * u)

pub sizes : (u s g h γ p o α β μ J K : ℕ) → 0 < u → s ≤ 3 * u + 2 * g + 16 → Least (h * 1) (3 * u + g) 1 → Least (p * u) (γ * h) u → Least (α * 1) (p + o) 1 → Least (μ * u) (α * β) u → μ * u ≤ 2 * (α * β) + u
    → g ≤ K * u → γ ≤ J * u → u ≤ 2 ^ 37 * β → β ≤ u → 2 ^ 40 + 40 * J + 40 * K ≤ α → Sizes u s γ o α μ K
sizes u s g h γ p o α β μ J K U S H P A E E' G Γ B B' L =
    let most : s ≤ (2 * K + 19) * u = omega (arith, S, G, U) in
    let some : s ≤ 3 * h + 20 = omega (arith, S, H) in
    let error : α ≤ 2 ^ 39 * μ = le_of_mul-le-mul_right {k = u} (omega (arith, mul-le-mul_left α B, E, mul-le-mul_right u L)) U in
    record {
      normal_most = most;
      error_least = error;
      error_most = le_of_mul-le-mul_right {k = u} (omega (arith, E', mul-le-mul_left α B', mul-le-mul_right u L)) U;
      last_most = omega (arith, A, L);
      held = omega (arith, mul-le-mul_right γ some, most, Γ, P, mul-le-mul_right u A, mul-le-mul_right u L, mul-le-mul_right u error);
    }

-- ---- what is told: S the estimate, R the reach and D the distance, both times the length, are close to M + G, to M and to -G

pub rooms : (u ε μ k i j r : ℕ) → 128 * ε ≡ μ * u → μ ≤ j * u → u ≤ i * k → 2 ^ 47 * (j * i) ≤ r → 2 ^ 54 * ε ≤ r * u * k
rooms u ε μ k i j r e h g c = omega (arith, e, mul-le-mul_right u h, mul-le-mul_right (j * u) g, mul-le-mul_right (u * k) c)
