-- The whole numbers that the machine forms, and that 64 bits carry them: minors, dot products, negations, and a plane's distance from a point. The idea: a bound on the
-- size of each number on the way. Assumes nothing.
use mathlib.Core.Path.{◌≡◌, refl, sym, ap, ◌∙◌}
use mathlib.Core.Bool.{Bool, true}
use Prim.Native.Nat.{ℕ, ◌+◌, ◌*◌, ◌^◌, ◌≤◌}
use native.Mathlib.Nat.{le_trans, lt_of_le_of_lt, mul-le-mul}
use native.Mathlib.Omega.{arith}
use borrow.Author.Tests.{ltb-true}
use lib.Dec.{lit<, lit≤}
use lib.IntN.{ℤ, pos, negsuc, neg_ℤ, nat_abs, ◌+ℤ◌, ◌-ℤ◌, ◌*ℤ◌, +ℤ_idl}
use lib.Signed.{lt_z}
use mir.Syntax.{w64}
use mir.Val.{SFits, to_z, of_z}
use Rattle.number.specs.Limits.{normal_limit}
use Rattle.whole.specs.Plane.{dotℤ}
use Rattle.whole.specs.SegmentCall.{plane_within}
use Rattle.whole.proofs.Integer.{abs_sum, abs_times}
use Rattle.whole.proofs.Limits.{plane_sizes}
use Rattle.whole.proofs.Registers.{Held, held_fits, read, itself, held_times, held_sum, held_minus, negation}
use Rattle.exact.specs.declared.plane.Plane.{Plane}
use Rattle.exact.specs.declared.plane.Point.{Point}
use Rattle.exact.specs.Vertex.{minor, cross, signed_by}
use Rattle.exact.specs.Steps.{Vec3i, vec_of, vec, plane_of, plane, gap_at, Sized, largest_minor, largest_determinant, largest_coordinate, largest_gap, SmallPoint, GapsBelow, Products}

-- a number, written and read again
abbrev pub R : ℤ → ℤ
R z = to_z w64 (of_z w64 z)

-- within a larger bound
pub wider : {u z : ℤ} {a b : ℕ} → a ≤ b → Held u z a → Held u z b
wider l h = record { is = h.is; size = le_trans h.size l }

pub again : {u z : ℤ} {b : ℕ} → b ≤ 2 ^ 60 → Held u z b → Held (R u) z b
again l h = read w64 h (lt_of_le_of_lt l (lit< tt))

pub fits : {u z : ℤ} {b : ℕ} → b ≤ 2 ^ 60 → Held u z b → SFits w64 u
fits l h = held_fits w64 h (lt_of_le_of_lt l (lit< tt))

pub known : {b : ℕ} → b ≤ 2 ^ 60 → (z : ℤ) → nat_abs z ≤ b → Held (R z) z b
known l z h = again l (itself z h)

-- ---- a minor of four entries
module _ (a b c d : ℤ) (A : nat_abs a ≤ normal_limit) (B : nat_abs b ≤ normal_limit) (C : nat_abs c ≤ normal_limit) (D : nat_abs d ≤ normal_limit) where
  first : Held (R a *ℤ R d) (a *ℤ d) (2 ^ 14)
  first = held_times (known (lit≤ tt) a A) (known (lit≤ tt) d D)

  second : Held (R b *ℤ R c) (b *ℤ c) (2 ^ 14)
  second = held_times (known (lit≤ tt) b B) (known (lit≤ tt) c C)

  both : Held (R (R a *ℤ R d) -ℤ R (R b *ℤ R c)) (minor a b c d) largest_minor
  both = held_minus (again (lit≤ tt) first) (again (lit≤ tt) second)

  pub minor_fits : SFits w64 (R (R a *ℤ R d) -ℤ R (R b *ℤ R c))
  minor_fits = fits (lit≤ tt) both

  pub minor_is : R (R (R a *ℤ R d) -ℤ R (R b *ℤ R c)) ≡ minor a b c d
  minor_is = (again (lit≤ tt) both).is

  pub minor_size : nat_abs (minor a b c d) ≤ largest_minor
  minor_size = both.size

-- ---- a dot product
module _ {u v : Vec3i} (p : Products u v) where
  times : (x y : ℤ) → nat_abs x ≤ p.a → nat_abs y ≤ p.b → Held (R x *ℤ R y) (x *ℤ y) (2 ^ 50)
  times x y h k =
      let s = p.small in
      wider s.2 (held_times (known (le_trans s.0 (lit≤ tt)) x h) (known (le_trans s.1 (lit≤ tt)) y k))

  along_x : Held (R u.x *ℤ R v.x) (u.x *ℤ v.x) (2 ^ 50)
  along_x = times u.x v.x p.first.x p.second.x

  along_y : Held (R u.y *ℤ R v.y) (u.y *ℤ v.y) (2 ^ 50)
  along_y = times u.y v.y p.first.y p.second.y

  along_z : Held (R u.z *ℤ R v.z) (u.z *ℤ v.z) (2 ^ 50)
  along_z = times u.z v.z p.first.z p.second.z

  two : Held (R (R u.x *ℤ R v.x) +ℤ R (R u.y *ℤ R v.y)) (u.x *ℤ v.x +ℤ u.y *ℤ v.y) (2 ^ 51)
  two = held_sum (again (lit≤ tt) along_x) (again (lit≤ tt) along_y)

  three : Held (R (R (R u.x *ℤ R v.x) +ℤ R (R u.y *ℤ R v.y)) +ℤ R (R u.z *ℤ R v.z)) (dotℤ (vec_of u) (vec_of v)) (2 ^ 51 + 2 ^ 50)
  three = held_sum (again (lit≤ tt) two) (again (lit≤ tt) along_z)

  pub dot_first : SFits w64 (R u.x *ℤ R v.x)
  dot_first = fits (lit≤ tt) along_x

  pub dot_second : SFits w64 (R u.y *ℤ R v.y)
  dot_second = fits (lit≤ tt) along_y

  pub dot_third : SFits w64 (R u.z *ℤ R v.z)
  dot_third = fits (lit≤ tt) along_z

  pub dot_two : SFits w64 (R (R u.x *ℤ R v.x) +ℤ R (R u.y *ℤ R v.y))
  dot_two = fits (lit≤ tt) two

  pub dot_three : SFits w64 (R (R (R u.x *ℤ R v.x) +ℤ R (R u.y *ℤ R v.y)) +ℤ R (R u.z *ℤ R v.z))
  dot_three = fits (lit≤ tt) three

  pub dot_is : R (R (R (R u.x *ℤ R v.x) +ℤ R (R u.y *ℤ R v.y)) +ℤ R (R u.z *ℤ R v.z)) ≡ dotℤ (vec_of u) (vec_of v)
  dot_is = (again (lit≤ tt) three).is

  -- three products
  pub dot_size : nat_abs (dotℤ (vec_of u) (vec_of v)) ≤ p.a * p.b + p.a * p.b + p.a * p.b
  dot_size =
      let one : (x y : ℤ) → nat_abs x ≤ p.a → nat_abs y ≤ p.b → nat_abs (x *ℤ y) ≤ p.a * p.b = λ x y h k. rw (abs_times x y) (mul-le-mul h k) in
      let X = one u.x v.x p.first.x p.second.x in
      let Y = one u.y v.y p.first.y p.second.y in
      let Z = one u.z v.z p.first.z p.second.z in
      omega (arith, abs_sum (u.x *ℤ v.x +ℤ u.y *ℤ v.y) (u.z *ℤ v.z), abs_sum (u.x *ℤ v.x) (u.y *ℤ v.y), X, Y, Z)

-- ---- a plane's distance from a point

pub plane_sized : (q : Plane) → plane_within (plane_of q) ≡ true → Sized normal_limit q.normal
plane_sized q e = let s = plane_sizes (plane_of q) e in record { x = s.0; y = s.1; z = s.2 }

abbrev pub reach : (q : Plane) (p : Point) → plane_within (plane_of q) ≡ true → SmallPoint p → Products q.normal p.numbers
reach q p e h = record { a = normal_limit; b = largest_coordinate; first = plane_sized q e; second = h.numbers; small = (lit≤ tt, lit≤ tt, lit≤ tt) }

module _ (q : Plane) (p : Point) (e : plane_within (plane_of q) ≡ true) (h : SmallPoint p) where
  abbrev dot : ℤ
  dot = dotℤ (vec_of q.normal) (vec_of p.numbers)

  shift : Held (R p.k *ℤ R q.distance) (p.k *ℤ q.distance) (3 * 2 ^ 46)
  shift = held_times (known (lit≤ tt) p.k h.k) (known (lit≤ tt) q.distance (plane_sizes (plane_of q) e).3)

  gap : (r : ℤ) → r ≡ dot → Held (R r -ℤ R (R p.k *ℤ R q.distance)) (gap_at (plane_of q) p) largest_gap
  gap r g =
      let c = normal_limit * largest_coordinate in
      let s = le_trans (dot_size (reach q p e h)) (lit≤ {m = c + c + c} {n = 9 * 2 ^ 46} tt) in
      held_minus (again (lit≤ tt) (record { is = g; size = s })) (again (lit≤ tt) shift)

  pub shift_fits : SFits w64 (R p.k *ℤ R q.distance)
  shift_fits = fits (lit≤ tt) shift

  pub gap_fits : (r : ℤ) → r ≡ dot → SFits w64 (R r -ℤ R (R p.k *ℤ R q.distance))
  gap_fits r g = fits (lit≤ tt) (gap r g)

  pub gap_is : (r : ℤ) → r ≡ dot → R (R r -ℤ R (R p.k *ℤ R q.distance)) ≡ gap_at (plane_of q) p
  gap_is r g = (again (lit≤ tt) (gap r g)).is

  gap_size : nat_abs (gap_at (plane_of q) p) ≤ largest_gap
  gap_size = (gap dot refl).size

pub gaps_below : GapsBelow
gaps_below P p e h = lt_of_le_of_lt (gap_size (plane P) p e h) (lit< tt)

-- ---- a point over k, by the size of k
turned : (b : ℕ) → b ≤ 2 ^ 60 → (z : ℤ) → nat_abs z ≤ b → Held (pos 0 -ℤ R z) (pos 0 -ℤ z) b
turned b l z h = wider (omega arith) (negation (known l z h))

pub turned_is : (b : ℕ) → b ≤ 2 ^ 60 → (z : ℤ) → nat_abs z ≤ b → R (pos 0 -ℤ R z) ≡ neg_ℤ z
turned_is b l z h = (again l (turned b l z h)).is ∙ +ℤ_idl (neg_ℤ z)

abbrev point : ℤ → ℤ → ℤ → ℤ → Point
point x y z k = record { numbers = record { x = x; y = y; z = z }; k = k }

abbrev signed : Vec3i → ℤ → Point
signed v k = record { numbers = vec (λ j. signed_by k (vec_of v j)); k = pos (nat_abs k) }

module _ (v : Vec3i) (k : ℤ) (h : Sized largest_coordinate v) (K : nat_abs k ≤ largest_determinant) where
  tested : (b : Bool) → lt_z (R k) (pos 0) ≡ b → lt_z k (pos 0) ≡ b
  tested b e = ap (λ (z : ℤ). lt_z z (pos 0)) (sym (known (lit≤ tt) k K).is) ∙ e

  pub over_behind : lt_z (R k) (pos 0) ≡ true → point (R (pos 0 -ℤ R v.x)) (R (pos 0 -ℤ R v.y)) (R (pos 0 -ℤ R v.z)) (R (pos 0 -ℤ R k)) ≡ signed v k
  over_behind e =
      let c = largest_coordinate in
      (λ t. point (turned_is c (lit≤ tt) v.x h.x t) (turned_is c (lit≤ tt) v.y h.y t) (turned_is c (lit≤ tt) v.z h.z t)
      (turned_is largest_determinant (lit≤ tt) k K t))
      ∙ go k (tested true e)
    where
      go : (k : ℤ) → lt_z k (pos 0) ≡ true → point (neg_ℤ v.x) (neg_ℤ v.y) (neg_ℤ v.z) (neg_ℤ k) ≡ signed v k
      go (negsuc n) e = refl
      go (pos n) e = absurd (omega (arith, ltb-true n 0 e))

  pub below_some : lt_z (R k) (pos 0) ≡ true → pos (nat_abs k) ≡ pos 0 → ⊥
  below_some e z = go k (tested true e) (ap nat_abs z)
    where
      go : (k : ℤ) → lt_z k (pos 0) ≡ true → nat_abs k ≡ 0 → ⊥
      go (negsuc n) e z = absurd (omega arith)
      go (pos n) e z = absurd (omega (arith, ltb-true n 0 e))

-- ---- a cross product of two normals
module _ (u v : Vec3i) (U : Sized normal_limit u) (W : Sized normal_limit v) where
  cross_x : nat_abs (cross (vec_of u) (vec_of v) 0) ≤ largest_minor
  cross_x = minor_size u.y u.z v.y v.z U.y U.z W.y W.z

  cross_y : nat_abs (cross (vec_of u) (vec_of v) 1) ≤ largest_minor
  cross_y = minor_size u.z u.x v.z v.x U.z U.x W.z W.x

  cross_z : nat_abs (cross (vec_of u) (vec_of v) 2) ≤ largest_minor
  cross_z = minor_size u.x u.y v.x v.y U.x U.y W.x W.y

  pub cross_sized : Sized largest_minor (vec (cross (vec_of u) (vec_of v)))
  cross_sized = record { x = cross_x; y = cross_y; z = cross_z }

  -- as it is read from what three minors give
  of_read : (a b c d : ℤ) → nat_abs a ≤ normal_limit → nat_abs b ≤ normal_limit → nat_abs c ≤ normal_limit → nat_abs d ≤ normal_limit
      → (w : ℤ) → w ≡ minor (R a) (R b) (R c) (R d) → R w ≡ minor a b c d
  of_read a b c d A B C D w e = (again (lit≤ tt) (record {
    is = e ∙ (λ t. minor ((known (lit≤ tt) a A).is t) ((known (lit≤ tt) b B).is t) ((known (lit≤ tt) c C).is t) ((known (lit≤ tt) d D).is t));
    size = minor_size a b c d A B C D;
  })).is

  pub cross_read : (x y z : ℤ)
      → x ≡ minor (R u.y) (R u.z) (R v.y) (R v.z) → y ≡ minor (R u.z) (R u.x) (R v.z) (R v.x) → z ≡ minor (R u.x) (R u.y) (R v.x) (R v.y)
      → ◌≡◌ {A = Vec3i} (record { x = R x; y = R y; z = R z }) (vec (cross (vec_of u) (vec_of v)))
  cross_read x y z e f g = λ t. record {
    x = of_read u.y u.z v.y v.z U.y U.z W.y W.z x e t;
    y = of_read u.z u.x v.z v.x U.z U.x W.z W.x y f t;
    z = of_read u.x u.y v.x v.y U.x U.y W.x W.y z g t;
  }
