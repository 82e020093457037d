-- The corner of a box that is farthest along a plane's normal: where it is behind the plane, every point of the box is. The idea: along each axis no coordinate of the box
-- adds more to the dot product. Assumes nothing.
use mathlib.Core.Path.{◌≡◌, refl, ◌∙◌}
use mathlib.Core.Bool.{Bool, true, false, cond}
use mathlib.Core.List.{List}
use Prim.Native.Nat.{ℕ, suc, ◌+◌, ◌*◌, ◌≤◌, ◌<◌}
use native.Mathlib.Nat.{le_trans, mul-le-mul_right, le_of_mul-le-mul_right}
use native.Mathlib.Omega.{arith}
use borrow.Author.Tests.{ltb-true}
use lib.Dec.{ltb, lit<, lit≤}
use lib.IntN.{ℤ, pos, negsuc, nat_abs, ◌+ℤ◌, ◌-ℤ◌, ◌*ℤ◌}
use lib.Signed.{lt_z, ◌≤ℤ◌}
use Rattle.number.specs.Limits.{grid_limit, normal_limit}
use Rattle.whole.specs.Plane.{WholePlane}
use Rattle.whole.specs.SegmentCall.{number_at}
use mir.Syntax.{w32}
use mir.Val.{to_z, of_z}
use Rattle.whole.proofs.Registers.{read, itself}
use Rattle.whole.proofs.Integer.{hi, lo, of_self as self, of_pos, of_le, ◌⊞◌, ◌⊟◌, ◌⊠◌}
use Rattle.exact.specs.declared.plane.Point.{Point}
use Rattle.exact.specs.ExactPoint.{ExactPoint, Satisfies, InBox}
use Rattle.exact.specs.BBoxCall.{low_corner, high_corner, box_within}
use Rattle.exact.specs.Steps.{Vec3i, vec_of, gap_at, Sized, largest_coordinate, SmallPoint, farthest, whole_point, Seen, Satisfying}
use Rattle.exact.proofs.Machine.{R, again, known}
use Rattle.exact.proofs.Faces.{numbers_small}

-- ---- along one axis: a coordinate x over k, from l to h
along : (n l h x : ℤ) (k : ℕ) → (pos k *ℤ l) ≤ℤ x → x ≤ℤ (pos k *ℤ h) → (n *ℤ x) ≤ℤ (pos k *ℤ (n *ℤ cond (lt_z n (pos 0)) l h))
along (pos m) l h x k g f = go (ltb m 0) refl
  where
    go : (b : Bool) → ltb m 0 ≡ b → (pos m *ℤ x) ≤ℤ (pos k *ℤ (pos m *ℤ cond b l h))
    go true e = absurd (omega (arith, ltb-true m 0 e))
    go false e =
        let t = mul-le-mul_right m ((of_le (self x) (of_pos k ⊠ self h)).0 f) in
        (of_le (of_pos m ⊠ self x) (of_pos k ⊠ (of_pos m ⊠ self h))).1 (omega (arith, t))
along (negsuc m) l h x k g f =
    let t = mul-le-mul_right (suc m) ((of_le (of_pos k ⊠ self l) (self x)).0 g) in
    (of_le (self (negsuc m) ⊠ self x) (of_pos k ⊠ (self (negsuc m) ⊠ self l))).1 (omega (arith, t))

-- ---- the whole dot product
reached : (a b c p q r d : ℤ) (k : ℕ) → 1 ≤ k → a ≤ℤ (pos k *ℤ p) → b ≤ℤ (pos k *ℤ q) → c ≤ℤ (pos k *ℤ r) → pos 0 ≤ℤ (a +ℤ b +ℤ c -ℤ pos k *ℤ d)
    → pos 0 ≤ℤ (p +ℤ q +ℤ r -ℤ pos 1 *ℤ d)
reached a b c p q r d k K A B C h =
    let s : (hi d + lo p + lo q + lo r) * k ≤ (hi p + hi q + hi r + lo d) * k =
    omega (
      arith,
      (of_le (self a) (of_pos k ⊠ self p)).0 A,
      (of_le (self b) (of_pos k ⊠ self q)).0 B,
      (of_le (self c) (of_pos k ⊠ self r)).0 C,
      (of_le (of_pos 0) (self a ⊞ self b ⊞ self c ⊟ of_pos k ⊠ self d)).0 h,
    ) in
    (of_le (of_pos 0) (self p ⊞ self q ⊞ self r ⊟ of_pos 1 ⊠ self d)).1 (omega (arith, le_of_mul-le-mul_right {k = k} s K))

pub reaches_it : (box : List ℤ) (P : WholePlane) (X : ExactPoint) → InBox (low_corner box) (high_corner box) X → Satisfies P X
    → pos 0 ≤ℤ gap_at P (whole_point (farthest box P.normal))
reaches_it box P X b s =
    let n : ℕ → ℤ = P.normal in
    let l : ℕ → ℤ = low_corner box in
    let h : ℕ → ℤ = high_corner box in
    let f : ℕ → ℤ = farthest box n in
    let x : ℕ → ℤ = X.numbers in
    let at : (j : ℕ) → j < 3 → (n j *ℤ x j) ≤ℤ (pos X.k *ℤ (n j *ℤ f j)) = λ j m. along (n j) (l j) (h j) (x j) X.k (b.least j m) (b.greatest j m) in
    reached (n 0 *ℤ x 0) (n 1 *ℤ x 1) (n 2 *ℤ x 2) (n 0 *ℤ f 0) (n 1 *ℤ f 1) (n 2 *ℤ f 2) P.distance X.k X.some
    (at 0 (lit< tt)) (at 1 (lit< tt)) (at 2 (lit< tt)) s.side

-- ---- as the code picks it

abbrev R32 : ℤ → ℤ
R32 z = to_z w32 (of_z w32 z)

either : (K : ℤ → Type 0) (b : Bool) (l h : ℤ) → K l → K h → K (cond b l h)
either K true l h p q = p
either K false l h p q = q

picked : (n l h r : ℤ) → nat_abs n ≤ normal_limit → nat_abs l ≤ grid_limit → nat_abs h ≤ grid_limit → r ≡ cond (lt_z (R n) (pos 0)) (R32 l) (R32 h) → R r ≡ cond (lt_z n (pos 0)) l h
picked n l h r N L H g = (again (lit≤ tt) (record {
  is = g ∙ (λ t. cond (lt_z ((known (lit≤ tt) n N).is t) (pos 0)) (get l L t) (get h H t));
  size = either (λ z. nat_abs z ≤ grid_limit) (lt_z n (pos 0)) l h L H;
})).is
  where
    get : (z : ℤ) → nat_abs z ≤ grid_limit → R32 z ≡ z
    get z s = (read w32 (itself z s) (lit< tt)).is

module _ (box : List ℤ) (e : box_within box ≡ true) where
  small : (i : ℕ) → i < 6 → nat_abs (number_at box i) ≤ grid_limit
  small = numbers_small box e

  module _ (n : Vec3i) (N : Sized normal_limit n) where
    pub farthest_read : (x y z : ℤ)
        → x ≡ cond (lt_z (R n.x) (pos 0)) (R32 (number_at box 0)) (R32 (number_at box 3))
        → y ≡ cond (lt_z (R n.y) (pos 0)) (R32 (number_at box 1)) (R32 (number_at box 4))
        → z ≡ cond (lt_z (R n.z) (pos 0)) (R32 (number_at box 2)) (R32 (number_at box 5))
        → ◌≡◌ {A = Point} (record { numbers = record { x = R x; y = R y; z = R z }; k = pos 1 }) (whole_point (farthest box (vec_of n)))
    farthest_read x y z X Y Z = λ t. record {
      numbers = record {
        x = picked n.x (number_at box 0) (number_at box 3) x N.x (small 0 (lit< tt)) (small 3 (lit< tt)) X t;
        y = picked n.y (number_at box 1) (number_at box 4) y N.y (small 1 (lit< tt)) (small 4 (lit< tt)) Y t;
        z = picked n.z (number_at box 2) (number_at box 5) z N.z (small 2 (lit< tt)) (small 5 (lit< tt)) Z t;
      };
      k = pos 1;
    }

  wide : {n : ℕ} → n ≤ grid_limit → n ≤ largest_coordinate
  wide h = le_trans h (lit≤ {m = grid_limit} {n = largest_coordinate} tt)

  -- corners are small
  pub corner_small : SmallPoint (whole_point (low_corner box))
  corner_small = record { numbers = record { x = wide (small 0 (lit< tt)); y = wide (small 1 (lit< tt)); z = wide (small 2 (lit< tt)) }; k = lit≤ tt }

-- a corner that is in view is found
pub corner_found : {view box : List ℤ} {n : ℕ} (A : ℕ → ℤ) → SmallPoint (whole_point A) → Seen view box n (whole_point A) → Satisfying view box n (whole_point A)
corner_found A s h = record { k = 1; is = refl; some = lit≤ tt; small = s; seen = h }
