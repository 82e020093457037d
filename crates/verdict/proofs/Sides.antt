-- The planes that have a point on their positive side, as the bits of a number: how one pass from the last plane to the first makes them, and what they say of
-- the tests of the definitions. Assumes nothing.
use Rattle.std.proofs.Common.{◌≡◌, ℕ, ◌+◌, ◌-◌, ◌*◌, ◌/◌, ◌%◌, ◌^◌, ◌<◌, ◌≤◌, Bool, true, false, ◌&&◌, ◌||◌, eqb, List, [], ◌∷◌, length, sym, refl, ap, ◌∙◌, arith, pow_mono}
use mir.Val.{bool_byte}
use lib.Bits.{bit_and, bit_or}
use Rattle.number.specs.Limits.{fewest_planes, most_planes}
use Rattle.number.specs.Every.{every}
use Rattle.number.specs.Tabulate.{tabulate}
use Rattle.matrix.specs.declared.vec.Vec3d.{Vec3d}
use Rattle.verdict.specs.declared.plane.Plane.{Plane}
use Rattle.verdict.specs.Plane.{on_positive_side}
use Rattle.verdict.specs.View.{near_plane, near_and_far}
use Rattle.verdict.specs.Frustum.{point_in_view, has_end, has_corner, has_corners}
use Rattle.verdict.specs.Steps.Passes.{bit, mask_of, sides_of, all_planes, near_and_far_in}
use Rattle.verdict.proofs.Masks.{bit_small, below, ones, either, both}

-- ---- the bits of a point, plane by plane

doubled : (m n : ℕ) (z : Bool) → m < n → m * 2 + bool_byte z < n * 2
doubled m n true h = omega arith
doubled m n false h = omega arith

-- where not all planes have passed there is room for one bit more
pub room : (left : List Plane) (x : Vec3d) (m : ℕ) (z : Bool) → length left < most_planes → m ≡ sides_of left x → m * 2 + bool_byte z < 2 ^ most_planes
room left x m z h e =
    let k : length left ≤ most_planes - 1 = omega arith in
    doubled m (2 ^ (most_planes - 1)) z (omega (arith, below (λ p. on_positive_side p x) left, pow_mono k))

same_bit : (z : Bool) → bool_byte z ≡ bit z
same_bit true = refl
same_bit false = refl

pub sides_next : (left rest : List Plane) (p : Plane) (x : Vec3d) (z : Bool) (m : ℕ) → left ≡ p ∷ rest → z ≡ on_positive_side p x → m ≡ sides_of rest x
    → m * 2 + bool_byte z ≡ sides_of left x
unfolding mask_of
sides_next left rest p x z m e q u =
    ap (λ (b : ℕ). m * 2 + b) (same_bit z) ∙ (λ t. u t * 2 + bit (q t)) ∙ sym (ap (λ (ps : List Plane). sides_of ps x) e)

-- no plane has passed, and no bit is set
pub no_sides : (left : List Plane) (x : Vec3d) → left ≡ [] → 0 ≡ sides_of left x
unfolding mask_of
no_sides left x e = sym (ap (λ (ps : List Plane). sides_of ps x) e)

-- ---- what the bits say of the tests of the definitions, of c planes

module _ (ps : List Plane) (c : ℕ) (count : length ps ≡ c) where
  full : (test : Plane → Bool) (m : ℕ) → m ≡ mask_of test ps → every test ps ≡ eqb m (all_planes c)
  full test m e = ones test ps ∙ (λ t. eqb (sym e t) (2 ^ count t - 1))

  inside : (x : Vec3d) (m : ℕ) → m ≡ sides_of ps x → point_in_view ps x ≡ eqb m (all_planes c)
  unfolding point_in_view
  inside x m e = full (λ p. on_positive_side p x) m e

  module _ (a b : Vec3d) (m n : ℕ) (u : m ≡ sides_of ps a) (v : n ≡ sides_of ps b) where
    either_side : bit_or m n ≡ mask_of (has_end a b) ps
    either_side = (λ t. bit_or (u t) (v t)) ∙ either (λ p. on_positive_side p a) (λ p. on_positive_side p b) ps

    pub some_end : every (has_end a b) ps ≡ eqb (bit_or m n) (all_planes c)
    some_end = full (has_end a b) (bit_or m n) either_side

    pub end_inside : (point_in_view ps a || point_in_view ps b) ≡ (eqb m (all_planes c) || eqb n (all_planes c))
    end_inside = λ t. inside a m u t || inside b n v t

    module _ (d : Vec3d) (o : ℕ) (w : o ≡ sides_of ps d) where
      pub some_corner : every (has_corner a b d) ps ≡ eqb (bit_or (bit_or m n) o) (all_planes c)
      some_corner = full (has_corner a b d) (bit_or (bit_or m n) o) ((λ t. bit_or (either_side t) (w t)) ∙ either (has_end a b) (λ p. on_positive_side p d) ps)

      pub corner_inside : (point_in_view ps a || point_in_view ps b || point_in_view ps d) ≡ (eqb m (all_planes c) || eqb n (all_planes c) || eqb o (all_planes c))
      corner_inside = λ t. end_inside t || inside d o w t

      pub all_corners : bit_and (bit_and m n) o ≡ mask_of (has_corners a b d) ps
      all_corners =
          (λ t. bit_and (bit_and (u t) (v t)) (w t)) ∙ ap (λ (k : ℕ). bit_and k (sides_of ps d)) (both (λ p. on_positive_side p a) (λ p. on_positive_side p b) ps)
          ∙ both (λ p. on_positive_side p a && on_positive_side p b) (λ p. on_positive_side p d) ps

-- of the bits of the original planes those of the near one and the far one
pub near_and_far_lem : (f : ℕ → Plane) (test : Plane → Bool) (m : ℕ) → m ≡ mask_of test (tabulate f fewest_planes)
    → every test (near_and_far (tabulate f fewest_planes)) ≡ near_and_far_in m
unfolding mask_of tabulate
near_and_far_lem f test m e =
    let b : (i : ℕ) → bit (test (f i)) < 2 = λ i. bit_small (test (f i)) in
    let k : mask_of test (near_and_far (tabulate f fewest_planes)) ≡ m / 2 ^ near_plane % 4 = omega (arith, e, b 0, b 1, b 2, b 3, b 4, b 5) in
    ones test (near_and_far (tabulate f fewest_planes)) ∙ ap (λ (n : ℕ). eqb n 3) k
