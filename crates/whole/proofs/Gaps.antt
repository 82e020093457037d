-- How far in front of a plane a point lies, as the machine computes it: on the grid no product and no sum overflows, and the distance is at most `gap_limit` in size.
-- Assumes nothing.
use mathlib.Core.Path.{◌≡◌, sym, subst, ◌∙◌}
use mathlib.Core.Bool.{true}
use mathlib.Core.List.{List}
use Prim.Native.Nat.{ℕ, ◌+◌, ◌*◌, ◌≤◌}
use native.Mathlib.Nat.{mul-le-mul}
use native.Mathlib.Omega.{arith}
use lib.Dec.{lit<}
use lib.IntN.{ℤ, nat_abs, ◌+ℤ◌, ◌-ℤ◌, ◌*ℤ◌}
use mir.Syntax.{w32, w64}
use mir.Val.{SFits, to_z, of_z}
use Rattle.number.specs.Limits.{grid_limit, normal_limit, distance_limit}
use Rattle.whole.specs.Plane.{WholePlane, gap}
use Rattle.whole.specs.SegmentCall.{number_at, point_of, plane_start, plane_at, point_within, plane_within}
use Rattle.whole.specs.Steps.{gap_limit, widest}
use Rattle.whole.proofs.Integer.{of_self, of_sum, of_minus, of_times, of_eq, abs_sum, abs_minus, abs_times}
use Rattle.whole.proofs.Registers.{Held, held_fits, read, widened, widens, held_times, held_sum, held_minus}
use Rattle.whole.proofs.Limits.{point_sizes, plane_sizes}

-- a number of 32 bits, in a register of 64
abbrev wide : ℤ → ℤ
wide z = to_z w64 (of_z w64 (to_z w32 (of_z w32 z)))

-- ---- seven numbers on the grid
module _ (a b c d x y z : ℤ)
    (A : nat_abs a ≤ normal_limit) (B : nat_abs b ≤ normal_limit) (C : nat_abs c ≤ normal_limit) (D : nat_abs d ≤ distance_limit)
    (X : nat_abs x ≤ grid_limit) (Y : nat_abs y ≤ grid_limit) (Z : nat_abs z ≤ grid_limit) where
  first : Held (wide a *ℤ wide x) (a *ℤ x) (normal_limit * grid_limit)
  first = held_times (widened a normal_limit A (lit< tt) (lit< tt)) (widened x grid_limit X (lit< tt) (lit< tt))

  second : Held (wide b *ℤ wide y) (b *ℤ y) (normal_limit * grid_limit)
  second = held_times (widened b normal_limit B (lit< tt) (lit< tt)) (widened y grid_limit Y (lit< tt) (lit< tt))

  third : Held (wide c *ℤ wide z) (c *ℤ z) (normal_limit * grid_limit)
  third = held_times (widened c normal_limit C (lit< tt) (lit< tt)) (widened z grid_limit Z (lit< tt) (lit< tt))

  two : Held (to_z w64 (of_z w64 (wide a *ℤ wide x)) +ℤ to_z w64 (of_z w64 (wide b *ℤ wide y))) (a *ℤ x +ℤ b *ℤ y) (normal_limit * grid_limit + normal_limit * grid_limit)
  two = held_sum (read w64 first (lit< tt)) (read w64 second (lit< tt))

  pub two_fit : SFits w64 (to_z w64 (of_z w64 (wide a *ℤ wide x)) +ℤ to_z w64 (of_z w64 (wide b *ℤ wide y)))
  two_fit = held_fits w64 two (lit< tt)

  abbrev two_read : ℤ
  two_read = to_z w64 (of_z w64 (to_z w64 (of_z w64 (wide a *ℤ wide x)) +ℤ to_z w64 (of_z w64 (wide b *ℤ wide y))))

  three : Held (two_read +ℤ to_z w64 (of_z w64 (wide c *ℤ wide z))) (a *ℤ x +ℤ b *ℤ y +ℤ c *ℤ z) (normal_limit * grid_limit + normal_limit * grid_limit + normal_limit * grid_limit)
  three = held_sum (read w64 two (lit< tt)) (read w64 third (lit< tt))

  pub three_fit : SFits w64 (two_read +ℤ to_z w64 (of_z w64 (wide c *ℤ wide z)))
  three_fit = held_fits w64 three (lit< tt)

  abbrev whole : ℤ
  whole = to_z w64 (of_z w64 (two_read +ℤ to_z w64 (of_z w64 (wide c *ℤ wide z)))) -ℤ wide d

  all : Held whole (a *ℤ x +ℤ b *ℤ y +ℤ c *ℤ z -ℤ d) gap_limit
  all = held_minus (read w64 three (lit< tt)) (widened d distance_limit D (lit< tt) (lit< tt))

  pub all_fit : SFits w64 whole
  all_fit = held_fits w64 all (lit< tt)

  pub all_is : Held (to_z w64 (of_z w64 whole)) (a *ℤ x +ℤ b *ℤ y +ℤ c *ℤ z -ℤ d) gap_limit
  all_is = read w64 all (lit< tt)

-- ---- a plane and a point of the grid

pub gap_far : (P : WholePlane) (A : ℕ → ℤ) → plane_within P ≡ true → point_within A ≡ true → nat_abs (gap P A) ≤ gap_limit
gap_far P A e f =
    let p = plane_sizes P e in
    let q = point_sizes A f in
    (all_is (P.normal 0) (P.normal 1) (P.normal 2) P.distance (A 0) (A 1) (A 2) p.0 p.1 p.2 p.3 q.0 q.1 q.2).size

-- along a segment the distance changes by the dot product of normal and way
spread : (n x y : ℤ) → nat_abs n ≤ normal_limit → nat_abs x ≤ grid_limit → nat_abs y ≤ grid_limit → nat_abs (n *ℤ (y -ℤ x)) ≤ normal_limit * (grid_limit + grid_limit)
spread n x y N X Y = rw (abs_times n (y -ℤ x)) (mul-le-mul {m₂ = grid_limit + grid_limit} N (omega (arith, abs_minus y x, X, Y)))

times_minus : (n x y : ℤ) → n *ℤ y -ℤ n *ℤ x ≡ n *ℤ (y -ℤ x)
times_minus n x y =
    let N = of_self n in
    let X = of_self x in
    let Y = of_self y in
    of_eq (of_minus (of_times N Y) (of_times N X)) (of_times N (of_minus Y X)) (omega arith)

grouped : (a b c d x y z : ℤ) → x +ℤ y +ℤ z -ℤ d -ℤ (a +ℤ b +ℤ c -ℤ d) ≡ (x -ℤ a) +ℤ (y -ℤ b) +ℤ (z -ℤ c)
grouped a b c d x y z =
    let A = of_self a in
    let B = of_self b in
    let C = of_self c in
    let D = of_self d in
    let X = of_self x in
    let Y = of_self y in
    let Z = of_self z in
    of_eq (of_minus (of_minus (of_sum (of_sum X Y) Z) D) (of_minus (of_sum (of_sum A B) C) D)) (of_sum (of_sum (of_minus X A) (of_minus Y B)) (of_minus Z C)) (omega arith)

pub gap_wide : (P : WholePlane) (A B : ℕ → ℤ) → plane_within P ≡ true → point_within A ≡ true → point_within B ≡ true → nat_abs (gap P B -ℤ gap P A) ≤ widest
gap_wide P A B e f g =
    let p = plane_sizes P e in
    let q = point_sizes A f in
    let r = point_sizes B g in
    let n = P.normal in
    let x = n 0 *ℤ (B 0 -ℤ A 0) in
    let y = n 1 *ℤ (B 1 -ℤ A 1) in
    let z = n 2 *ℤ (B 2 -ℤ A 2) in
    let m = grouped (n 0 *ℤ A 0) (n 1 *ℤ A 1) (n 2 *ℤ A 2) P.distance (n 0 *ℤ B 0) (n 1 *ℤ B 1) (n 2 *ℤ B 2)
    ∙ (λ t. times_minus (n 0) (A 0) (B 0) t +ℤ times_minus (n 1) (A 1) (B 1) t +ℤ times_minus (n 2) (A 2) (B 2) t) in
    let s : nat_abs (x +ℤ y +ℤ z) ≤ widest =
    omega (arith, abs_sum (x +ℤ y) z, abs_sum x y, spread (n 0) (A 0) (B 0) p.0 q.0 r.0, spread (n 1) (A 1) (B 1) p.1 q.1 r.1, spread (n 2) (A 2) (B 2) p.2 q.2 r.2) in
    subst (λ (w : ℤ). nat_abs w ≤ widest) (sym m) s

-- a distance that was computed, read again
pub gap_read : (P : WholePlane) (A : ℕ → ℤ) (u : ℤ) → u ≡ gap P A → plane_within P ≡ true → point_within A ≡ true → Held (to_z w64 (of_z w64 u)) (gap P A) gap_limit
gap_read P A u e h k = read w64 (record { is = e; size = gap_far P A h k }) (lit< tt)

-- ---- plane i of a view, read from the place where it begins, and a point

pub record OnGrid (v : List ℤ) (i from : ℕ) (p : List ℤ) : Type 0 where
  pub begins : from ≡ plane_start i
  pub plane : plane_within (plane_at v i) ≡ true
  pub point : point_within (point_of p) ≡ true

pub on : (v : List ℤ) (i from : ℕ) (p : List ℤ) → from ≡ plane_start i → plane_within (plane_at v i) ≡ true → point_within (point_of p) ≡ true → OnGrid v i from p
on v i from p e h k = record { begins = e; plane = h; point = k }

module _ {v : List ℤ} {i from : ℕ} {p : List ℤ} (g : OnGrid v i from p) where
  -- where the first of its numbers is
  begins_at : from ≡ plane_start i + 0
  begins_at = omega (arith, g.begins)

  sizes : (nat_abs (number_at v from) ≤ normal_limit) × (nat_abs (number_at v (from + 1)) ≤ normal_limit) × (nat_abs (number_at v (from + 2)) ≤ normal_limit) × (nat_abs (number_at v (from + 3)) ≤ distance_limit)
  sizes =
      let P = plane_sizes (plane_at v i) g.plane in (
        subst (λ (k : ℕ). nat_abs (number_at v k) ≤ normal_limit) (sym begins_at) P.0,
        subst (λ (k : ℕ). nat_abs (number_at v (k + 1)) ≤ normal_limit) (sym g.begins) P.1,
        subst (λ (k : ℕ). nat_abs (number_at v (k + 2)) ≤ normal_limit) (sym g.begins) P.2,
        subst (λ (k : ℕ). nat_abs (number_at v (k + 3)) ≤ distance_limit) (sym g.begins) P.3,
      )

  ends : (nat_abs (number_at p 0) ≤ grid_limit) × (nat_abs (number_at p 1) ≤ grid_limit) × (nat_abs (number_at p 2) ≤ grid_limit)
  ends = point_sizes (point_of p) g.point

  pub distance : SFits w64 (to_z w32 (of_z w32 (number_at v (from + 3))))
  distance = widens (number_at v (from + 3)) distance_limit sizes.3 (lit< tt) (lit< tt)

  abbrev a : ℤ
  a = number_at v from

  abbrev b : ℤ
  b = number_at v (from + 1)

  abbrev c : ℤ
  c = number_at v (from + 2)

  abbrev d : ℤ
  d = number_at v (from + 3)

  abbrev x : ℤ
  x = number_at p 0

  abbrev y : ℤ
  y = number_at p 1

  abbrev z : ℤ
  z = number_at p 2

  pub sum_of_two : SFits w64 (to_z w64 (of_z w64 (wide a *ℤ wide x)) +ℤ to_z w64 (of_z w64 (wide b *ℤ wide y)))
  sum_of_two = two_fit a b c d x y z sizes.0 sizes.1 sizes.2 sizes.3 ends.0 ends.1 ends.2

  pub sum_of_three : SFits w64 (to_z w64 (of_z w64 (to_z w64 (of_z w64 (wide a *ℤ wide x)) +ℤ to_z w64 (of_z w64 (wide b *ℤ wide y)))) +ℤ to_z w64 (of_z w64 (wide c *ℤ wide z)))
  sum_of_three = three_fit a b c d x y z sizes.0 sizes.1 sizes.2 sizes.3 ends.0 ends.1 ends.2

  abbrev machine : ℤ
  machine =
      to_z w64 (of_z w64 (to_z w64 (of_z w64 (to_z w64 (of_z w64 (wide a *ℤ wide x)) +ℤ to_z w64 (of_z w64 (wide b *ℤ wide y)))) +ℤ to_z w64 (of_z w64 (wide c *ℤ wide z))))
      -ℤ wide d

  pub difference : SFits w64 machine
  difference = all_fit a b c d x y z sizes.0 sizes.1 sizes.2 sizes.3 ends.0 ends.1 ends.2

  pub gap_is : to_z w64 (of_z w64 machine) ≡ gap (plane_at v i) (point_of p)
  gap_is =
      (all_is a b c d x y z sizes.0 sizes.1 sizes.2 sizes.3 ends.0 ends.1 ends.2).is
      ∙ (λ t. let k = g.begins t in number_at v (begins_at t) *ℤ x +ℤ number_at v (k + 1) *ℤ y +ℤ number_at v (k + 2) *ℤ z -ℤ number_at v (k + 3))
