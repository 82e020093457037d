-- What the tests of the filter tell of its numbers, in units. The idea: a size between two finite numbers is finite, and so is all that it is made of. Assumes nothing.
use Rattle.std.proofs.Common.{ℕ, ◌+◌, ◌*◌, ◌^◌, ◌≤◌, false, T, pos, negsuc, refl, arith, lit≤}
use lib.Count.{count_trailing_zeros}
use lib.Ieee.{Float, nan, inf, fin, lt, le, eq, mul, round, units, odd, size, span, climb}
use lib.Ieee.Scale.{finite}
use Rattle.number.specs.Arithmetic.{◌⊕◌, ◌⊗◌, abs_of}
use Rattle.number.proofs.Comparisons.{le_through, lt_le}
use Rattle.matrix.specs.Constants.{rounded, one, min_length}
use Rattle.matrix.specs.declared.range.Range3d.{Range3d}
use Rattle.verdict.specs.Steps.Filter.{short, long, least_size, most_size, part, extent_of, RangeFits}
use Rattle.number.proofs.RoundingError.{unit, room, least_of_lem, Is, of_value, Units, units_of_lem, abs_is, sum_like, le_units, add_finite_both}
use Rattle.verdict.proofs.FilterTerms.{six}

-- ---- the constants

-- more than 1e18
unfoldable pub far : ℕ
far = 2 ^ 60

-- bounds of the numbers of a normal and of those of a range
abbrev pub Normal : ℕ
Normal = 2 * (far * far) + 19

abbrev pub End : ℕ
End = 2 * far + 20

-- 2 ^ k and its inverse, as floats
abbrev pub up_to : ℕ → Float
up_to k = fin false 1 (pos k)

abbrev pub down_to : ℕ → Float
down_to k = fin false 1 (negsuc k)

unfoldable pub part_units : ℕ
part_units = 6189700196426901 * 2 ^ 985

pub record Figures : Type 0 where
  pub long_most : T (le long (up_to 60))
  pub long_square_most : T (le (long ⊗ long) (up_to 120))
  pub short_square_least : T (le (down_to 61) (short ⊗ short))
  pub least_least : T (le (down_to 299) least_size)
  pub most_most : T (le most_size (up_to 300))
  pub min_length_most : T (le min_length (down_to 30))
  pub least_finite : T (finite least_size)
  pub most_finite : T (finite most_size)
  pub far_is : Is (up_to 60) false (far * unit)
  pub far_square_is : Is (up_to 120) false (far * far * unit)
  pub most_is : Is (up_to 300) false (2 ^ 300 * unit)
  pub least_is : Is (down_to 299) false (2 ^ 774)
  pub short_square_is : Is (down_to 61) false (2 ^ 1012)
  pub min_length_is : Is (down_to 30) false (2 ^ 1043)
  pub one_is : Is one false unit
  pub three_is : Is (rounded 3 1) false (3 * unit)
  pub part_is : Is part false part_units
  pub least_size_lem : 2 ^ 40 + 40 * far + 40 * (far * far) ≤ 2 ^ 774
  pub error_size : 2 ^ 39 * (1024 * ((Normal + 1) * (End + 1)) * far) ≤ 2 ^ 774
  pub part_least : unit ≤ 2 ^ 37 * part_units
  pub part_most : part_units ≤ unit
  pub root_least : 2 ^ 1043 * 2 ^ 1043 ≤ 2 ^ 1012 * unit
  pub length_least : unit ≤ 2 ^ 31 * 2 ^ 1043
  pub over_room : 2 ^ 31 ≤ room
  pub scaled_room : Normal * 2 ^ 33 ≤ room
  pub made_room : (2 * (Normal * 2 ^ 33) + 1) * End ≤ room
  pub estimate_room : Normal * End ≤ room
  pub error_room : 2 ^ 300 * 1 ≤ room
  pub last_room : 3 * 2 ^ 300 * 2 ^ 31 ≤ room
  pub length_room : 2 ^ 47 * (3 * 2 ^ 300 * 2 ^ 31) ≤ room
  pub unit_room : 2 ^ 47 * (3 * 2 ^ 300 * 1) ≤ room

pub figures : Figures
unfolding unit room far part_units le lt eq mul round units odd size span climb count_trailing_zeros
figures = record {
  long_most = tt;
  long_square_most = tt;
  short_square_least = tt;
  least_least = tt;
  most_most = tt;
  min_length_most = tt;
  least_finite = tt;
  most_finite = tt;
  far_is = of_value (refl, refl);
  far_square_is = of_value (refl, refl);
  most_is = of_value (refl, refl);
  least_is = of_value (refl, refl);
  short_square_is = of_value (refl, refl);
  min_length_is = of_value (refl, refl);
  one_is = of_value (refl, refl);
  three_is = of_value (refl, refl);
  part_is = of_value (refl, refl);
  least_size_lem = lit≤ tt;
  error_size = lit≤ tt;
  part_least = lit≤ tt;
  part_most = lit≤ tt;
  root_least = lit≤ tt;
  length_least = lit≤ tt;
  over_room = lit≤ tt;
  scaled_room = lit≤ tt;
  made_room = lit≤ tt;
  estimate_room = lit≤ tt;
  error_room = lit≤ tt;
  last_room = lit≤ tt;
  length_room = lit≤ tt;
  unit_room = lit≤ tt;
}

-- ---- a number that is above or below another, in units

plain : (a b : ℕ) → (a + 0 ≤ b + 0 → a ≤ b) × (a ≤ b → a + 0 ≤ b + 0)
plain a b = (λ h. omega arith, λ h. omega arith)

pub at_most : {x y : Float} {a b : ℕ} → Is x false a → Is y false b → a ≤ b → T (le x y)
at_most {a = a} {b} X Y h = (le_units X Y).1 ((plain a b).1 h)

pub over : {x p : Float} {a b : ℕ} (c : Float) → Is p false b → Is x false a → T (le p c) → T (lt c x) → b ≤ a
over {x} {p} {a} {b} c P X h k = (plain b a).0 ((le_units P X).0 (le_through p c x h (lt_le c x k)))

pub under : {x p : Float} {a b : ℕ} (c : Float) → Is x false a → Is p false b → T (lt x c) → T (le c p) → a ≤ b
under {x} {p} {a} {b} c X P h k = (plain a b).0 ((le_units X P).0 (le_through x c p (lt_le x c h) k))

-- ---- the numbers of a range

-- a finite number of the format, of at most e units
pub record Within (e : ℕ) (x : Float) : Type 0 where
  pub number : Units x
  pub most : number.size ≤ e

pub finite_abs : (x : Float) → T (finite (abs_of x)) → T (finite x)
unfolding abs_of
finite_abs nan f = absurd f
finite_abs (inf s) f = absurd f
finite_abs (fin s m e) f = tt

-- none is further than twice the extent, and a little
pub record Extent (r : Range3d) : Type 0 where
  pub units : ℕ
  pub is : Is (extent_of r) false units
  pub min_x : Within (2 * units + 20) r.min.x
  pub min_y : Within (2 * units + 20) r.min.y
  pub min_z : Within (2 * units + 20) r.min.z
  pub max_x : Within (2 * units + 20) r.max.x
  pub max_y : Within (2 * units + 20) r.max.y
  pub max_z : Within (2 * units + 20) r.max.z

pub extent : (r : Range3d) → RangeFits r → T (finite (extent_of r)) → Extent r
extent r h f5 =
    let a = abs_of r.min.x in
    let b = abs_of r.min.y in
    let c = abs_of r.min.z in
    let d = abs_of r.max.x in
    let e = abs_of r.max.y in
    let g = abs_of r.max.z in
    let (f4, fg) = add_finite_both (a ⊕ b ⊕ c ⊕ d ⊕ e) g f5 in
    let (f3, fe) = add_finite_both (a ⊕ b ⊕ c ⊕ d) e f4 in
    let (f2, fd) = add_finite_both (a ⊕ b ⊕ c) d f3 in
    let (f1, fc) = add_finite_both (a ⊕ b) c f2 in
    let (fa, fb) = add_finite_both a b f1 in
    let ua = units_of_lem r.min.x h.0 (finite_abs r.min.x fa) in
    let ub = units_of_lem r.min.y h.1 (finite_abs r.min.y fb) in
    let uc = units_of_lem r.min.z h.2 (finite_abs r.min.z fc) in
    let ud = units_of_lem r.max.x h.3 (finite_abs r.max.x fd) in
    let ue = units_of_lem r.max.y h.4 (finite_abs r.max.y fe) in
    let ug = units_of_lem r.max.z h.5 (finite_abs r.max.z fg) in
    let s1 = sum_like (abs_is ua.is) (abs_is ub.is) f1 in
    let s2 = sum_like s1.is (abs_is uc.is) f2 in
    let s3 = sum_like s2.is (abs_is ud.is) f3 in
    let s4 = sum_like s3.is (abs_is ue.is) f4 in
    let s5 = sum_like s4.is (abs_is ug.is) f5 in
    let k =
    six ua.size ub.size uc.size ud.size ue.size ug.size s1.units s2.units s3.units s4.units s5.units (least_of_lem _ _ 1 s1.near) (least_of_lem _ _ 1 s2.near) (least_of_lem _ _ 1 s3.near)
    (least_of_lem _ _ 1 s4.near) (least_of_lem _ _ 1 s5.near) in
    record {
      units = s5.units;
      is = s5.is;
      min_x = record { number = ua; most = omega (arith, k) };
      min_y = record { number = ub; most = omega (arith, k) };
      min_z = record { number = uc; most = omega (arith, k) };
      max_x = record { number = ud; most = omega (arith, k) };
      max_y = record { number = ue; most = omega (arith, k) };
      max_z = record { number = ug; most = omega (arith, k) };
    }
