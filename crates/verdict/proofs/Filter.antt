-- The filter settles the test of a plane by a range: where the estimate is as large as the bound on its error, the reach and the distance, rounded as they are, lie on the side that it tells. The idea: times the
-- length of the normal, the reach is close to n · c and the distance to -w, and so is the estimate to their sum; all the errors together are less than a part of the sizes that are added up. Assumes nothing.
use Rattle.std.proofs.Common.{◌≡◌, ℕ, ◌+◌, ◌*◌, ◌^◌, ◌<◌, ◌≤◌, Bool, true, false, not, ◌&&◌, T, refl, ap, ◌∙◌, le_trans, mul-le-mul_right, mul-le-mul_left, le_of_mul-le-mul_right, arith, lit≤}
use native.Mathlib.Nat.{le_of_mul-le-mul_left}
use lib.Ieee.{Float, binary64, fits, lt, le, neg}
use lib.Ieee.Bits.{is_true}
use lib.Ieee.Fits.{add-fits}
use lib.Ieee.Positive.{positive_of_value}
use lib.Ieee.Scale.{finite}
use Rattle.number.specs.Arithmetic.{◌⊕◌, ◌⊗◌, ◌⊘◌, abs_of, max_of}
use Rattle.number.specs.Root.{sqrt_of}
use Rattle.number.proofs.Comparisons.{over_zero, under_zero, le_through, lt_le, between_finite, refuted}
use Rattle.matrix.specs.Constants.{rounded, one, min_length}
use Rattle.matrix.specs.Vec.{length_of, normalized}
use Rattle.matrix.specs.Range.{is_empty}
use Rattle.matrix.specs.declared.vec.Vec4d.{Vec4d}
use Rattle.matrix.specs.declared.range.Range3d.{Range3d}
use Rattle.verdict.specs.Plane.{from_equation, end_toward, reaches_positive_side}
use Rattle.verdict.specs.Steps.Filter.{short, long, least_size, most_size, extent_of, size_of, error_of, trusted, Fits, RangeFits, FilterSettles}
use Rattle.verdict.proofs.ReachSum.{reach_by_dot}
use Rattle.verdict.proofs.LengthBracket.{larger_is, offset_is}
use Rattle.number.proofs.RoundingError.{unit, room, unit_positive, least_of_lem, most_of, Is, is_value, Units, Rounded, units_of_lem, abs_is, neg_is, product, product_like, quotient, sum_like, both_sides, le_units, add_finite_both, mul_finite_both}
use Rattle.number.proofs.CountedErrors.{About, about, rounded_about, Scale, add}
use Rattle.number.proofs.RootBracket.{Root, root_of_lem}
use Rattle.verdict.proofs.FilterTerms.{normals, Sizes, sizes, rooms}
use Rattle.verdict.proofs.FilterNumbers.{far, Normal, End, up_to, down_to, part_units, figures, at_most, over, under, finite_abs, Within, Extent, extent}
use Rattle.verdict.proofs.FilterAxis.{Axis, axis, room_for}

-- the error as 128 parts
parts : (m : ℕ) → (ε : ℕ) × (128 * ε ≡ m * unit)
unfolding unit
parts m = (m * 2 ^ 1067, go (2 ^ 1067) (2 ^ 1074) refl)
  where
    go : (e u : ℕ) → 128 * e ≡ u → 128 * (m * e) ≡ m * u
    go e u h = omega (arith, ap (λ (i : ℕ). m * i) h)

five : (a b c d e : Bool) → T (a && b && c && d && e) → T a × T b × T c × T d × T e
five false b c d e h = absurd h
five true false c d e h = absurd h
five true true false d e h = absurd h
five true true true false e h = absurd h
five true true true true false h = absurd h
five true true true true true h = (tt, tt, tt, tt, tt)

-- ---- the numbers of the test

module _ (x y z w : Float) (r : Range3d) (he : Fits (record { x = x; y = y; z = z; w = w })) (hr : RangeFits r) (H : T (trusted (record { x = x; y = y; z = z; w = w }) r)) where
  abbrev e : Vec4d
  e = record { x = x; y = y; z = z; w = w }

  abbrev q : Float
  q = x ⊗ x ⊕ y ⊗ y ⊕ z ⊗ z

  abbrev size : Float
  size = size_of e r

  tests : T (lt (extent_of r) long) × T (lt (short ⊗ short) q) × T (lt q (long ⊗ long)) × T (lt least_size size) × T (lt size most_size)
  tests = five (lt (extent_of r) long) (lt (short ⊗ short) q) (lt q (long ⊗ long)) (lt least_size size) (lt size most_size) H

  -- all is finite
  size_finite : T (finite size)
  size_finite = between_finite least_size size most_size figures.least_finite figures.most_finite (lt_le least_size size tests.3) (lt_le size most_size tests.4)

  parts_finite : T (finite (extent_of r ⊗ (rounded 3 1 ⊕ q))) × T (finite (abs_of w))
  parts_finite = add_finite_both (extent_of r ⊗ (rounded 3 1 ⊕ q)) (abs_of w) size_finite

  factors_finite : T (finite (extent_of r)) × T (finite (rounded 3 1 ⊕ q))
  factors_finite = mul_finite_both (extent_of r) (rounded 3 1 ⊕ q) parts_finite.0

  square_finite : T (finite q)
  square_finite = (add_finite_both (rounded 3 1) q factors_finite.1).1

  squares_finite : T (finite (x ⊗ x ⊕ y ⊗ y)) × T (finite (z ⊗ z))
  squares_finite = add_finite_both (x ⊗ x ⊕ y ⊗ y) (z ⊗ z) square_finite

  two_finite : T (finite (x ⊗ x)) × T (finite (y ⊗ y))
  two_finite = add_finite_both (x ⊗ x) (y ⊗ y) squares_finite.0

  nx : Units x
  nx = units_of_lem x he.0 (mul_finite_both x x two_finite.0).0

  ny : Units y
  ny = units_of_lem y he.1 (mul_finite_both y y two_finite.1).0

  nz : Units z
  nz = units_of_lem z he.2 (mul_finite_both z z squares_finite.1).0

  nw : Units w
  nw = units_of_lem w he.3 (finite_abs w parts_finite.1)

  ends : Extent r
  ends = extent r hr factors_finite.0

  abbrev γ : ℕ
  γ = ends.units

  -- ---- the size and the error

  sx : Rounded (x ⊗ x) false unit (nx.size * nx.size) unit
  sx = product_like nx.is nx.is two_finite.0

  sy : Rounded (y ⊗ y) false unit (ny.size * ny.size) unit
  sy = product_like ny.is ny.is two_finite.1

  sz : Rounded (z ⊗ z) false unit (nz.size * nz.size) unit
  sz = product_like nz.is nz.is squares_finite.1

  two : Rounded (x ⊗ x ⊕ y ⊗ y) false 1 (sx.units + sy.units) 1
  two = sum_like sx.is sy.is squares_finite.0

  square : Rounded q false 1 (two.units + sz.units) 1
  square = sum_like two.is sz.is square_finite

  factor : Rounded (rounded 3 1 ⊕ q) false 1 (3 * unit + square.units) 1
  factor = sum_like figures.three_is square.is factors_finite.1

  scaled : Rounded (extent_of r ⊗ (rounded 3 1 ⊕ q)) false unit (γ * factor.units) unit
  scaled = product_like ends.is factor.is parts_finite.0

  total : Rounded size false 1 (scaled.units + nw.size) 1
  total = sum_like scaled.is (abs_is nw.is) size_finite

  abbrev α : ℕ
  α = total.units

  total_most : α ≤ 2 ^ 300 * unit
  total_most = under most_size total.is figures.most_is tests.4 figures.most_most

  total_least : 2 ^ 774 ≤ α
  total_least = over least_size figures.least_is total.is figures.least_least tests.3

  error : Rounded (error_of size) false unit (α * part_units) unit
  error = product total.is figures.part_is (room_for (2 ^ 300) 1 α part_units total_most (le_trans figures.part_most (omega arith)) figures.error_room)

  abbrev μ : ℕ
  μ = error.units

  extent_most : γ ≤ far * unit
  extent_most = under long ends.is figures.far_is tests.0 figures.long_most

  square_bounds : (g : ℕ) → Is q false g → (2 ^ 1012 ≤ g) × (g ≤ far * far * unit)
  square_bounds g h = (
    over (short ⊗ short) figures.short_square_is h figures.short_square_least tests.1,
    under (long ⊗ long) h figures.far_square_is tests.2 figures.long_square_most,
  )

  abbrev s : ℕ
  s = nx.size + ny.size + nz.size

  three_most : s ≤ 3 * unit + 2 * square.units + 16
  three_most =
      normals unit nx.size ny.size nz.size sx.units sy.units sz.units square.units two.units unit_positive (least_of_lem _ _ unit sx.near) (least_of_lem _ _ unit sy.near) (least_of_lem _ _ unit sz.near)
      (least_of_lem _ _ 1 two.near) (least_of_lem _ _ 1 square.near)

  bounds : Sizes unit s γ nw.size α μ (far * far)
  bounds =
      sizes unit s square.units factor.units γ scaled.units nw.size α part_units μ far (far * far) unit_positive three_most (least_of_lem _ _ 1 factor.near) (least_of_lem _ _ unit scaled.near)
      (least_of_lem _ _ 1 total.near) (least_of_lem _ _ unit error.near) (most_of _ _ unit error.near) (square_bounds square.units square.is).1 extent_most figures.part_least figures.part_most (le_trans figures.least_size_lem total_least)

  -- ---- the length

  abbrev L : Float
  L = sqrt_of binary64 q

  root : Root q
  root = root_of_lem q (add-fits binary64 (x ⊗ x ⊕ y ⊗ y) (z ⊗ z)) (positive_of_value q square.units unit (is_value square.is) (le_trans (lit≤ tt) (square_bounds square.units square.is).0))

  abbrev l : ℕ
  l = root.root

  root_over : 2 ^ 1043 ≤ l
  root_over = root.over (down_to 30) (2 ^ 1043) (unfold fits in tt) figures.min_length_is (le_trans figures.root_least (mul-le-mul_right unit (square_bounds root.square root.is).0))

  unit_most : unit ≤ 2 ^ 31 * l
  unit_most = le_trans figures.length_least (mul-le-mul_left (2 ^ 31) root_over)

  length_most : l ≤ far * unit
  length_most = root.under (up_to 60) (far * unit) (unfold fits in tt) figures.far_is (go unit root.square (square_bounds root.square root.is).1)
    where
      go : (u g : ℕ) → g ≤ far * far * u → g * u ≤ far * u * (far * u)
      go u g h = omega (arith, mul-le-mul_right u h)

  length_some : 0 < l
  length_some = le_trans (lit≤ tt) root_over

  least_length : T (le min_length L)
  least_length = le_through min_length (down_to 30) L figures.min_length_most (at_most figures.min_length_is root.root_is root_over)

  -- one over it
  abbrev k : Float
  k = one ⊘ L

  over_length : Rounded k false l (unit * unit) l
  over_length = quotient figures.one_is root.root_is length_some (le_trans unit_most (mul-le-mul_right l figures.over_room))

  -- ---- the measure of the errors

  abbrev ε : ℕ
  ε = (parts μ).0

  error_over : (c : ℕ) → 2 ^ 39 * c ≤ 2 ^ 774 → c ≤ μ
  error_over c h = le_of_mul-le-mul_left {k = 2 ^ 39} (le_trans h (le_trans total_least bounds.error_least)) (lit≤ tt)

  slack : 8 * ((Normal + 1) * (End + 1)) * l ≤ ε
  slack = go unit ε (error_over (1024 * ((Normal + 1) * (End + 1)) * far) figures.error_size) (parts μ).1 length_most
    where
      go : (u ε : ℕ) → 1024 * ((Normal + 1) * (End + 1)) * far ≤ μ → 128 * ε ≡ μ * u → l ≤ far * u → 8 * ((Normal + 1) * (End + 1)) * l ≤ ε
      go u ε h e k = omega (arith, mul-le-mul_right u h, e, mul-le-mul_left ((Normal + 1) * (End + 1)) k)

  length_error : l ≤ ε
  length_error = le_trans (omega arith) slack

  unit_error : unit ≤ ε
  unit_error = go unit ε (error_over 128 (lit≤ tt)) (parts μ).1
    where
      go : (u ε : ℕ) → 128 ≤ μ → 128 * ε ≡ μ * u → u ≤ ε
      go u ε h e = omega (arith, mul-le-mul_right u h, e)

  exact_most : s * (2 * γ + 20) + nw.size * unit ≤ 2 ^ 53 * ε
  exact_most = omega (arith, bounds.held, (parts μ).1)

  error_most : μ ≤ 3 * 2 ^ 300 * unit
  error_most = go unit (2 ^ 300) bounds.error_most total_most
    where
      go : (u c : ℕ) → μ ≤ 3 * α → α ≤ c * u → μ ≤ 3 * c * u
      go u c h k = omega (arith, h, k)

  -- ---- the terms

  abbrev ext : ℕ
  ext = 2 * γ + 20

  end_most : ext ≤ End * unit
  end_most = omega (arith, extent_most, unit_positive)

  along : (n low high : Float) (N : Units n) → N.size ≤ s → Within ext low → Within ext high → Axis l ε (N.size * ext) (n ⊗ k ⊗ end_toward (n ⊗ k) low high) (n ⊗ end_toward n low high)
  along n low high N h a b =
      axis l ε ext k over_length unit_most length_some end_most slack unit_error n N (le_trans h bounds.normal_most) (le_trans (mul-le-mul_right ext h) (le_trans (omega arith) exact_most)) low high a b

  tx : Axis l ε (nx.size * ext) (x ⊗ k ⊗ end_toward (x ⊗ k) r.min.x r.max.x) (x ⊗ end_toward x r.min.x r.max.x)
  tx = along x r.min.x r.max.x nx (omega arith) ends.min_x ends.max_x

  ty : Axis l ε (ny.size * ext) (y ⊗ k ⊗ end_toward (y ⊗ k) r.min.y r.max.y) (y ⊗ end_toward y r.min.y r.max.y)
  ty = along y r.min.y r.max.y ny (omega arith) ends.min_y ends.max_y

  tz : Axis l ε (nz.size * ext) (z ⊗ k ⊗ end_toward (z ⊗ k) r.min.z r.max.z) (z ⊗ end_toward z r.min.z r.max.z)
  tz = along z r.min.z r.max.z nz (omega arith) ends.min_z ends.max_z

  -- ---- the sums

  abbrev M : ℕ
  M = over_zero tx.sign tx.exact + over_zero ty.sign ty.exact + over_zero tz.sign tz.exact

  abbrev M' : ℕ
  M' = under_zero tx.sign tx.exact + under_zero ty.sign ty.exact + under_zero tz.sign tz.exact

  abbrev o : ℕ
  o = nw.size * unit

  abbrev G : ℕ
  G = over_zero nw.sign o

  abbrev G' : ℕ
  G' = under_zero nw.sign o

  sizes_held : M + M' + (G + G') ≤ 2 ^ 53 * ε
  sizes_held =
      omega (arith, both_sides tx.sign tx.exact, both_sides ty.sign ty.exact, both_sides tz.sign tz.exact, both_sides nw.sign o, tx.most, ty.most, tz.most, exact_most)

  by_length : Scale l ε
  by_length = record { some = length_some; few = length_error; held = rooms unit ε μ l (2 ^ 31) (3 * 2 ^ 300) room (parts μ).1 error_most unit_most figures.length_room }

  by_unit : Scale unit ε
  by_unit = record { some = unit_positive; few = unit_error; held = rooms unit ε μ unit 1 (3 * 2 ^ 300) room (parts μ).1 error_most (omega arith) figures.unit_room }

  -- the reach, times the length
  abbrev R : Float
  R = x ⊗ k ⊗ end_toward (x ⊗ k) r.min.x r.max.x ⊕ y ⊗ k ⊗ end_toward (y ⊗ k) r.min.y r.max.y ⊕ z ⊗ k ⊗ end_toward (z ⊗ k) r.min.z r.max.z

  reach : About l ε R M M' 30
  reach = add by_length (add by_length tx.reach ty.reach (omega (arith, sizes_held)) (lit≤ tt)) tz.reach (omega (arith, sizes_held)) (lit≤ tt)

  -- the estimate
  abbrev S : Float
  S = x ⊗ end_toward x r.min.x r.max.x ⊕ y ⊗ end_toward y r.min.y r.max.y ⊕ z ⊗ end_toward z r.min.z r.max.z ⊕ w

  estimate : About unit ε S (M + G) (M' + G') 15
  estimate =
      let three = add by_unit (add by_unit tx.estimate ty.estimate (omega (arith, sizes_held)) (lit≤ tt)) tz.estimate (omega (arith, sizes_held)) (lit≤ tt) in
      add by_unit three (about {n = 0} o nw.is (omega arith)) (omega (arith, sizes_held)) (lit≤ tt)

  -- the distance, times the length
  abbrev D : Float
  D = neg w ⊘ L

  distance : About l ε D G' G 2
  distance = rw ((turned nw.sign).0, (turned nw.sign).1) at (rounded_about (quotient (neg_is nw.is) root.root_is length_some last_most) (omega (arith, both_sides nw.sign o, sizes_held)) length_error)
    where
      turned : (s : Bool) → (over_zero (not s) o ≡ under_zero s o) × (under_zero (not s) o ≡ over_zero s o)
      turned false = (refl, refl)
      turned true = (refl, refl)

      go : (u c n : ℕ) → n ≤ 3 * α → α ≤ c * u → u ≤ 2 ^ 31 * l → 3 * c * 2 ^ 31 ≤ room → n ≤ room * l
      go u c n h k g i = omega (arith, h, k, mul-le-mul_right (3 * c) g, mul-le-mul_right l i)

      last_most : nw.size ≤ room * l
      last_most = go unit (2 ^ 300) nw.size bounds.last_most total_most unit_most figures.last_room

  -- ---- what is told

  told : T (le (error_of size) S) → T (le D R)
  told h =
      let t = (le_units error.is estimate.is).0 h in
      (le_units distance.is reach.is).1
      (le_of_mul-le-mul_right {k = l} (omega (arith, mul-le-mul_right unit t, (parts μ).1, estimate.over, reach.under, distance.over)) length_some)

  told_not : T (lt S (neg (error_of size))) → T (le D R) → ⊥
  told_not h g =
      let t = (le_units estimate.is (neg_is error.is)).0 (lt_le S (neg (error_of size)) h) in
      let u = (le_units distance.is reach.is).0 g in
      omega (arith, mul-le-mul_right unit t, mul-le-mul_right l u, (parts μ).1, unit_positive, unit_error, estimate.under, reach.over, distance.under)

  -- ---- the test of the plane
  keeps : (a b : Bool) → b ≡ true → (a && b) ≡ a
  keeps true b h = h
  keeps false b h = refl

  none : (a b : Bool) → b ≡ false → (a && b) ≡ false
  none true b h = h
  none false b h = refl

  tested : reaches_positive_side (from_equation e) r ≡ (not (is_empty r) && le D R)
  unfolding normalized length_of
  tested =
      reach_by_dot (from_equation e) r
      ∙ ap (λ (z : Float). not (is_empty r) && le z (dot_of (one ⊘ max_of L min_length))) (offset_is w L least_length)
      ∙ ap (λ (z : Float). not (is_empty r) && le D (dot_of (one ⊘ z))) (larger_is L (positive_of_value L l unit (is_value root.root_is) length_some) least_length)
    where
      dot_of : Float → Float
      dot_of k = x ⊗ k ⊗ end_toward (x ⊗ k) r.min.x r.max.x ⊕ y ⊗ k ⊗ end_toward (y ⊗ k) r.min.y r.max.y ⊕ z ⊗ k ⊗ end_toward (z ⊗ k) r.min.z r.max.z

  settled : (T (le (error_of size) S) → reaches_positive_side (from_equation e) r ≡ not (is_empty r)) × (T (lt S (neg (error_of size))) → reaches_positive_side (from_equation e) r ≡ false)
  settled = (
    λ h. tested ∙ keeps (not (is_empty r)) (le D R) (is_true (le D R) (told h)),
    λ h. tested ∙ none (not (is_empty r)) (le D R) (refuted (le D R) (told_not h)),
  )

pub filter_settles : FilterSettles
filter_settles e r he hr t = settled e.x e.y e.z e.w r he hr t
