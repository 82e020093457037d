-- The test of a grid box by an axis plane is exact: yes just where the placed box reaches the plane or past it. So is that of a box that combining made of
-- grid boxes, whose range may be twice as large as the grid.
-- The idea: a placement has an inverse, so that its transpose carries the plane's equation into the box's space, in whole numbers far
-- below 2 ^ 53; the normal there is a single 1 or -1 again, of length exactly 1.0, and stays as it is; and of the corner that the code
-- takes only the coordinate along that axis counts.
use Rattle.std.specs.Prelude.{Option}
use mathlib.Core.Path.{◌≡◌, ap, ◌∙◌, subst}
use mathlib.Core.Logic.Iff
use mathlib.Core.Logic.{◌↔◌}
use mathlib.Core.Bool.{Bool, not, cond}
use mathlib.Core.List.{List}
use Prim.Native.Nat.{ℕ, ◌+◌, ◌^◌, ◌≤◌, ◌<◌}
use native.Mathlib.Omega.{arith}
use lib.Dec.{T, eqb, lit<, lit≤}
use lib.IntN.{ℤ, pos, neg_ℤ, nat_abs, ◌+ℤ◌, ◌-ℤ◌, ◌*ℤ◌}
use lib.Signed.{non_neg}
use lib.Ieee.{Float, le, lt, eq, neg, round}
use Rattle.number.specs.Limits.{grid_limit}
use Rattle.number.specs.Arithmetic.{◌⊘◌}
use Rattle.whole.specs.Plane.{WholePlane, dotℤ}
use Rattle.farmgrid.specs.Whole.{Whole}
use Rattle.whole.proofs.Integer.{by_test, of_self as self, of_pos, of_neg, of_eq, abs_minus, abs_neg, ◌⊞◌, ◌⊟◌, ◌⊠◌}
use Rattle.farmgrid.proofs.Numbers.Exact.{neg_whole, le_whole, over_one}
use Rattle.farmgrid.proofs.Numbers.Fit.{Fit}
use Rattle.matrix.specs.Constants.{positive_zero, one}
use Rattle.matrix.specs.Vec.{axis, axis4, vec3, dot}
use Rattle.matrix.specs.Matrix.{identity, transpose}
use Rattle.matrix.specs.Transform.{homogeneous}
use Rattle.matrix.specs.declared.matrix.Mat4d.{Mat4d}
use Rattle.matrix.specs.declared.vec.Vec3d.{Vec3d}
use Rattle.matrix.specs.declared.vec.Vec4d.{Vec4d}
use Rattle.placed.specs.Placement.{sizes, WholeBox}
use Rattle.farmgrid.specs.Placement.{WholeVec, WholeVec4, WholeRange, WholeMatrix, Within, NonEmpty, Placement, dot4ℤ}
use Rattle.farmgrid.proofs.Numbers.WholeSigns.{abs_flip}
use Rattle.farmgrid.proofs.Placements.Singles.{three, four, single, single_dot}
use Rattle.farmgrid.proofs.Placements.QuarterTurns.{widen, widen_placement}
use Rattle.farmgrid.proofs.Numbers.WholeSums.{zero_whole, one_whole, axis_fit, dot_fit, whole_vec3}
use Rattle.farmgrid.proofs.Placements.WholePlacements.{transposed_whole}
use Rattle.farmgrid.proofs.Placements.Units.{unit_length, unit_normalized}
use Rattle.matrix.specs.Inverse.{has_inverse}
use Rattle.farmgrid.proofs.Placements.Inverses.{inverse_whole}
use Rattle.farmgrid.proofs.Placements.WholeRanges.{nonempty_whole}
use Rattle.verdict.specs.declared.plane.Plane.{Plane}
use Rattle.verdict.specs.declared.bbox.BBox3d.{BBox3d}
use Rattle.verdict.specs.Plane.{equation, from_equation, offset, end_toward, furthest, reaches_positive_side, under_inverse_transpose}
use Rattle.verdict.proofs.ReachSum.{reach_by_dot}
use Rattle.verdict.specs.BBox.{box_epsilon}
use Rattle.verdict.specs.Frustum.{into_space_of, box_in_view}
use Rattle.exact.specs.ExactPoint.{Every}
use Rattle.farmgrid.specs.FarmGrid.{AxisPlane, IsPlane, ArePlanes, IsBox}
use Rattle.farmgrid.proofs.Segments.EveryPlane.{every_is}
use Rattle.farmgrid.proofs.Segments.Distance.{same_test, non_negative}
use Rattle.farmgrid.proofs.Boxes.BoxReach.{Reaches, in_space, ahead, distance_in, in_space_single, reach_in_space, at_least}

-- ---- boxes that are placed as grid boxes are, with ranges up to twice the size of the grid
pub record Wide (b : BBox3d) (B : WholeBox) : Type 0 where
  pub range : WholeRange b.range B.low B.high
  pub matrix : WholeMatrix b.matrix B.matrix
  pub low : Within (grid_limit + grid_limit) B.low
  pub high : Within (grid_limit + grid_limit) B.high
  pub some : NonEmpty B.low B.high
  pub placement : Placement B.matrix

pub grid_wide : {b : BBox3d} {B : WholeBox} → IsBox b B → Wide b B
grid_wide h =
    let g = h.grid in
    record { range = h.range; matrix = h.matrix; low = widen (lit≤ tt) g.low; high = widen (lit≤ tt) g.high; some = g.some; placement = g.placement }

-- ---- the matrix into the box's space
epsilon_below_one : T (lt box_epsilon one)
unfolding lt round
epsilon_below_one = tt

-- "The plane tests take a degenerate box as if its matrix were the identity": such a box is not degenerate
into_space : {b : BBox3d} {B : WholeBox} → Wide b B → into_space_of b ≡ transpose b.matrix
into_space {b} g =
    ap (λ (i : Option Mat4d). cond (not (has_inverse i)) identity (transpose b.matrix))
    (inverse_whole g.matrix (widen_placement (lit≤ tt) g.placement) box_epsilon epsilon_below_one).accepted

-- ---- the parts of the test, over whole floats
-- the end of a span that a number points toward; a zero of either sign points to the greater end
toward_fit : {x a b : Float} {n l h : ℤ} {k : ℕ} → Whole x n → Fit a l k → Fit b h k → Fit (end_toward x a b) (cond (non_neg n) h l) k
unfolding end_toward
toward_fit {x} {a} {b} {n} {l} {h} {k} X A B =
    let e : le positive_zero x ≡ non_neg n =
    same_test (le positive_zero x) (non_neg n) (Iff.trans (le_whole zero_whole X) (Iff.symm (non_negative n))) in
    rw e (by_test (λ u. Fit (cond u b a) (cond u h l) k) (non_neg n) (λ t. B) (λ t. A))

-- the distance from an equation whose normal has the length 1
offset_whole : {w : Float} {z : ℤ} → Whole w z → nat_abs z ≤ 2 ^ 53 → Whole (offset w one) (neg_ℤ z)
unfolding offset
offset_whole {w} {z} W l =
    by_test (λ u. Whole (cond u (neg w) (neg w ⊘ one)) (neg_ℤ z)) (eq one positive_zero) (λ t. neg_whole W)
    (λ t. over_one (neg_whole W) one_whole (rw (abs_neg z) l))

-- ---- a plane's equation
abbrev equationℤ : WholePlane → ℕ → ℤ
equationℤ P i = cond (eqb i 3) (neg_ℤ P.distance) (P.normal i)

module _ {p : Plane} {P : WholePlane} (h : IsPlane AxisPlane p P) where
  equation_whole : WholeVec4 (equation p) (equationℤ P)
  equation_whole = record { at = four (λ i. Whole (axis4 (equation p) i) (equationℤ P i)) upper (neg_whole h.distance) }
    where
      upper : (i : ℕ) → i < 3 → Whole (axis4 (equation p) i) (equationℤ P i)
      upper = three (λ i. Whole (axis4 (equation p) i) (equationℤ P i))
          (h.normal.at 0 (lit< tt)) (h.normal.at 1 (lit< tt)) (h.normal.at 2 (lit< tt))

  equation_size : (i : ℕ) → i < 4 → nat_abs (equationℤ P i) ≤ 2 ^ 26
  equation_size = four (λ i. nat_abs (equationℤ P i) ≤ 2 ^ 26) upper (rw (abs_neg P.distance) (let l = h.kind.segment.far in omega arith))
    where
      entry : (i : ℕ) → i < 3 → nat_abs (P.normal i) ≤ 2 ^ 26
      entry i l = let e = h.kind.segment.entries.size i l in omega arith

      upper : (i : ℕ) → i < 3 → nat_abs (equationℤ P i) ≤ 2 ^ 26
      upper = three (λ i. nat_abs (equationℤ P i) ≤ 2 ^ 26) (entry 0 (lit< tt)) (entry 1 (lit< tt)) (entry 2 (lit< tt))

  -- ---- carried into the space of a box
  module _ {b : BBox3d} {B : WholeBox} (g : Wide b B) where
    abbrev f : ℕ → ℕ → ℤ
    f = B.matrix

    abbrev u : ℕ → ℤ
    u = in_space f P.normal

    abbrev d : ℤ
    d = neg_ℤ P.distance

    abbrev carried : Vec4d
    carried = homogeneous (transpose b.matrix) (equation p)

    abbrev n : Vec3d
    n = vec3 (axis4 carried)

    abbrev q : Plane
    q = from_equation carried

    carried_whole : WholeVec4 carried (λ j. dot4ℤ (equationℤ P) (f j))
    carried_whole = transposed_whole g.matrix (widen_placement (lit≤ tt) g.placement) equation_whole equation_size

    u_single : sizes u ≡ 1
    u_single = in_space_single g.placement.turn P.normal h.kind.single

    u_size : (i : ℕ) → i < 3 → nat_abs (u i) ≤ 1
    u_size = let e = u_single in three (λ i. nat_abs (u i) ≤ 1) (omega arith) (omega arith) (omega arith)

    -- its normal
    n_whole : WholeVec n u
    n_whole = whole_vec3 (axis4 carried) (λ i l.
        subst (Whole (axis4 carried i)) (ap (λ (z : ℤ). u i +ℤ d *ℤ z) (g.placement.zeros i l) ∙ none_of (u i) d)
        (carried_whole.at i (omega arith)))
      where
        none_of : (x y : ℤ) → x +ℤ y *ℤ pos 0 ≡ x
        none_of x y = of_eq (self x ⊞ self y ⊠ of_pos 0) (self x) (omega arith)

    normal_whole : WholeVec q.normal u
    normal_whole = unit_normalized n_whole u_single

    -- its distance
    abbrev w : ℤ
    w = dotℤ P.normal (f 3) -ℤ P.distance

    w_whole : Whole carried.w w
    w_whole = subst (Whole carried.w)
        (ap (λ (z : ℤ). dotℤ P.normal (f 3) +ℤ d *ℤ z) g.placement.last ∙ all_of (dotℤ P.normal (f 3)) P.distance)
        (carried_whole.at 3 (lit< tt))
      where
        all_of : (x y : ℤ) → x +ℤ neg_ℤ y *ℤ pos 1 ≡ x -ℤ y
        all_of x y = of_eq (self x ⊞ of_neg (self y) ⊠ of_pos 1) (self x ⊟ self y) (omega arith)

    w_size : nat_abs w ≤ 2 ^ 53
    w_size =
        let s = single {p = P.normal} h.kind.single in
        let l = h.kind.segment.far in
        let l' = g.placement.translation.size s.from s.below in
        omega (arith, abs_minus (dotℤ P.normal (f 3)) P.distance, ap nat_abs (single_dot s (f 3)), abs_flip s.sign (f 3 s.from))

    distance_whole : Whole q.distance (distance_in f P)
    distance_whole = rw (unit_length n_whole u_single) (subst (Whole (offset carried.w one)) turned (offset_whole w_whole w_size))
      where
        turned : neg_ℤ w ≡ distance_in f P
        turned =
            let N = self (dotℤ P.normal (f 3)) in
            let D = self P.distance in
            of_eq (of_neg (N ⊟ D)) (D ⊟ N) (omega arith)

    -- how far the range reaches along the normal
    abbrev corner : ℕ → Float
    corner i = end_toward (axis q.normal i) (axis b.range.min i) (axis b.range.max i)

    along_whole : Whole (dot q.normal (furthest q.normal b.range)) (dotℤ u (ahead u B.low B.high))
    along_whole = (dot_fit (lit≤ tt) (axis q.normal) corner u (ahead u B.low B.high)
        (λ i l. record { whole = normal_whole.at i l; size = u_size i l })
        (λ i l. toward_fit (normal_whole.at i l) (axis_fit g.range.min g.low i l)
        (axis_fit g.range.max g.high i l))).whole

    carried_exact : T (reaches_positive_side q b.range) ↔ Reaches B P
    carried_exact =
        let o = g.some in
        let e = reach_in_space P B g.placement.turn h.kind.single o in
        let r = at_least (distance_in f P) (dotℤ u (ahead u B.low B.high)) in
        rw (reach_by_dot q b.range, nonempty_whole g.range o)
        (Iff.trans (le_whole distance_whole along_whole) (λ t. record { reach = rw (← e) (r.0 t) }, λ t. r.1 (rw e t.reach)))

    -- the test of the box by the plane
    pub plane_exact : T (reaches_positive_side (under_inverse_transpose (into_space_of b) p) b.range) ↔ Reaches B P
    plane_exact = rw (into_space g) carried_exact

-- ---- the verdict: every plane is reached
module _ {b : BBox3d} {B : WholeBox} (g : Wide b B) where
  abbrev test : Plane → Bool
  test p = reaches_positive_side (under_inverse_transpose (into_space_of b) p) b.range

  pub box_reaches : {ps : List Plane} {Ps : List WholePlane} → ArePlanes AxisPlane ps Ps → T (box_in_view ps b) ↔ Every (Reaches B) Ps
  unfolding box_in_view
  box_reaches hs = rw (nonempty_whole g.range g.some) (every_is AxisPlane test (Reaches B) (λ p P h. plane_exact h g) hs)
