-- Every box that combining makes of grid boxes has the matrix of one of them, a whole range that is not empty and not large, and is placed
-- as the union of those that it stands for. The idea: the placed range of either candidate of `combine` is the union of the two placed
-- ranges, so that it does not matter which candidate the volumes choose; and what is placed on the grid is, brought into the space of any
-- placement of the grid, at most twice as large as the grid. Assumes nothing.
use Rattle.std.specs.Prelude.{Some}
use mathlib.Core.Path.{◌≡◌, refl, sym, ◌∙◌, subst}
use mathlib.Core.Bool.{Bool, true, false, cond}
use Prim.Native.Nat.{ℕ, ◌+◌, ◌≤◌, ◌<◌}
use native.Mathlib.Omega.{arith}
use lib.Dec.{T, lit≤}
use lib.IntN.{ℤ, nat_abs}
use lib.Signed.{◌≤ℤ◌}
use lib.Ieee.{lt, round}
use Rattle.number.specs.Limits.{grid_limit}
use Rattle.whole.proofs.Integer.{of_self as self, of_le, of_min, of_max, le_is}
use Rattle.matrix.specs.Constants.{one}
use Rattle.matrix.specs.Matrix.{product}
use Rattle.matrix.specs.Inverse.{inverse_above}
use Rattle.matrix.specs.Range.{union, transformed}
use Rattle.matrix.specs.declared.matrix.Mat4d.{Mat4d}
use Rattle.matrix.specs.declared.range.Range3d.{Range3d}
use Rattle.farmgrid.specs.Placement.{WholeRange, WholeMatrix, Within, NonEmpty, PlacementWithin, Placement, GridPoint}
use Rattle.farmgrid.specs.Placement.{productℤ, placed_low, placed_high}
use Rattle.placed.specs.Placement.{smaller as smallerℤ, larger as largerℤ, WholeBox}
use Rattle.farmgrid.proofs.Placements.QuarterTurns.{widen, widen_placement, product_placement}
use Rattle.farmgrid.proofs.Placements.InversePlacements.{inverseℤ, inverse_placement}
use Rattle.farmgrid.proofs.Placements.WholePlacements.{product_whole}
use Rattle.farmgrid.proofs.Placements.Inverses.{WholeInverse, inverse_whole}
use Rattle.farmgrid.proofs.Placements.WholeRanges.{nonempty_whole, union_whole, transformed_whole}
use Rattle.farmgrid.proofs.Placements.PlacedRanges.{extreme, placed, placed_is, placed_nonempty, placed_within, placed_product, placed_grown}
use Rattle.verdict.specs.declared.bbox.BBox3d.{BBox3d}
use Rattle.verdict.specs.BBox.{box_epsilon, extended, preferred, volume, smaller_box, merged, held, combined}
use Rattle.farmgrid.specs.FarmGrid.{IsBox}
use Rattle.farmgrid.proofs.Combine.Extents.{extreme_ind, Extent, join, join_comm}

-- twice the size of the grid
abbrev pub twice : ℕ
twice = grid_limit + grid_limit

-- the range r under the matrix m is placed as the extent e of the grid
pub record Holds (r : Range3d) (m : Mat4d) (e : Extent) : Type 0 where
  pub low : ℕ → ℤ
  pub high : ℕ → ℤ
  pub matrix : ℕ → ℕ → ℤ
  pub range_is : WholeRange r low high
  pub matrix_is : WholeMatrix m matrix
  pub some : NonEmpty low high
  pub placement : Placement matrix
  pub low_size : Within twice low
  pub high_size : Within twice high
  pub extent : (u : Bool) (j : ℕ) → j < 3 → placed u matrix low high j ≡ e u j
  pub grid : (u : Bool) → GridPoint (e u)

-- the least, or the greatest, of two points along each axis
either_within : {n : ℕ} (u : Bool) {p q : ℕ → ℤ} → Within n p → Within n q → Within n (λ j. extreme u (p j) (q j))
either_within {n} u {p} {q} P Q = record { size = λ j h. extreme_ind (λ z. nat_abs z ≤ n) u (p j) (q j) (P.size j h) (Q.size j h) }

-- ---- a grid box

abbrev pub extent_of : WholeBox → Extent
extent_of B u = placed u B.matrix B.low B.high

pub box_holds : {b : BBox3d} {B : WholeBox} → IsBox b B → Holds b.range b.matrix (extent_of B)
box_holds {B = B} h =
    let g = h.grid in
    record {
      low = B.low;
      high = B.high;
      matrix = B.matrix;
      range_is = h.range;
      matrix_is = h.matrix;
      some = g.some;
      placement = g.placement;
      low_size = widen (lit≤ tt) g.low;
      high_size = widen (lit≤ tt) g.high;
      extent = λ u j h. refl;
      grid = λ u. record {
        size = λ j l.
            subst (λ (z : ℤ). nat_abs z ≤ grid_limit) (sym (placed_is g.placement u B.low B.high j l))
            ((either_within u (g.placed 0 (lit≤ tt)) (g.placed 7 (lit≤ tt))).size j l);
      };
    }

-- ---- a candidate: the first box, grown to hold the second

module _ {r s : Range3d} {m n : Mat4d} {e f : Extent} (A : Holds r m e) (B : Holds s n f) {i : Mat4d}
    (I : WholeMatrix i (inverseℤ A.matrix)) where
  back : PlacementWithin grid_limit (inverseℤ A.matrix)
  back = inverse_placement A.placement

  abbrev into : ℕ → ℕ → ℤ
  into = productℤ B.matrix (inverseℤ A.matrix)

  abbrev least : ℕ → ℤ
  least = placed_low into B.low B.high

  abbrev greatest : ℕ → ℤ
  greatest = placed_high into B.low B.high

  into_placement : PlacementWithin twice into
  into_placement = product_placement B.placement back

  brought : WholeRange (transformed s (product n i)) least greatest
  brought = transformed_whole
      (product_whole B.matrix_is (widen_placement (lit≤ tt) B.placement) I (widen_placement (lit≤ tt) back))
      (widen_placement (lit≤ tt) into_placement) B.range_is (widen (lit≤ tt) B.low_size) (widen (lit≤ tt) B.high_size) B.some

  on_grid_lem : (u : Bool) → GridPoint (placed u B.matrix B.low B.high)
  on_grid_lem u = record { size = λ j h. subst (λ (z : ℤ). nat_abs z ≤ grid_limit) (sym (B.extent u j h)) ((B.grid u).size j h) }

  brought_size : (u : Bool) → Within twice (placed u into B.low B.high)
  brought_size u = record {
    size = λ j h. subst (λ (z : ℤ). nat_abs z ≤ twice) (sym (placed_product back B.placement u B.low B.high j h))
        ((placed_within back u (on_grid_lem false) (on_grid_lem true)).size j h);
  }

  brought_some : NonEmpty least greatest
  brought_some = placed_nonempty into_placement B.low B.high

  grown_holds : Holds (union r (transformed s (product n i))) m (join e f)
  grown_holds = record {
    low = λ k. smallerℤ (A.low k) (least k);
    high = λ k. largerℤ (A.high k) (greatest k);
    matrix = A.matrix;
    range_is = union_whole A.range_is brought A.some brought_some;
    matrix_is = A.matrix_is;
    some = record { ordered = λ k h. ordered (A.low k) (A.high k) (least k) (greatest k) (A.some.ordered k h) };
    placement = A.placement;
    low_size = either_within false A.low_size (brought_size false);
    high_size = either_within true A.high_size (brought_size true);
    extent = λ u j h.
        placed_grown A.placement B.placement u A.some B.low B.high j h
        ∙ (λ t. extreme u (A.extent u j h t) (B.extent u j h t));
    grid = λ u. either_within u (A.grid u) (B.grid u);
  }
    where
      ordered : (a b x y : ℤ) → a ≤ℤ b → smallerℤ a x ≤ℤ largerℤ b y
      ordered a b x y l = (of_le (of_min (self a) (self x)) (of_max (self b) (self y))).1 (omega (arith, (le_is a b).0 l))

-- ---- `combine`: of the two candidates it does not matter which one is chosen

-- "1e-13 for boxes"
epsilon_below_one : T (lt box_epsilon one)
unfolding lt round
epsilon_below_one = tt

chosen : (u : Bool) (a b : BBox3d) {e : Extent} → Holds a.range a.matrix e → Holds b.range b.matrix e
    → Holds (cond u a b).range (cond u a b).matrix e
chosen true a b A B = A
chosen false a b A B = B

inverse_of : {r : Range3d} {m : Mat4d} {e : Extent} (A : Holds r m e) → WholeInverse (inverse_above box_epsilon m) (inverseℤ A.matrix)
inverse_of A = inverse_whole A.matrix_is (widen_placement (lit≤ tt) A.placement) box_epsilon epsilon_below_one

module _ (a b : BBox3d) {e f : Extent} (A : Holds a.range a.matrix e) (B : Holds b.range b.matrix f) where
  candidates : (m n : Mat4d) → WholeMatrix m (inverseℤ A.matrix) → WholeMatrix n (inverseℤ B.matrix)
      → let c = merged a b (Some m) (Some n) in Holds c.range c.matrix (join e f)
  unfolding merged smaller_box extended
  candidates m n M N =
      let x = extended a b m in
      let y = extended b a n in
      let Y : Holds y.range y.matrix (join e f) = subst (Holds y.range y.matrix) (join_comm f e) (grown_holds B A N) in
      chosen (preferred (volume x) (volume y)) x y (grown_holds A B M) Y

  held_is : held a b ≡ merged a b (Some (inverse_of A).matrix) (Some (inverse_of B).matrix)
  unfolding held
  held_is = rw (nonempty_whole A.range_is A.some, nonempty_whole B.range_is B.some, (inverse_of A).accepted, (inverse_of B).accepted)

  pub combined_holds : Holds (combined a b).range (combined a b).matrix (join e f)
  unfolding combined
  combined_holds =
      let M = inverse_of A in
      let N = inverse_of B in
      subst (λ (h : BBox3d). Holds h.range h.matrix (join e f)) (sym held_is) (candidates M.matrix N.matrix M.numbers N.numbers)
