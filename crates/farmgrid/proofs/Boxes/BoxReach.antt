-- How far a placed box reaches past an axis plane, in whole numbers: told in the world, in the box's own space, and along the plane's axis.
-- The idea: a plane's distance is linear, so that the normal may be brought into the box's space instead of the corners out of it; and
-- along a normal of a single 1 or -1 the furthest corner is the least or the greatest one.
use mathlib.Core.Path.{◌≡◌, refl, sym, ap, ◌∙◌}
use mathlib.Core.Logic.{◌↔◌}
use mathlib.Core.Bool.{Bool, true, false, cond}
use Prim.Native.Nat.{ℕ, ◌+◌}
use native.Mathlib.Omega.{arith}
use lib.IntN.{ℤ, pos, neg_ℤ, nat_abs, ◌+ℤ◌, ◌-ℤ◌}
use lib.Signed.{non_neg, ◌≤ℤ◌}
use Rattle.number.specs.Grid.{signed}
use Rattle.whole.proofs.Integer.{of_self as self, of_pos, of_neg, of_eq, of_le, le_is, max_left, max_right, max_shift, neg_min, ◌⊞◌, ◌⊟◌}
use Rattle.whole.specs.Plane.{WholePlane, dotℤ, gap}
use Rattle.placed.specs.Placement.{turnedℤ, movedℤ, sizes, smaller, larger, WholeBox}
use Rattle.farmgrid.specs.Placement.{NonEmpty, QuarterTurn, PlacementWithin}
use Rattle.farmgrid.proofs.Numbers.WholeSigns.{flip, abs_flip}
use Rattle.farmgrid.proofs.Placements.Singles.{Single, single, single_dot, unit_own}
use Rattle.farmgrid.proofs.Placements.WholeRanges.{placed_low_lem, placed_high_lem}
use Rattle.farmgrid.specs.FarmGrid.{low_of, high_of}
use Rattle.whole.proofs.Dot.{dot_comm, dot_sum}
use Rattle.farmgrid.proofs.Segments.Dot.{dot_turned}

-- the greater of the plane's exact distances from the placed least and the placed greatest corner
abbrev pub reach_of : WholePlane → WholeBox → ℤ
reach_of P B = larger (gap P (movedℤ B.matrix B.low)) (gap P (movedℤ B.matrix B.high))

-- the exact test of the box by a plane: it reaches the plane, or past it
pub record Reaches (B : WholeBox) (P : WholePlane) : Type 0 where
  pub reach : pos 0 ≤ℤ reach_of P B

-- ---- in the box's own space
-- the normal n there
abbrev pub in_space : (ℕ → ℕ → ℤ) → (ℕ → ℤ) → ℕ → ℤ
in_space f n i = dotℤ n (f i)

-- the corner with the greatest dot product with the normal u
abbrev pub ahead : (ℕ → ℤ) → (ℕ → ℤ) → (ℕ → ℤ) → ℕ → ℤ
ahead u low high i = cond (non_neg (u i)) (high i) (low i)

-- a single 1 or -1 again
pub in_space_single : {f : ℕ → ℕ → ℤ} → QuarterTurn f → (n : ℕ → ℤ) → sizes n ≡ 1 → sizes (in_space f n) ≡ 1
in_space_single {f} F n h = (λ t. size 0 t + size 1 t + size 2 t) ∙ F.columns s.from s.below
  where
    s : Single n
    s = single h

    size : (i : ℕ) → nat_abs (in_space f n i) ≡ nat_abs (f i s.from)
    size i = ap nat_abs (single_dot s (f i)) ∙ abs_flip s.sign (f i s.from)

-- along such a normal that corner is the one of the two that lies further
ahead_dot : (u : ℕ → ℤ) → sizes u ≡ 1 → {low high : ℕ → ℤ} → NonEmpty low high → dotℤ u (ahead u low high) ≡ larger (dotℤ u low) (dotℤ u high)
ahead_dot u h {low} {high} o =
    single_dot s (ahead u low high)
    ∙ ap (λ (z : ℤ). flip s.sign (cond (non_neg z) (high k) (low k))) (s.is k s.below ∙ unit_own s.sign k s.below)
    ∙ further s.sign (low k) (high k) (o.ordered k s.below)
    ∙ sym (λ t. larger (single_dot s low t) (single_dot s high t))
  where
    s : Single u
    s = single h

    k : ℕ
    k = s.from

    further : (s : Bool) (a b : ℤ) → a ≤ℤ b → flip s (cond (non_neg (signed s 1)) b a) ≡ larger (flip s a) (flip s b)
    further false a b l = sym (max_right l)
    further true a b l = sym (max_left ((of_le (of_neg (self b)) (of_neg (self a))).1 (omega (arith, (le_is a b).0 l))))

-- the distance of the plane there
abbrev pub distance_in : (ℕ → ℕ → ℤ) → WholePlane → ℤ
distance_in f P = P.distance -ℤ dotℤ P.normal (f 3)

module _ (P : WholePlane) (B : WholeBox) where
  abbrev f : ℕ → ℕ → ℤ
  f = B.matrix

  abbrev u : ℕ → ℤ
  u = in_space f P.normal

  gap_in_space : (A : ℕ → ℤ) → gap P (movedℤ f A) ≡ dotℤ u A -ℤ distance_in f P
  gap_in_space A =
      rw (dot_sum P.normal (turnedℤ f A) (f 3), dot_turned f P.normal A, dot_comm A u)
      (regroup (dotℤ u A) (dotℤ P.normal (f 3)) P.distance)
    where
      regroup : (x t d : ℤ) → x +ℤ t -ℤ d ≡ x -ℤ (d -ℤ t)
      regroup x t d = of_eq (self x ⊞ self t ⊟ self d) (self x ⊟ (self d ⊟ self t)) (omega arith)

  -- the box reaches as far in its own space as in the world
  pub reach_in_space : QuarterTurn f → sizes P.normal ≡ 1 → NonEmpty B.low B.high
      → dotℤ u (ahead u B.low B.high) -ℤ distance_in f P ≡ reach_of P B
  reach_in_space F h o =
      ap (λ (z : ℤ). z -ℤ distance_in f P) (ahead_dot u (in_space_single F P.normal h) o)
      ∙ max_shift (dotℤ u B.low) (dotℤ u B.high) (neg_ℤ (distance_in f P))
      ∙ sym (λ t. larger (gap_in_space B.low t) (gap_in_space B.high t))

-- ---- along the plane's axis
pub at_least : (d x : ℤ) → (d ≤ℤ x) ↔ (pos 0 ≤ℤ (x -ℤ d))
at_least d x =
    let l = of_le (self d) (self x) in
    let l' = of_le (of_pos 0) (self x ⊟ self d) in
    (λ t. l'.1 (omega (arith, l.0 t)), λ t. l.1 (omega (arith, l'.0 t)))

-- the greatest placed coordinate, and the least one negated where the sign of the normal's 1 is true
abbrev pub end_of : Bool → ℤ → ℤ → ℤ
end_of s low high = cond s (neg_ℤ low) high

module _ {b : ℕ} (P : WholePlane) (B : WholeBox) (F : PlacementWithin b B.matrix) (s : Single P.normal) where
  abbrev j : ℕ
  j = s.from

  abbrev placed_end : ℤ
  placed_end = end_of s.sign (low_of B j) (high_of B j)

  reach_along_lem : reach_of P B ≡ placed_end -ℤ P.distance
  reach_along_lem =
      (λ t. larger (single_dot s (movedℤ B.matrix B.low) t -ℤ P.distance) (single_dot s (movedℤ B.matrix B.high) t -ℤ P.distance))
      ∙ sym (max_shift (flip s.sign x) (flip s.sign y) (neg_ℤ P.distance))
      ∙ ap (λ (z : ℤ). z -ℤ P.distance) (turned s.sign)
      ∙ sym (λ t. end_of s.sign (placed_low_lem F B.low B.high j s.below t) (placed_high_lem F B.low B.high j s.below t) -ℤ P.distance)
    where
      x : ℤ
      x = movedℤ B.matrix B.low j

      y : ℤ
      y = movedℤ B.matrix B.high j

      turned : (s : Bool) → larger (flip s x) (flip s y) ≡ end_of s (smaller x y) (larger x y)
      turned false = refl
      turned true = sym (neg_min x y)

  -- the plane is not past the placed box
  pub reaches_along : Reaches B P ↔ (P.distance ≤ℤ end_of s.sign (low_of B s.from) (high_of B s.from))
  reaches_along =
      let r = at_least P.distance placed_end in
      (λ t. r.1 (rw reach_along_lem at t.reach), λ t. record { reach = rw reach_along_lem (r.0 t) })
