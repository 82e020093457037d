-- The squared distance from a grid point to a range with grid corners is exact: each difference is at most 2 ^ 17 in size, its square at most 2 ^ 34, and three
-- of these add up to less than 2 ^ 53. Assumes nothing.
use mathlib.Core.Path.{◌≡◌, sym, subst}
use mathlib.Core.Bool.{Bool, true, false, cond}
use Prim.Native.Nat.{ℕ, ◌+◌, ◌*◌, ◌<◌}
use lib.Dec.{T, lit<, lit≤}
use lib.IntN.{ℤ, pos, ◌-ℤ◌, ◌*ℤ◌}
use lib.Signed.{lt_z, lt_z_yes}
use lib.Ieee.{Float, lt}
use Rattle.number.specs.Arithmetic.{◌⊖◌}
use Rattle.number.specs.Limits.{grid_limit}
use Rattle.matrix.specs.Constants.{positive_zero}
use Rattle.matrix.specs.Vec.{axis}
use Rattle.matrix.specs.Range.{span_distance_squared, squared, distance_squared}
use Rattle.matrix.specs.declared.vec.Vec3d.{Vec3d}
use Rattle.matrix.specs.declared.range.Range3d.{Range3d}
use Rattle.farmgrid.specs.Whole.{Whole}
use Rattle.farmgrid.specs.Placement.{WholeVec, WholeRange, GridPoint}
use Rattle.farmgrid.specs.Nearest.{outsideℤ, square_to}
use Rattle.farmgrid.proofs.Numbers.Exact.{lt_whole}
use Rattle.farmgrid.proofs.Numbers.Fit.{Fit, fit_sum, fit_minus, fit_times}
use Rattle.farmgrid.proofs.Numbers.WholeSums.{zero_whole}
use Rattle.number.proofs.Places.{same_test}

-- the test of two whole floats
less_is : {x y : Float} {a b : ℤ} → Whole x a → Whole y b → lt x y ≡ lt_z a b
less_is {x} {y} {a} {b} X Y = let o = lt_whole X Y in same_test (lt x y) (lt_z a b) (λ t. (o.0 t).lt) (λ t. o.1 (lt_z_yes t))

abbrev most : ℕ
most = (grid_limit + grid_limit) * (grid_limit + grid_limit)

zero_fit : Fit positive_zero (pos 0 *ℤ pos 0) most
zero_fit = record { whole = zero_whole; size = lit≤ tt }

-- along one axis
along_fit : {x l h : Float} {a b c : ℤ} → Fit x a grid_limit → Fit l b grid_limit → Fit h c grid_limit → Fit (span_distance_squared x l h) (outsideℤ a b c *ℤ outsideℤ a b c) most
unfolding span_distance_squared
along_fit {x} {l} {h} {a} {b} {c} X L H = go (lt x l) (lt_z a b) (lt h x) (lt_z c a) (less_is X.whole L.whole) (less_is H.whole X.whole)
  where
    below : Fit (squared (l ⊖ x)) ((b -ℤ a) *ℤ (b -ℤ a)) most
    below = let d = fit_minus L X (lit≤ tt) in fit_times d d (lit≤ tt)

    above : Fit (squared (x ⊖ h)) ((a -ℤ c) *ℤ (a -ℤ c)) most
    above = let d = fit_minus X H (lit≤ tt) in fit_times d d (lit≤ tt)

    go : (u v w z : Bool) → u ≡ v → w ≡ z
        → Fit (cond u (squared (l ⊖ x)) (cond w (squared (x ⊖ h)) positive_zero))
        (cond v (b -ℤ a) (cond z (a -ℤ c) (pos 0)) *ℤ cond v (b -ℤ a) (cond z (a -ℤ c) (pos 0))) most
    go true true w z e f = below
    go true false w z e f = absurd (subst T e tt)
    go false true w z e f = absurd (subst T (sym e) tt)
    go false false true true e f = above
    go false false true false e f = absurd (subst T f tt)
    go false false false true e f = absurd (subst T (sym f) tt)
    go false false false false e f = zero_fit

pub range_distance_whole : {r : Range3d} {p : Vec3d} {low high A : ℕ → ℤ} → WholeRange r low high → GridPoint low → GridPoint high → WholeVec p A → GridPoint A
    → Whole (distance_squared r p) (square_to low high A)
unfolding distance_squared
range_distance_whole {r} {p} {low} {high} {A} R L H P G = (fit_sum (fit_sum (at 0 (lit< tt)) (at 1 (lit< tt)) (lit≤ tt)) (at 2 (lit< tt)) (lit≤ tt)).whole
  where
    at : (i : ℕ) → i < 3
        → Fit (span_distance_squared (axis p i) (axis r.min i) (axis r.max i)) (outsideℤ (A i) (low i) (high i) *ℤ outsideℤ (A i) (low i) (high i)) most
    at i h = along_fit (record { whole = P.at i h; size = G.size i h }) (record { whole = R.min.at i h; size = L.size i h }) (record { whole = R.max.at i h; size = H.size i h })
