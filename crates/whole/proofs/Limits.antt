-- What the tests of limits say. Assumes nothing.
use mathlib.Core.Path.{◌≡◌, ap, ◌∙◌}
use mathlib.Core.Bool.{Bool, true, ◌&&◌}
use mathlib.Core.List.{List}
use Prim.Native.Nat.{ℕ, ◌^◌, ◌≤◌, ◌<◌}
use borrow.Author.Tests.{leb-true}
use lib.IntN.{ℤ, nat_abs}
use lib.Signed.{mag}
use mir.Syntax.{w32}
use mir.Val.{to_z, of_z, hbits}
use mir.ValLaws.{to_z-of_z}
use Rattle.number.specs.Limits.{grid_limit, normal_limit, distance_limit}
use Rattle.number.specs.Every.{every}
use Rattle.number.proofs.Tests.{both_hold}
use Rattle.whole.specs.Plane.{WholePlane}
use Rattle.whole.specs.SegmentCall.{within, point_within, plane_within, segment_on_grid}

-- a test of a number as it is read
pub tested : (z : ℤ) (limit : ℕ) (r : Bool) → mag z < 2 ^ hbits w32 → r ≡ within limit (to_z w32 (of_z w32 z)) → r ≡ within limit z
tested z limit r f e = e ∙ ap (λ (y : ℤ). within limit y) (to_z-of_z w32 z (record { sfits = f }))

-- ---- what the tests of points and planes say
module _ (A : ℕ → ℤ) (e : point_within A ≡ true) where
  pub point_sizes : (nat_abs (A 0) ≤ grid_limit) × (nat_abs (A 1) ≤ grid_limit) × (nat_abs (A 2) ≤ grid_limit)
  point_sizes =
      let h = both_hold (within grid_limit (A 0) && within grid_limit (A 1)) (within grid_limit (A 2)) e in
      let k = both_hold (within grid_limit (A 0)) (within grid_limit (A 1)) h.0 in
      (leb-true _ _ k.0, leb-true _ _ k.1, leb-true _ _ h.1)

module _ (Ps : List WholePlane) (A B : ℕ → ℤ) (e : segment_on_grid Ps A B ≡ true) where
  pub grid_parts : (point_within A ≡ true) × (point_within B ≡ true) × (every plane_within Ps ≡ true)
  grid_parts =
      let h = both_hold (point_within A && point_within B) (every plane_within Ps) e in
      let k = both_hold (point_within A) (point_within B) h.0 in
      (k.0, k.1, h.1)

module _ (P : WholePlane) (e : plane_within P ≡ true) where
  pub plane_sizes : (nat_abs (P.normal 0) ≤ normal_limit) × (nat_abs (P.normal 1) ≤ normal_limit) × (nat_abs (P.normal 2) ≤ normal_limit) × (nat_abs P.distance ≤ distance_limit)
  plane_sizes =
      let a = within normal_limit (P.normal 0) in
      let b = within normal_limit (P.normal 1) in
      let c = within normal_limit (P.normal 2) in
      let g = both_hold (a && b && c) (within distance_limit P.distance) e in
      let h = both_hold (a && b) c g.0 in
      let k = both_hold a b h.0 in
      (leb-true _ _ k.0, leb-true _ _ k.1, leb-true _ _ h.1, leb-true _ _ g.1)
