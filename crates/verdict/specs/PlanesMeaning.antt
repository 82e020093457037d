-- What the planes that a box is wholly behind say of its verdict, for planes and boxes of any numbers. Statements; proofs/PlanesMeaning proves them. `T b` says that the test
-- b holds, and `A ↔ B` that A holds exactly where B does.
use Rattle.std.specs.Prelude.{◌≡◌, ℕ, ◌-◌, ◌/◌, ◌%◌, ◌^◌, ◌<◌, Bool, true, T, ◌↔◌, List, length, ◌==◌, Float}
use Rattle.number.specs.Answer.{refused, outcome}
use Rattle.matrix.specs.Range.{is_empty}
use Rattle.verdict.specs.declared.plane.Plane.{Plane}
use Rattle.verdict.specs.declared.bbox.BBox3d.{BBox3d}
use Rattle.verdict.specs.FrustumCalls.{intersects_box_call}
use Rattle.verdict.specs.PlanesBehind.{is_behind, blocking_planes, blocking_planes_call}

-- the bit i of a number is set
abbrev pub is_set : ℕ → ℕ → Bool
is_set m i = m / 2 ^ i % 2 == 1

-- Bit i is set exactly where the box is behind plane i, and no bit is set past the last plane.
abbrev pub BitsMean : Type 0
BitsMean = (ps : List Plane) (b : BBox3d) (i : ℕ) → T (is_set (blocking_planes ps b) i) ↔ ((i < length ps) × T (is_behind ps b i))

-- A box with an empty range is behind every plane.
abbrev pub EmptyBehindAll : Type 0
EmptyBehindAll = (ps : List Plane) (b : BBox3d) → is_empty b.range ≡ true → blocking_planes ps b ≡ 2 ^ length ps - 1

-- It is behind no plane exactly where the box verdict is yes.
abbrev pub NoBitMeans : Type 0
NoBitMeans = (v b : List Float) → (blocking_planes_call v b ≡ outcome 0) ↔ (intersects_box_call v b ≡ outcome true)

-- It has no refusal of its own.
abbrev pub RefusedAlike : Type 0
RefusedAlike = (v b : List Float) (k : ℕ) → (blocking_planes_call v b ≡ refused k) ↔ (intersects_box_call v b ≡ refused k)
