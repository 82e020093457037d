-- The planes that a block is behind, on the farm grid: by axis planes each bit is the exact answer. By other planes, along an axis or not, the test rounds,
-- and a bit may be set though the block touches the plane. Definitions and statements only.
-- `T b` says that the test b holds, and `A ↔ B` that A holds exactly where B does.
use Rattle.std.specs.Prelude.{◌≡◌, ◌↔◌, List, ◌∷◌, ◌++◌, ℕ, T, length, Float}
use Rattle.number.specs.Answer.{Outcome, outcome}
use Rattle.verdict.specs.PlanesBehind.{blocking_planes_call}
use Rattle.verdict.specs.PlanesMeaning.{is_set}
use Rattle.whole.specs.Plane.{WholePlane}
use Rattle.exact.specs.ExactPoint.{ExactPoint, Satisfies, InBox}
use Rattle.placed.specs.Placement.{WholeBox}
use Rattle.farmgrid.specs.FarmGrid.{AxisPlane, low_of, high_of}
use Rattle.farmgrid.specs.Records.{ViewRecord, BoxRecord}

-- no exact point of the placed box satisfies the plane
abbrev pub AllFail : WholePlane → WholeBox → Type 0
AllFail P B = (X : ExactPoint) → InBox (low_of B) (high_of B) X → Satisfies P X → ⊥

-- a call was not refused, and its bit i is set exactly where every exact point of the placed box fails the plane at i
pub record BehindAnswer (answer : Outcome ℕ) (Ps : List WholePlane) (B : WholeBox) : Type 0 where
  pub bits : ℕ
  pub answered : answer ≡ outcome bits
  pub exact : (Qs : List WholePlane) (P : WholePlane) (Rs : List WholePlane) → Ps ≡ Qs ++ P ∷ Rs → T (is_set bits (length Qs)) ↔ AllFail P B

-- The planes need not share a point.
abbrev pub BehindExact : Type 0
BehindExact = (v b : List Float) (Ps : List WholePlane) (B : WholeBox) → ViewRecord AxisPlane v Ps → BoxRecord b B → BehindAnswer (blocking_planes_call v b) Ps B
