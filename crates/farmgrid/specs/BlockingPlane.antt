-- Which screen hides a sight line, on the farm grid: the answer is the exact one. Definitions and statements only. `A ↔ B` says that A holds exactly where B does.
use Rattle.std.specs.Prelude.{◌≡◌, ◌↔◌, List, ℕ, ◌<◌, length, ℤ, Float, None, Option, Some}
use Rattle.number.specs.Answer.{Outcome, refused, outcome}
use Rattle.blocking.specs.Blocking.{without}
use Rattle.blocking.specs.Calls.{blocking_plane_call}
use Rattle.whole.specs.Plane.{WholePlane}
use Rattle.farmgrid.specs.FarmGrid.{SegmentPlane, SegmentInView}
use Rattle.farmgrid.specs.Records.{PointRecord, ViewRecord}

-- the plane at i is "the first whose absence lets an exact point of the closed segment satisfy the others"
pub record FirstAbsent (Ps : List WholePlane) (A B : ℕ → ℤ) (i : ℕ) : Type 0 where
  pub place : i < length Ps
  pub seen : SegmentInView (without i Ps) A B
  pub first : (j : ℕ) → j < i → SegmentInView (without j Ps) A B → ⊥

pub record BlockingAnswer (answer : Outcome (Option ℕ)) (Ps : List WholePlane) (A B : ℕ → ℤ) : Type 0 where
  -- "14 if the segment is already answered yes": some exact point satisfies all planes. Nothing else is refused.
  pub in_view : (answer ≡ refused 14) ↔ SegmentInView Ps A B
  pub no_other : (k : ℕ) → answer ≡ refused k → k ≡ 14
  pub named : (i : ℕ) → (answer ≡ outcome (Some i)) ↔ ((SegmentInView Ps A B → ⊥) × FirstAbsent Ps A B i)
  -- "none means that no single absence does"
  pub none : (answer ≡ outcome None) ↔ ((j : ℕ) → j < length Ps → SegmentInView (without j Ps) A B → ⊥)

abbrev pub BlockingExact : Type 0
BlockingExact =
    (v p0 p1 : List Float) (Ps : List WholePlane) (A B : ℕ → ℤ)
    → ViewRecord SegmentPlane v Ps → PointRecord p0 A → PointRecord p1 B → BlockingAnswer (blocking_plane_call v p0 p1) Ps A B
