-- Exact points, and which of them are in a view and in a box. Definitions only.
-- ℤ are the whole numbers, ℕ those from 0 on, and `pos n` is n as a member of ℤ. Three whole numbers are given by axis, 0, 1 and 2.
use Rattle.std.specs.Prelude.{List, [], ◌∷◌, ℕ, ◌≤◌, ◌<◌, ℤ, pos, ◌-ℤ◌, ◌*ℤ◌, ◌≤ℤ◌}
use Rattle.whole.specs.Plane.{WholePlane, dotℤ}

-- "An exact point is written as three whole numbers over one whole k of at least 1"
pub record ExactPoint : Type 0 where
  pub numbers : ℕ → ℤ
  pub k : ℕ
  pub some : 1 ≤ k

-- "A point satisfies a plane if the dot product of normal and point, less the distance, is at least 0", and of an exact point
-- "every condition on it is multiplied through by k".
pub record Satisfies (P : WholePlane) (X : ExactPoint) : Type 0 where
  pub side : pos 0 ≤ℤ (dotℤ P.normal X.numbers -ℤ pos X.k *ℤ P.distance)

-- what holds of every plane of a list
abbrev pub Every : (WholePlane → Type 0) → List WholePlane → Type 0
Every K [] = Unit {0}
Every K (P ∷ Ps) = K P × Every K Ps

-- An exact point is "in the view if it satisfies every plane".
abbrev pub InView : List WholePlane → ExactPoint → Type 0
InView Ps X = Every (λ P. Satisfies P X) Ps

-- "An exact point is in the placed box if each coordinate lies from the least to the greatest of that coordinate" among its corners
pub record InBox (low high : ℕ → ℤ) (X : ExactPoint) : Type 0 where
  pub least : (j : ℕ) → j < 3 → (pos X.k *ℤ low j) ≤ℤ X.numbers j
  pub greatest : (j : ℕ) → j < 3 → X.numbers j ≤ℤ (pos X.k *ℤ high j)

-- "placed box and view share an exact point"
pub record BoxInView (Ps : List WholePlane) (low high : ℕ → ℤ) : Type 0 where
  pub point : ExactPoint
  pub held : InBox low high point
  pub seen : InView Ps point
