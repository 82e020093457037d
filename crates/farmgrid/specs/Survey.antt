-- Surveys in metres: what the grid operation accepts is a grid point, so that the claims of points and segments speak of it. Definitions and statements only.
use Rattle.std.specs.Prelude.{◌≡◌, List, ℕ, ◌<◌, ℤ, Float, Some}
use Rattle.number.specs.Grid.{centimetres, placed, grid_call}
use Rattle.number.specs.Slice.{at}
use Rattle.farmgrid.specs.Records.{PointRecord}

-- s is the record of a grid point, of the whole centimetres that the rule names for each coordinate of p
pub record GridPointOf (p s : List Float) : Type 0 where
  pub point : ℕ → ℤ
  pub rule : (i : ℕ) → i < 3 → placed (centimetres (at p i)) ≡ Some (point i)
  pub left : PointRecord s point

-- "Exact verdicts start from the resulting grid points": where the grid operation is not refused, it leaves such a record.
abbrev pub SurveyExact : Type 0
SurveyExact = (p out : List Float) → (grid_call p out).status ≡ 0 → GridPointOf p (grid_call p out).out
