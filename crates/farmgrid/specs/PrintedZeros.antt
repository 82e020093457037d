-- Zeros on printed boxes: which zero a bound is of what is combined and grouped, over every sequence of calls. Definitions and statements only.
-- "Union, intersection, transformed ranges and combined boxes follow it, and state the sign": of ranges matrix/specs/Signs states it. `zero_of true` is -0.
use Rattle.std.specs.Prelude.{◌≡◌, true, false, List, [], ◌∷◌, ℕ, ◌<◌, T, length, Float}
use Rattle.number.specs.Limits.{box_length}
use Rattle.number.specs.Arithmetic.{zero_of}
use Rattle.number.specs.Extremes.{Value}
use Rattle.matrix.specs.declared.matrix.Mat4d.{Mat4d}
use Rattle.matrix.specs.Vec.{axis}
use Rattle.matrix.specs.Matrix.{entry}
use Rattle.matrix.specs.Range.{range_of, is_empty}
use Rattle.verdict.specs.BBox.{box_of}
use Rattle.verdict.specs.BBoxCalls.{flagged, aligned_range_call}
use Rattle.placed.specs.Placement.{WholeBox}
use Rattle.farmgrid.specs.Records.{BoxRecords, Accepted}
use Rattle.farmgrid.specs.Grouping.{Mixed, EachRecord}

-- ---- records

-- No number of a matrix's translation, its last row, is -0. They are values of binary64, as every f64 is.
pub record PlainTranslation (m : Mat4d) : Type 0 where
  pub value : (j : ℕ) → j < 3 → Value (entry m 3 j)
  pub sign : (j : ℕ) → j < 3 → entry m 3 j ≡ zero_of true → ⊥

-- a box record with such a translation, of any numbers, NaN and infinities among them
pub record PlainRecord (s : List Float) : Type 0 where
  pub numbers : length s ≡ box_length
  pub flag : T (flagged s)
  pub translation : PlainTranslation (box_of s).matrix

-- a range's record, no number of which is -0
pub record PlainBounds (r : List Float) : Type 0 where
  pub numbers : length r ≡ 6
  pub lower : (j : ℕ) → j < 3 → axis (range_of r).min j ≡ zero_of true → ⊥
  pub upper : (j : ℕ) → j < 3 → axis (range_of r).max j ≡ zero_of true → ⊥

-- ---- the claims

-- Of any boxes: where no translation listed is -0, no bound of the aligned range of the box left is. An empty range, which stays as it is, is left out.
abbrev pub CombinedSigns : Type 0
CombinedSigns =
    (ss : List (List Float)) (last out : List Float)
    → EachRecord PlainRecord ss → Mixed ss (last ∷ []) → is_empty (box_of last).range ≡ false → length out ≡ 6 → Accepted (aligned_range_call last out) PlainBounds

-- Of grid boxes, none of which comes to an empty range: whatever calls two offices make of one list, they get one aligned range, signs of zeros included.
pub record OneRange (ss : List (List Float)) : Type 0 where
  pub plain : {last : List Float} → Mixed ss (last ∷ []) → (out : List Float) → length out ≡ 6 → Accepted (aligned_range_call last out) PlainBounds
  pub same : {last last' : List Float} → Mixed ss (last ∷ []) → Mixed ss (last' ∷ []) → (out out' : List Float) → length out ≡ 6 → length out' ≡ 6
      → aligned_range_call last out ≡ aligned_range_call last' out'

abbrev pub PrintedOnce : Type 0
PrintedOnce = (ss : List (List Float)) (B : WholeBox) (Bs : List WholeBox) → BoxRecords ss (B ∷ Bs) → EachRecord PlainRecord ss → OneRange ss
