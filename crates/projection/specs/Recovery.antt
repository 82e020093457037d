-- What is promised of recovery: what it accepts is given back, and a family of volumes that are built and recovered. Definitions and statements only.
-- A slice is any list of numbers, of any length; a statement says what it assumes of one.
use Rattle.std.specs.Prelude.{◌≡◌, ℕ, suc, ◌^◌, ◌<◌, true, List, length, Float}
use Rattle.std.specs.Float.Ieee.{neg}
use Rattle.std.specs.Float.Ieee.Scale.{finite}
use Rattle.number.specs.Slice.{at}
use Rattle.matrix.specs.Constants.{rounded, one}
use Rattle.projection.specs.declared.projection.Projection.{Projection}
use Rattle.projection.specs.declared.projection.ProjectionParams.{ProjectionParams}
use Rattle.projection.specs.Projection.{kind_number, numbers, close}
use Rattle.projection.specs.ProjectionCalls.{projection_call, recovery_call}

-- ---- what recovery accepts is given back

-- The record p of a projection gives the record m of a matrix back: the six numbers behind its kind are finite, the operation that builds
-- takes it, and each of the 16 numbers that it writes is close to the one of m.
pub record GivesBack (p m : List Float) : Type 0 where
  pub bounded : (i : ℕ) → i < 6 → finite (at p (suc i)) ≡ true
  pub taken : (out : List Float) → length out ≡ 16 → (projection_call p out).status ≡ 0
  pub rebuilt : (out : List Float) → length out ≡ 16 → (i : ℕ) → i < 16 → close (at m i) (at (projection_call p out).out i) ≡ true

-- Whatever was lent: where the operation that recovers is not refused, the record that it leaves gives the matrix back.
abbrev pub RecoveryGivesBack : Type 0
RecoveryGivesBack = (m out : List Float) → (recovery_call m out).status ≡ 0 → GivesBack (recovery_call m out).out m

-- ---- a family that is recovered

-- the volume with a window that reaches w to either side and h up and down, from 1 to far
abbrev pub centred : Projection → ℕ → ℕ → ℕ → ProjectionParams
centred kind w h far = record {
  projection = kind;
  left = neg (rounded w 1);
  right = rounded w 1;
  bottom = neg (rounded h 1);
  top = rounded h 1;
  near = one;
  far = rounded far 1;
}

-- The volume p is built and recovered: with room for a matrix and for a projection neither operation is refused, and the kind is the same.
pub record ThereAndBack (p : ProjectionParams) : Type 0 where
  pub taken : (out : List Float) → length out ≡ 16 → (projection_call (numbers p) out).status ≡ 0
  pub accepted : (m out : List Float) → length m ≡ 16 → length out ≡ 7 → (recovery_call (projection_call (numbers p) m).out out).status ≡ 0
  pub kind : (m out : List Float) → length m ≡ 16 → length out ≡ 7
      → at (recovery_call (projection_call (numbers p) m).out out).out 0 ≡ kind_number p.projection

-- Either kind, through windows that reach 1 or 2 to each side, from 1 to 2, 4, 8, 16, 32 or 64.
abbrev pub FamilyRecovered : Type 0
FamilyRecovered = (kind : Projection) (w h k : ℕ) → w < 2 → h < 2 → k < 6 → ThereAndBack (centred kind (suc w) (suc h) (2 ^ suc k))
