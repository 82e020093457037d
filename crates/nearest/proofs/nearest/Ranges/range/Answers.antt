-- `Ranges::range` meets its contract: number by number what the slice has there. Assumes nothing.
use mathlib.Core.Path.{◌≡◌, ap, ◌∙◌}
use mathlib.Core.List.{List}
use Prim.Native.Nat.{ℕ, ◌+◌, ◌-◌, ◌*◌, ◌<◌}
use native.Mathlib.Omega.{arith}
use lib.ListN.{take, drop}
use lib.Ieee.{Float}
use Rattle.number.specs.Limits.{range_length}
use Rattle.number.specs.Slice.{at}
use Rattle.number.specs.Records.{record_at}
use Rattle.number.proofs.Records.{number_at_lem}
use Rattle.matrix.specs.Range.{range_of}
use Rattle.matrix.proofs.Same.{same_range, same_vec3}
use Rattle.nearest.specs.Nearest.{range_at}
use Rattle.nearest.proofs.nearest.Ranges.range.Goals as goal

module _ (s : List Float) (i : ℕ) where
  number : (j place : ℕ) → j < range_length → i * range_length + j ≡ place → at (record_at range_length s i) j ≡ at s place
  number j place h e = number_at_lem range_length s i j h ∙ ap (λ (k : ℕ). at s k) e

  read : range_of (record_at range_length s i) ≡ range_at s i
  read =
      same_range (same_vec3 (number 0 _ (omega arith) (omega arith)) (number 1 _ (omega arith) (omega arith)) (number 2 _ (omega arith) (omega arith)))
      (same_vec3 (number 3 _ (omega arith) (omega arith)) (number 4 _ (omega arith) (omega arith)) (number 5 _ (omega arith) (omega arith)))

pub returns : goal.returns
returns c =
    let a = c.args in
    let from = a.i * range_length in
    let n : from + range_length - from ≡ range_length = omega arith in
    c.load.ensures ∙ ap (λ (k : ℕ). range_of (take k (drop from a.self.numbers.now))) n ∙ read a.self.numbers.now a.i
