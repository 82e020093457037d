-- The dot product with a turned direction. The idea: it is linear. Assumes nothing.
use mathlib.Core.Path.{◌≡◌, ◌∙◌}
use Prim.Native.Nat.{ℕ}
use lib.IntN.{ℤ, ◌+ℤ◌, ◌*ℤ◌}
use Rattle.whole.specs.Plane.{dotℤ}
use Rattle.whole.proofs.Dot.{dot_sum, dot_times}
use Rattle.placed.specs.Placement.{turnedℤ}

-- a turned q is the sum of the rows, each multiplied by the number of q at that row
pub dot_turned : (f : ℕ → ℕ → ℤ) (p q : ℕ → ℤ) → dotℤ p (turnedℤ f q) ≡ dotℤ q (λ i. dotℤ p (f i))
dot_turned f p q =
    dot_sum p (λ j. q 0 *ℤ f 0 j +ℤ q 1 *ℤ f 1 j) (λ j. q 2 *ℤ f 2 j)
    ∙ (λ t. (dot_sum p (λ j. q 0 *ℤ f 0 j) (λ j. q 1 *ℤ f 1 j) ∙ (λ s. dot_times p (f 0) (q 0) s +ℤ dot_times p (f 1) (q 1) s)) t
    +ℤ dot_times p (f 2) (q 2) t)
