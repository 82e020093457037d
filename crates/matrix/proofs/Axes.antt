-- The three axes. Assumes nothing.
use Prim.Native.Nat.{ℕ, zero, suc, ◌<◌}
use native.Mathlib.Omega.{arith}

-- what holds along x, y and z holds along each axis
pub along : (P : ℕ → Type 0) → P 0 → P 1 → P 2 → (i : ℕ) → i < 3 → P i
along P x y z zero h = x
along P x y z (suc zero) h = y
along P x y z (suc (suc zero)) h = z
along P x y z (suc (suc (suc i))) h = absurd (omega arith)
