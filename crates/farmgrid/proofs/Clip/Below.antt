-- Tests of the numbers below a limit: all pass exactly where each one does, and some one passes exactly where one is named that does. The idea: by induction
-- over the limit, whose last number is tried by itself. Assumes nothing.
use mathlib.Core.Path.{◌≡◌, sym, subst}
use mathlib.Core.Logic.{◌↔◌, ◌⊎◌, inl, inr}
use mathlib.Core.Bool.{Bool, true, false, ◌||◌}
use Prim.Native.Nat.{ℕ, zero, suc, ◌<◌}
use native.Mathlib.Nat.{eq-or-lt_of_le}
use native.Mathlib.Omega.{arith}
use lib.Dec.{T}
use lib.Ieee.Fits.{and_i, and_l, and_r}
use Rattle.number.specs.Every.{every_below, some_below}

-- a number below the next limit is the last, or below this one
last_or : {i n : ℕ} → i < suc n → (i ≡ n) ⊎ (i < n)
last_or {i} {n} h = eq-or-lt_of_le (omega arith)

module _ (t : ℕ → Bool) where
  pub every_below_lem : (n : ℕ) → T (every_below n t) ↔ ((i : ℕ) → i < n → T (t i))
  unfolding every_below
  every_below_lem zero = (λ h i l. absurd (omega arith), λ h. tt)
  every_below_lem (suc n) =
      let r = every_below_lem n in (
        λ h i l. at (r.0 (and_l (every_below n t) (t n) h)) (and_r (every_below n t) (t n) h) i (last_or l),
        λ h. and_i (every_below n t) (t n) (r.1 (λ i l. h i (omega arith))) (h n (omega arith)),
      )
    where
      at : ((i : ℕ) → i < n → T (t i)) → T (t n) → (i : ℕ) → (i ≡ n) ⊎ (i < n) → T (t i)
      at rest last i (inl e) = subst (λ (i : ℕ). T (t i)) (sym e) last
      at rest last i (inr l) = rest i l

  pub some_below_lem : (n : ℕ) → T (some_below n t) ↔ ((k : ℕ) × (k < n) × T (t k))
  unfolding some_below
  some_below_lem zero = (λ h. absurd h, λ h. absurd (omega (arith, h.1)))
  some_below_lem (suc n) = let r = some_below_lem n in (
    λ h. from (some_below n t) r.0 h,
    λ h. to (some_below n t) h.0 (last_or h.1) h.2 (λ l. r.1 (h.0, l, h.2)),
  )
    where
      from : (u : Bool) → (T u → (k : ℕ) × (k < n) × T (t k)) → T (u || t n) → (k : ℕ) × (k < suc n) × T (t k)
      from true f h = let g = f tt in (g.0, omega (arith, g.1), g.2)
      from false f h = (n, omega arith, h)

      to : (u : Bool) (k : ℕ) → (k ≡ n) ⊎ (k < n) → T (t k) → (k < n → T u) → T (u || t n)
      to true k c h f = tt
      to false k (inl e) h f = subst (λ (i : ℕ). T (t i)) e h
      to false k (inr l) h f = absurd (f l)
