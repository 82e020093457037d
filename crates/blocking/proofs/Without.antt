-- A test of every element of a list without one, by the places of the list. Assumes nothing.
use mathlib.Core.Path.{◌≡◌, refl, sym, ap, ◌∙◌}
use mathlib.Core.Bool.{Bool, true, false, ◌&&◌, ◌||◌}
use Prim.Native.Nat.{ℕ, zero, suc}
use native.Mathlib.Omega.{arith}
use borrow.Author.Tests.{eqb-true, eqb-false, eq-eqb, ne_eqb}
use lib.Dec.{eqb}
use Rattle.number.specs.Tabulate.{tabulate}
use Rattle.number.specs.Every.{every, every_below}
use Rattle.verdict.proofs.PlanesBehind.{first_below}
use Rattle.blocking.specs.Blocking.{without}

pub next_same : (k j : ℕ) → eqb k j ≡ eqb (suc k) (suc j)
next_same k j = go (eqb k j) refl
  where
    go : (b : Bool) → eqb k j ≡ b → b ≡ eqb (suc k) (suc j)
    go true e = sym (eq-eqb (suc k) (suc j) (ap suc (eqb-true k j e)))
    go false e = sym (ne_eqb (suc k) (suc j) (λ q. eqb-false k j e (omega arith)))

module _ {A : Type 0} (test : A → Bool) where
  every_place : (f : ℕ → A) (n : ℕ) → every test (tabulate f n) ≡ every_below n (λ k. test (f k))
  unfolding every every_below tabulate
  every_place f zero = refl
  every_place f (suc n) = ap (λ (b : Bool). test (f 0) && b) (every_place (λ k. f (suc k)) n) ∙ sym (first_below n (λ k. test (f k)))

  pub every_other : (f : ℕ → A) (n j : ℕ) → every test (without j (tabulate f n)) ≡ every_below n (λ k. eqb k j || test (f k))
  unfolding every every_below tabulate
  every_other f zero zero = refl
  every_other f zero (suc j) = refl
  every_other f (suc n) zero =
      every_place (λ k. f (suc k)) n
      ∙ (λ i. every_below n (λ k. sym (ne_eqb (suc k) 0 (λ e. omega arith)) i || test (f (suc k))))
      ∙ sym (first_below n (λ k. eqb k 0 || test (f k)))
  every_other f (suc n) (suc j) =
      ap (λ (b : Bool). test (f 0) && b) (every_other (λ k. f (suc k)) n j)
      ∙ (λ i. (sym (ne_eqb 0 (suc j) (λ e. omega arith)) i || test (f 0)) && every_below n (λ k. next_same k j i || test (f (suc k))))
      ∙ sym (first_below n (λ k. eqb k (suc j) || test (f k)))
