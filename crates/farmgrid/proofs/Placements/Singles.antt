-- Three numbers whose sizes add up to 1 are a 1 or a -1 at one place and zeros elsewhere, so that their product with any three numbers is one of these,
-- or its negation. The idea: the places are tried one by one. Assumes nothing.
use mathlib.Core.Path.{◌≡◌, refl, ap, ◌∙◌}
use Prim.Native.Nat.{ℕ, zero, suc, ◌<◌}
use native.Mathlib.Omega.{arith}
use mathlib.Core.Bool.{Bool, not, cond}
use lib.Dec.{eqb, lit<}
use lib.IntN.{ℤ, pos, negsuc, nat_abs, ◌+ℤ◌, ◌*ℤ◌}
use lib.Signed.{non_neg}
use Rattle.number.specs.Grid.{signed}
use Rattle.whole.proofs.Integer.{of_self as self, of_pos, of_eq, ◌⊞◌}
use Rattle.whole.specs.Plane.{dotℤ}
use Rattle.placed.specs.Placement.{sizes}
use Rattle.farmgrid.proofs.Numbers.WholeSigns.{flip, times_unit}
use Rattle.whole.proofs.Dot.{dot_comm}

-- ---- what holds at each place holds at every place

pub three : (P : ℕ → Type 0) → P 0 → P 1 → P 2 → (i : ℕ) → i < 3 → P i
three P a b c zero h = a
three P a b c (suc zero) h = b
three P a b c (suc (suc zero)) h = c
three P a b c (suc (suc (suc i))) h = absurd (omega arith)

pub four : (P : ℕ → Type 0) → ((i : ℕ) → i < 3 → P i) → P 3 → (i : ℕ) → i < 4 → P i
four P t d zero h = t 0 (lit< tt)
four P t d (suc zero) h = t 1 (lit< tt)
four P t d (suc (suc zero)) h = t 2 (lit< tt)
four P t d (suc (suc (suc zero))) h = d
four P t d (suc (suc (suc (suc i)))) h = absurd (omega arith)

-- ---- a 1 or a -1 at one place

-- g at the axis k, and 0 at the others
abbrev pub only : (ℕ → ℤ) → ℕ → ℕ → ℤ
only g k i = cond (eqb i k) (g i) (pos 0)

pub sum_only : (g : ℕ → ℤ) (k : ℕ) → k < 3 → only g k 0 +ℤ only g k 1 +ℤ only g k 2 ≡ g k
sum_only g = three (λ k. only g k 0 +ℤ only g k 1 +ℤ only g k 2 ≡ g k)
    (of_eq (self (g 0) ⊞ of_pos 0 ⊞ of_pos 0) (self (g 0)) (omega arith))
    (of_eq (of_pos 0 ⊞ self (g 1) ⊞ of_pos 0) (self (g 1)) (omega arith))
    (of_eq (of_pos 0 ⊞ of_pos 0 ⊞ self (g 2)) (self (g 2)) (omega arith))

abbrev pub unit : Bool → ℕ → ℕ → ℤ
unit s = only (λ i. signed s 1)

-- the numbers p are 0 but for a 1, or a -1 where the sign is true, at the axis `from`
pub record Single (p : ℕ → ℤ) : Type 0 where
  pub from : ℕ
  pub below : from < 3
  pub sign : Bool
  pub is : (i : ℕ) → i < 3 → p i ≡ unit sign from i

none : (z : ℤ) → nat_abs z ≡ 0 → z ≡ pos 0
none (pos n) h = ap pos h
none (negsuc n) h = absurd (omega arith)

one : (z : ℤ) → nat_abs z ≡ 1 → z ≡ signed (not (non_neg z)) 1
one (pos n) h = ap pos h
one (negsuc n) h = ap negsuc (omega arith)

pub single : {p : ℕ → ℤ} → sizes p ≡ 1 → Single p
single {p} h = go (nat_abs (p 0)) (nat_abs (p 1)) refl refl
  where
    at : (k : ℕ) → k < 3 → ((i : ℕ) → i < 3 → p i ≡ unit (not (non_neg (p k))) k i) → Single p
    at k l e = record { from = k; below = l; sign = not (non_neg (p k)); is = e }

    go : (a b : ℕ) → nat_abs (p 0) ≡ a → nat_abs (p 1) ≡ b → Single p
    go (suc a) b e e' = at 0 (lit< tt)
        (three (λ i. p i ≡ unit (not (non_neg (p 0))) 0 i) (one (p 0) (omega arith)) (none (p 1) (omega arith)) (none (p 2) (omega arith)))
    go zero (suc b) e e' = at 1 (lit< tt)
        (three (λ i. p i ≡ unit (not (non_neg (p 1))) 1 i) (none (p 0) (omega arith)) (one (p 1) (omega arith)) (none (p 2) (omega arith)))
    go zero zero e e' = at 2 (lit< tt)
        (three (λ i. p i ≡ unit (not (non_neg (p 2))) 2 i) (none (p 0) (omega arith)) (none (p 1) (omega arith)) (one (p 2) (omega arith)))

-- at its own place
pub unit_own : (s : Bool) (k : ℕ) → k < 3 → unit s k k ≡ signed s 1
unit_own s = three (λ k. unit s k k ≡ signed s 1) refl refl refl

-- ---- its product with any three numbers is one of them, or its negation

-- products of equal numbers
pub same_dot : (p : ℕ → ℤ) {q q' : ℕ → ℤ} → ((i : ℕ) → i < 3 → q i ≡ q' i) → dotℤ p q ≡ dotℤ p q'
same_dot p e t = p 0 *ℤ e 0 (lit< tt) t +ℤ p 1 *ℤ e 1 (lit< tt) t +ℤ p 2 *ℤ e 2 (lit< tt) t

module _ {p : ℕ → ℤ} (s : Single p) (q : ℕ → ℤ) where
  pub dot_single : dotℤ q p ≡ flip s.sign (q s.from)
  dot_single = (λ t. each 0 (lit< tt) t +ℤ each 1 (lit< tt) t +ℤ each 2 (lit< tt) t) ∙ sum_only (λ i. flip s.sign (q i)) s.from s.below
    where
      each : (i : ℕ) → i < 3 → q i *ℤ p i ≡ only (λ i. flip s.sign (q i)) s.from i
      each i h = ap (◌*ℤ◌ (q i)) (s.is i h) ∙ times_unit s.sign (eqb i s.from) (q i)

  pub single_dot : dotℤ p q ≡ flip s.sign (q s.from)
  single_dot = dot_comm p q ∙ dot_single
