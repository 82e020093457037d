-- Extents, the least and the greatest number along each axis, and their unions. The idea: the least and the greatest of two integers are
-- associative, commutative and idempotent, so that the union over a list depends neither on its order nor on what was united before.
use mathlib.Core.Path.{◌≡◌, sym, ap, ◌∙◌}
use mathlib.Core.Bool.{Bool, true, false}
use mathlib.Core.List.{List, [], ◌∷◌}
use Prim.Native.Nat.{ℕ}
use native.Mathlib.Omega.{arith}
use lib.IntN.{ℤ}
use Rattle.whole.proofs.Integer.{of_self as self, of_eq, of_min, of_max, min_ind, max_ind}
use Rattle.farmgrid.proofs.Placements.PlacedRanges.{extreme}

-- ---- the least, or the greatest, of two integers

assoc : (u : Bool) (a b c : ℤ) → extreme u (extreme u a b) c ≡ extreme u a (extreme u b c)
assoc false a b c = of_eq (of_min (of_min (self a) (self b)) (self c)) (of_min (self a) (of_min (self b) (self c))) (omega arith)
assoc true a b c = of_eq (of_max (of_max (self a) (self b)) (self c)) (of_max (self a) (of_max (self b) (self c))) (omega arith)

comm : (u : Bool) (a b : ℤ) → extreme u a b ≡ extreme u b a
comm false a b = of_eq (of_min (self a) (self b)) (of_min (self b) (self a)) (omega arith)
comm true a b = of_eq (of_max (self a) (self b)) (of_max (self b) (self a)) (omega arith)

same : (u : Bool) (a : ℤ) → extreme u a a ≡ a
same false a = of_eq (of_min (self a) (self a)) (self a) (omega arith)
same true a = of_eq (of_max (self a) (self a)) (self a) (omega arith)

-- what holds of both holds of it
pub extreme_ind : (P : ℤ → Type 0) (u : Bool) (a b : ℤ) → P a → P b → P (extreme u a b)
extreme_ind P false a b p q = min_ind P a b (λ l. q) (λ l. p)
extreme_ind P true a b p q = max_ind P a b (λ l. q) (λ l. p)

-- ---- extents: the least along an axis, and where the test is true the greatest

abbrev pub Extent : Type 0
Extent = Bool → ℕ → ℤ

abbrev pub join : Extent → Extent → Extent
join e f u j = extreme u (e u j) (f u j)

pub join_assoc : (e f g : Extent) → join (join e f) g ≡ join e (join f g)
join_assoc e f g t u j = assoc u (e u j) (f u j) (g u j) t

pub join_comm : (e f : Extent) → join e f ≡ join f e
join_comm e f t u j = comm u (e u j) (f u j) t

join_same : (e : Extent) → join e e ≡ e
join_same e t u j = same u (e u j) t

pub join_swap : (e f g : Extent) → join e (join f g) ≡ join f (join e g)
join_swap e f g = sym (join_assoc e f g) ∙ ap (λ (x : Extent). join x g) (join_comm e f) ∙ join_assoc f e g

-- two extents are equal where their unions with every extent are
pub join_cancel : (e f : Extent) → ((x : Extent) → join e x ≡ join f x) → e ≡ f
join_cancel e f h = sym (join_same e) ∙ h e ∙ join_comm f e ∙ h f ∙ join_same f

-- ---- the union of a list of extents, and of one more

abbrev pub over : Extent → List Extent → Extent
over x [] = x
over x (e ∷ es) = join e (over x es)
