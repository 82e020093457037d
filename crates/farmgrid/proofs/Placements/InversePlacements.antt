-- The inverse of a placement is a placement, and undoes it. The idea: where a column has its 1 or -1, the row of that place has it too, and with the
-- same sign. Assumes nothing.
use mathlib.Core.Path.{◌≡◌, refl, sym, ap, ◌∙◌}
use Prim.Native.Nat.{ℕ, ◌<◌}
use native.Mathlib.Omega.{arith}
use mathlib.Core.Bool.{Bool, true, false, cond}
use lib.Dec.{eqb, eqb→eq}
use lib.IntN.{ℤ, pos, neg_ℤ, nat_abs, ◌+ℤ◌, pos-ne-negsuc}
use Rattle.number.specs.Grid.{signed}
use Rattle.whole.proofs.Integer.{by_test, of_self as self, of_neg, of_eq, abs_neg, ◌⊞◌}
use Rattle.whole.specs.Plane.{dotℤ}
use Rattle.farmgrid.proofs.Numbers.Exact.{abs_signed}
use Rattle.farmgrid.specs.Placement.{QuarterTurn, PlacementWithin}
use Rattle.placed.specs.Placement.{columnℤ, turnedℤ, movedℤ}
use Rattle.farmgrid.proofs.Numbers.WholeSigns.{flip}
use Rattle.farmgrid.proofs.Placements.Singles.{three, Single, unit_own, same_dot, dot_single}
use Rattle.farmgrid.proofs.Placements.QuarterTurns.{transposeℤ, source, target, turned_within, moved_is, same_sizes}

-- what undoes a placement: its three by three transposed, the translation turned back and negated, the same last column
abbrev pub inverseℤ : (ℕ → ℕ → ℤ) → ℕ → ℕ → ℤ
inverseℤ f i j = cond (eqb j 3) (f i 3) (cond (eqb i 3) (neg_ℤ (turnedℤ (transposeℤ f) (f 3) j)) (f j i))

-- the numbers of an inverse
not_last : (i : ℕ) → i < 3 → eqb i 3 ≡ false
not_last = three (λ i. eqb i 3 ≡ false) refl refl refl

pub inverse_upper : (f : ℕ → ℕ → ℤ) (i j : ℕ) → i < 3 → j < 3 → inverseℤ f i j ≡ f j i
inverse_upper f i j h k = rw (not_last i h, not_last j k)

pub inverse_last : (f : ℕ → ℕ → ℤ) (j : ℕ) → j < 3 → inverseℤ f 3 j ≡ neg_ℤ (dotℤ (f 3) (f j))
inverse_last f j h = rw (not_last j h)

module _ {b : ℕ} {f : ℕ → ℕ → ℤ} (F : PlacementWithin b f) where
  pub transposed_turn : QuarterTurn (transposeℤ f)
  transposed_turn = record { rows = F.turn.columns; columns = F.turn.rows }

  -- the inverse of a placement is a placement
  pub inverse_placement : PlacementWithin b (inverseℤ f)
  inverse_placement = record {
    turn = record {
      rows = λ i h. same_sizes (inverseℤ f i) (columnℤ f i) (λ j k. ap nat_abs (inverse_upper f i j h k)) ∙ F.turn.columns i h;
      columns = λ j h. same_sizes (columnℤ (inverseℤ f) j) (f j) (λ i k. ap nat_abs (inverse_upper f i j k h)) ∙ F.turn.rows j h;
    };
    translation = record {
      size = λ j h.
          let l = (turned_within transposed_turn F.translation).size j h in
          omega (arith, ap nat_abs (inverse_last f j h), abs_neg (dotℤ (f 3) (f j)));
    };
    zeros = F.zeros;
    last = F.last;
  }

-- where the 1 or -1 of p stands at j in q, the place in q is j, and the sign is the same
pub crossing : {p q : ℕ → ℤ} (s : Single p) (t : Single q) (j : ℕ) → j < 3 → p s.from ≡ q j → (t.from ≡ j) × (t.sign ≡ s.sign)
crossing s t j h e =
    by_test (λ u. signed s.sign 1 ≡ cond u (signed t.sign 1) (pos 0) → (t.from ≡ j) × (t.sign ≡ s.sign)) (eqb j t.from)
    (λ r e. (sym (eqb→eq j t.from r), alike t.sign s.sign (sym e)))
    (λ r e. absurd (omega (arith, ap nat_abs e, abs_signed s.sign 1)))
    (sym (unit_own s.sign s.from s.below) ∙ sym (s.is s.from s.below) ∙ e ∙ t.is j h)
  where
    alike : (a b : Bool) → signed a 1 ≡ signed b 1 → a ≡ b
    alike false false e = refl
    alike false true e = absurd (pos-ne-negsuc 1 0 e)
    alike true false e = absurd (pos-ne-negsuc 1 0 (sym e))
    alike true true e = refl

-- the inverse, and then the placement, leave a point where it was
pub undone : {b : ℕ} {f : ℕ → ℕ → ℤ} → PlacementWithin b f → (p : ℕ → ℤ) (j : ℕ) → j < 3 → movedℤ f (movedℤ (inverseℤ f) p) j ≡ p j
undone {f = f} F p j h =
    moved_is F (movedℤ (inverseℤ f) p) j h
    ∙ ap (λ (z : ℤ). flip s.sign z +ℤ f 3 j) back
    ∙ (λ i. flip s.sign (flip (c.1 i) (p (c.0 i)) +ℤ neg_ℤ (flip (c.1 i) (f 3 (c.0 i)))) +ℤ f 3 j)
    ∙ cancel s.sign (p j) (f 3 j)
  where
    s : Single (columnℤ f j)
    s = source F.turn j h

    t : Single (f s.from)
    t = target F.turn s.from s.below

    c : (t.from ≡ j) × (t.sign ≡ s.sign)
    c = crossing s t j h refl

    back : movedℤ (inverseℤ f) p s.from ≡ flip t.sign (p t.from) +ℤ neg_ℤ (flip t.sign (f 3 t.from))
    back =
        let e = same_dot p {q = columnℤ (inverseℤ f) s.from} {q' = f s.from} (λ i l. inverse_upper f i s.from l s.below) in
        λ i. (e ∙ dot_single t p) i +ℤ (inverse_last f s.from s.below ∙ ap neg_ℤ (dot_single t (f 3))) i

    cancel : (s : Bool) (a t : ℤ) → flip s (flip s a +ℤ neg_ℤ (flip s t)) +ℤ t ≡ a
    cancel false a t = of_eq (self a ⊞ of_neg (self t) ⊞ self t) (self a) (omega arith)
    cancel true a t = of_eq (of_neg (of_neg (self a) ⊞ of_neg (of_neg (self t))) ⊞ self t) (self a) (omega arith)
