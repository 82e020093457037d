-- The cofactors of a placement are the numbers of its inverse across the diagonal, times its determinant. The idea: a three by three is expanded along
-- its last row, and the last column of a placement is 0, 0, 0, 1. Assumes nothing.
use mathlib.Core.Path.{◌≡◌, refl, sym, ap, ◌∙◌}
use Prim.Native.Nat.{ℕ, ◌+◌, ◌<◌}
use native.Mathlib.Omega.{arith}
use mathlib.Core.Bool.{Bool, true, false, not, cond}
use lib.Dec.{ltb, lit<}
use lib.IntN.{ℤ, pos, neg_ℤ, ◌+ℤ◌, ◌-ℤ◌, ◌*ℤ◌, *ℤ_comm}
use Rattle.number.specs.Grid.{signed}
use Rattle.whole.proofs.Integer.{by_test, of_self as self, of_pos, of_neg, of_eq, times_assoc, ◌⊞◌, ◌⊟◌, ◌⊠◌}
use Rattle.matrix.specs.Inverse.{skipping}
use Rattle.whole.specs.Plane.{dotℤ}
use Rattle.farmgrid.specs.Placement.{PlacementWithin}
use Rattle.farmgrid.specs.Placement.{dot4ℤ}
use Rattle.farmgrid.proofs.Numbers.WholeSigns.{flip, flip_one, flip_zero, flip_neg, dot_flip, plus_zero}
use Rattle.farmgrid.proofs.Placements.Singles.{three, four, same_dot}
use Rattle.farmgrid.proofs.Placements.InversePlacements.{inverseℤ, inverse_upper, inverse_last}
use Rattle.farmgrid.proofs.Placements.TurnDeterminants.{plusℤ, expandedℤ, cofactorℤ, odd, minor, cofactor3, mirrored, determinants_are, cofactor3_is}

-- ---- a three by three expanded along its last row

-- six terms with their signs, gathered in pairs
gathered : (s : Bool) (a b c d u w : ℤ)
    → plusℤ (not s) (plusℤ s (plusℤ s (plusℤ (not s) (plusℤ (not s) (flip s a) b) c) d) u) w ≡ flip s (u -ℤ w +ℤ neg_ℤ (b -ℤ d) +ℤ (a -ℤ c))
gathered false a b c d u w = of_eq (self a ⊟ self b ⊟ self c ⊞ self d ⊞ self u ⊟ self w)
    (self u ⊟ self w ⊞ of_neg (self b ⊟ self d) ⊞ (self a ⊟ self c)) (omega arith)
gathered true a b c d u w = of_eq (of_neg (self a) ⊞ self b ⊞ self c ⊟ self d ⊟ self u ⊞ self w)
    (of_neg (self u ⊟ self w ⊞ of_neg (self b ⊟ self d) ⊞ (self a ⊟ self c))) (omega arith)

module _ (x a b : ℤ) where
  times_minus : x *ℤ (a -ℤ b) ≡ x *ℤ a -ℤ x *ℤ b
  times_minus = of_eq (self x ⊠ (self a ⊟ self b)) (self x ⊠ self a ⊟ self x ⊠ self b) (omega arith)

  times_neg : x *ℤ neg_ℤ (a -ℤ b) ≡ neg_ℤ (x *ℤ a -ℤ x *ℤ b)
  times_neg = of_eq (self x ⊠ of_neg (self a ⊟ self b)) (of_neg (self x ⊠ self a ⊟ self x ⊠ self b)) (omega arith)

  times_flip : (s : Bool) → flip s a *ℤ b *ℤ x ≡ flip s (x *ℤ (a *ℤ b))
  times_flip false = *ℤ_comm (a *ℤ b) x
  times_flip true = of_eq (of_neg (self a) ⊠ self b ⊠ self x) (of_neg (self x ⊠ (self a ⊠ self b))) (omega arith)

  times_turn : x *ℤ a *ℤ b ≡ x *ℤ (b *ℤ a)
  times_turn = of_eq (self x ⊠ self a ⊠ self b) (self x ⊠ (self b ⊠ self a)) (omega arith)

abbrev along : (ℕ → ℕ → ℤ) → ℤ
along e = dotℤ (e 2) (λ k. flip (odd k) (minor e k))

expansion : (s : Bool) (e : ℕ → ℕ → ℤ) → expandedℤ s e ≡ flip s (along e)
expansion s e =
    let x = e 2 0 in
    let y = e 2 1 in
    let z = e 2 2 in
    let a = e 0 0 *ℤ e 1 1 in
    let b = e 0 0 *ℤ e 1 2 in
    let c = e 1 0 *ℤ e 0 1 in
    let d = e 1 0 *ℤ e 0 2 in
    let u = e 0 1 *ℤ e 1 2 in
    let w = e 1 1 *ℤ e 0 2 in
    (λ t. plusℤ (not s) (plusℤ s (plusℤ s (plusℤ (not s) (plusℤ (not s)
    (times_flip z (e 0 0) (e 1 1) s t) (*ℤ_comm b y t)) (*ℤ_comm c z t)) (*ℤ_comm d y t))
    (times_assoc x (e 0 1) (e 1 2) t)) (times_turn x (e 0 2) (e 1 1) t))
    ∙ gathered s (z *ℤ a) (y *ℤ b) (z *ℤ c) (y *ℤ d) (x *ℤ u) (x *ℤ w)
    ∙ sym (λ t. flip s (times_minus x u w t +ℤ times_neg y b d t +ℤ times_minus z a c t))

-- where the last column is 0, 0, w
edge : (e : ℕ → ℕ → ℤ) (w : ℤ) → e 0 2 ≡ pos 0 → e 1 2 ≡ pos 0 → e 2 2 ≡ w → along e ≡ w *ℤ minor e 2
edge e w p q r =
    (λ t. e 2 0 *ℤ (e 0 1 *ℤ q t -ℤ e 1 1 *ℤ p t) +ℤ e 2 1 *ℤ neg_ℤ (e 0 0 *ℤ q t -ℤ e 1 0 *ℤ p t) +ℤ r t *ℤ minor e 2)
    ∙ (λ t. e 2 0 *ℤ none (e 0 1) (e 1 1) t +ℤ e 2 1 *ℤ neg_ℤ (none (e 0 0) (e 1 0) t) +ℤ w *ℤ minor e 2)
    ∙ of_eq (self (e 2 0) ⊠ of_pos 0 ⊞ self (e 2 1) ⊠ of_pos 0 ⊞ self (w *ℤ minor e 2)) (self (w *ℤ minor e 2)) (omega arith)
  where
    none : (a b : ℤ) → a *ℤ pos 0 -ℤ b *ℤ pos 0 ≡ pos 0
    none a b = of_eq (self a ⊠ of_pos 0 ⊟ self b ⊠ of_pos 0) (of_pos 0) (omega arith)

-- all signs turned
opposite : (p : ℕ → ℤ) (a b c : ℤ)
    → p 0 *ℤ a +ℤ p 1 *ℤ neg_ℤ b +ℤ p 2 *ℤ c ≡ neg_ℤ (p 0 *ℤ neg_ℤ a +ℤ p 1 *ℤ b +ℤ p 2 *ℤ neg_ℤ c)
opposite p a b c = of_eq (self (p 0) ⊠ self a ⊞ self (p 1) ⊠ of_neg (self b) ⊞ self (p 2) ⊠ self c)
    (of_neg (self (p 0) ⊠ of_neg (self a) ⊞ self (p 1) ⊠ self b ⊞ self (p 2) ⊠ of_neg (self c))) (omega arith)

-- ---- the cofactors of the whole matrix

-- what is left of rows and columns without one: two of the first three, and the last but where that is left out
without_low : (i r : ℕ) → r < 2 → skipping i r < 3
without_low i r h = by_test (λ u. cond u r (r + 1) < 3) (ltb r i) (λ t. omega arith) (λ t. omega arith)

without_last : (i : ℕ) → i < 3 → skipping i 2 ≡ 3
without_last = three (λ i. skipping i 2 ≡ 3) refl refl refl

module _ {b : ℕ} {f : ℕ → ℕ → ℤ} (F : PlacementWithin b f) where
  upper_zero : (i j r : ℕ) → j < 3 → r < 2 → f (skipping i r) (skipping j 2) ≡ pos 0
  upper_zero i j r h k = ap (f (skipping i r)) (without_last j h) ∙ F.zeros (skipping i r) (without_low i r k)

  -- without a column of the first three, the last column is 0, 0, and the number w of the last row
  cofactor_edge : (i j : ℕ) (w : ℤ) → j < 3 → f (skipping i 2) (skipping j 2) ≡ w
      → cofactorℤ f i j ≡ flip (odd (i + j)) (w *ℤ minor (λ r. f (skipping i r)) j)
  cofactor_edge i j w h e =
      let g : ℕ → ℕ → ℤ = λ r c. f (skipping i r) (skipping j c) in
      expansion (odd (i + j)) g ∙ ap (flip (odd (i + j))) (edge g w (upper_zero i j 0 h (lit< tt)) (upper_zero i j 1 h (lit< tt)) e)

  cofactor_upper : (i j : ℕ) → i < 3 → j < 3 → cofactorℤ f i j ≡ cofactor3 f i j
  cofactor_upper i j h k =
      let m = minor (λ r. f (skipping i r)) j in
      cofactor_edge i j (pos 1) k ((λ t. f (without_last i h t) (without_last j k t)) ∙ F.last)
      ∙ ap (flip (odd (i + j))) (of_eq (of_pos 1 ⊠ self m) (self m) (omega arith))

  cofactor_bottom : (j : ℕ) → j < 3 → cofactorℤ f 3 j ≡ pos 0
  cofactor_bottom j h =
      let m = minor (λ r. f (skipping 3 r)) j in
      cofactor_edge 3 j (pos 0) h (ap (f 2) (without_last j h) ∙ F.zeros 2 (lit< tt))
      ∙ ap (flip (odd (3 + j))) (of_eq (of_pos 0 ⊠ self m) (of_pos 0) (omega arith))
      ∙ flip_zero (odd (3 + j))

  -- without the last column, the last row is the translation
  cofactor_right : (i : ℕ) → i < 3 → cofactorℤ f i 3 ≡ neg_ℤ (dotℤ (f 3) (cofactor3 f i))
  cofactor_right = three (λ i. cofactorℤ f i 3 ≡ neg_ℤ (dotℤ (f 3) (cofactor3 f i)))
      (expansion true (λ r c. f (skipping 0 r) (skipping 3 c)))
      (expansion false (λ r c. f (skipping 1 r) (skipping 3 c))
      ∙ opposite (f 3) (minor (λ r. f (skipping 1 r)) 0) (minor (λ r. f (skipping 1 r)) 1) (minor (λ r. f (skipping 1 r)) 2))
      (expansion true (λ r c. f (skipping 2 r) (skipping 3 c)))

  -- each cofactor is the number of the inverse across the diagonal, times the determinant
  pub cofactor_is : (i j : ℕ) → i < 4 → j < 4 → cofactorℤ f i j ≡ flip (mirrored f) (inverseℤ f j i)
  cofactor_is i j h k = four (λ i. cofactorℤ f i j ≡ flip (mirrored f) (inverseℤ f j i)) upper
      (four (λ j. cofactorℤ f 3 j ≡ flip (mirrored f) (f j 3)) bottom corner j k) i h
    where
      corner : cofactorℤ f 3 3 ≡ flip (mirrored f) (f 3 3)
      corner = determinants_are F.turn 1 (lit< tt) ∙ flip_one (mirrored f) ∙ ap (flip (mirrored f)) (sym F.last)

      bottom : (j : ℕ) → j < 3 → cofactorℤ f 3 j ≡ flip (mirrored f) (f j 3)
      bottom j h = cofactor_bottom j h ∙ sym (ap (flip (mirrored f)) (F.zeros j h) ∙ flip_zero (mirrored f))

      right : (i : ℕ) → i < 3 → cofactorℤ f i 3 ≡ flip (mirrored f) (inverseℤ f 3 i)
      right i h =
          cofactor_right i h
          ∙ ap neg_ℤ (same_dot (f 3) {q = cofactor3 f i} {q' = λ k. flip (mirrored f) (f i k)} (λ k l. cofactor3_is F.turn i k h l))
          ∙ ap neg_ℤ (dot_flip (mirrored f) (f 3) (f i)) ∙ flip_neg (mirrored f) (dotℤ (f 3) (f i))
          ∙ ap (flip (mirrored f)) (sym (inverse_last f i h))

      upper : (i : ℕ) → i < 3 → cofactorℤ f i j ≡ flip (mirrored f) (inverseℤ f j i)
      upper i h = four (λ j. cofactorℤ f i j ≡ flip (mirrored f) (inverseℤ f j i))
          (λ j l. cofactor_upper i j h l ∙ cofactor3_is F.turn i j h l ∙ ap (flip (mirrored f)) (sym (inverse_upper f j i l h)))
          (right i h) j k

  -- the first row times its cofactors is the determinant
  pub first_row_is : dot4ℤ (f 0) (cofactorℤ f 0) ≡ signed (mirrored f) 1
  first_row_is =
      (λ t. same_dot (f 0) {q = cofactorℤ f 0} {q' = cofactor3 f 0} (λ k l. cofactor_upper 0 k (lit< tt) l) t
      +ℤ F.zeros 0 (lit< tt) t *ℤ cofactorℤ f 0 3)
      ∙ plus_zero (dotℤ (f 0) (cofactor3 f 0)) (cofactorℤ f 0 3)
      ∙ determinants_are F.turn 2 (lit< tt)
