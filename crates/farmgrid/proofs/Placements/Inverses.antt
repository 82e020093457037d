-- The inverse of a placement is exact: its determinant is the float 1 or -1, so that it is accepted above every epsilon
-- below 1, and each number of its inverse is that of the integer inverse. The idea: the cofactors are sums of six products
-- with at most one translation in each, exact far below 2 ^ 53, and 1 / ±1 is ±1.
use Rattle.std.specs.Prelude.{None, Option, Some}
use mathlib.Core.Path.{◌≡◌, refl, ap, ◌∙◌, subst}
use Prim.Native.Nat.{ℕ, suc, ◌+◌, ◌*◌, ◌%◌, ◌^◌, ◌≤◌, ◌<◌}
use native.Mathlib.Omega.{arith}
use mathlib.Core.Bool.{Bool, true, false, not, cond}
use lib.Dec.{T, eqb, ltb, lit<, lit≤}
use lib.IntN.{ℤ, pos, ◌*ℤ◌}
use lib.Ieee.{Float, binary64, lt}
use lib.Ieee.Fits.{add-fits}
use Rattle.number.specs.Answer.{unless}
use Rattle.number.specs.Arithmetic.{◌⊗◌, ◌⊘◌, abs_of}
use Rattle.number.specs.Grid.{signed}
use Rattle.farmgrid.specs.Whole.{Whole}
use Rattle.whole.proofs.Integer.{by_test}
use Rattle.farmgrid.proofs.Numbers.Exact.{abs_whole, abs_signed}
use Rattle.number.proofs.Magnitude.{abs_fits}
use Rattle.farmgrid.proofs.Numbers.Fit.{Fit, fit_sum, fit_minus, fit_times, fit_neg}
use Rattle.matrix.specs.declared.matrix.Mat4d.{Mat4d}
use Rattle.matrix.specs.Constants.{one}
use Rattle.matrix.specs.Matrix.{entry}
use Rattle.matrix.specs.Inverse.{turned, signed_sum, expanded, skipping, cofactor, adjugate, determinant, scaled, inverse_above}
use Rattle.farmgrid.specs.Placement.{WholeMatrix, PlacementWithin}
use Rattle.farmgrid.proofs.Placements.QuarterTurns.{upper_size}
use Rattle.farmgrid.proofs.Placements.InversePlacements.{inverseℤ}
use Rattle.farmgrid.proofs.Placements.TurnDeterminants.{plusℤ, expandedℤ, cofactorℤ, mirrored}
use Rattle.farmgrid.proofs.Placements.Cofactors.{cofactor_is, first_row_is}
use Rattle.farmgrid.proofs.Numbers.WholeSums.{over_unit, entry_matrix, whole_matrix, dot4_fit}
use Rattle.farmgrid.proofs.Placements.WholePlacements.{wide, entry_fit}
use Rattle.farmgrid.proofs.Numbers.WholeSigns.{flip, flip_flip}
use Rattle.farmgrid.proofs.Placements.Units.{is_one}

-- ---- a cofactor

fit_turned : (s : Bool) {x : Float} {a : ℤ} {p : ℕ} → Fit x a p → Fit (turned s x) (flip s a) p
fit_turned false h = h
fit_turned true h = fit_neg h

fit_plus : (s : Bool) {x y : Float} {a b : ℤ} {p q : ℕ} → Fit x a p → Fit y b q → p + q ≤ 2 ^ 53 → Fit (signed_sum s x y) (plusℤ s a b) (p + q)
fit_plus false g h l = fit_sum g h l
fit_plus true g h l = fit_minus g h l

-- two rows of ones at most, and one of translations
module _ (s : Bool) (e : ℕ → ℕ → Float) (g : ℕ → ℕ → ℤ) (E : (r c : ℕ) → r < 2 → c < 3 → Fit (e r c) (g r c) 1)
    (L : (c : ℕ) → c < 3 → Fit (e 2 c) (g 2 c) wide) where
  expanded_fit : Fit (expanded s e) (expandedℤ s g) (wide + wide + wide + wide + wide + wide)
  expanded_fit =
      fit_plus (not s) (fit_plus s (fit_plus s (fit_plus (not s) (fit_plus (not s)
      (below (fit_turned s (E 0 0 (lit< tt) (lit< tt))) (E 1 1 (lit< tt) (lit< tt)) (L 2 (lit< tt)))
      (below (E 0 0 (lit< tt) (lit< tt)) (E 1 2 (lit< tt) (lit< tt)) (L 1 (lit< tt))) (lit≤ tt))
      (below (E 1 0 (lit< tt) (lit< tt)) (E 0 1 (lit< tt) (lit< tt)) (L 2 (lit< tt))) (lit≤ tt))
      (below (E 1 0 (lit< tt) (lit< tt)) (E 0 2 (lit< tt) (lit< tt)) (L 1 (lit< tt))) (lit≤ tt))
      (above (L 0 (lit< tt)) (E 0 1 (lit< tt) (lit< tt)) (E 1 2 (lit< tt) (lit< tt))) (lit≤ tt))
      (above (L 0 (lit< tt)) (E 0 2 (lit< tt) (lit< tt)) (E 1 1 (lit< tt) (lit< tt))) (lit≤ tt)
    where
      below : {x y z : Float} {a b c : ℤ} → Fit x a 1 → Fit y b 1 → Fit z c wide → Fit (x ⊗ y ⊗ z) (a *ℤ b *ℤ c) wide
      below x y z = fit_times (fit_times x y (lit≤ tt)) z (lit≤ tt)

      above : {x y z : Float} {a b c : ℤ} → Fit x a wide → Fit y b 1 → Fit z c 1 → Fit (x ⊗ y ⊗ z) (a *ℤ b *ℤ c) wide
      above x y z = fit_times (fit_times x y (lit≤ tt)) z (lit≤ tt)

without_below : (i r n : ℕ) → r < n → skipping i r < suc n
without_below i r n h = by_test (λ u. cond u r (r + 1) < suc n) (ltb r i) (λ t. omega arith) (λ t. omega arith)

-- an inverse was accepted, and is the whole matrix g
pub record WholeInverse (answer : Option Mat4d) (g : ℕ → ℕ → ℤ) : Type 0 where
  pub matrix : Mat4d
  pub accepted : answer ≡ Some matrix
  pub numbers : WholeMatrix matrix g

module _ {m : Mat4d} {f : ℕ → ℕ → ℤ} (M : WholeMatrix m f) (F : PlacementWithin wide f) where
  -- its first three rows
  upper_fit : (i j : ℕ) → i < 3 → j < 4 → Fit (entry m i j) (f i j) 1
  upper_fit i j h k = record { whole = M.at i j (omega arith) k; size = upper_size F i j h k }

  cofactor_fit : (i j : ℕ) → Fit (cofactor m i j) (cofactorℤ f i j) (6 * wide)
  cofactor_fit i j = expanded_fit (eqb ((i + j) % 2) 1) (λ r c. entry m (skipping i r) (skipping j c)) (λ r c. f (skipping i r) (skipping j c))
      (λ r c h k. upper_fit (skipping i r) (skipping j c) (without_below i r 2 h) (without_below j c 3 k))
      (λ c k. entry_fit M F (skipping i 2) (skipping j c) (without_below i 2 3 (lit< tt)) (without_below j c 3 k))

  -- the determinant is the float 1, or -1
  pub determinant_whole : Whole (determinant m) (signed (mirrored f) 1)
  unfolding determinant
  determinant_whole = subst (Whole (determinant m)) (first_row_is F)
      (dot4_fit (lit≤ tt) (entry m 0) (cofactor m 0) (f 0) (cofactorℤ f 0) (λ j h. upper_fit 0 j (lit< tt) h) (λ j h. cofactor_fit 0 j)).whole

  determinant_one : abs_of (determinant m) ≡ one
  unfolding determinant
  determinant_one = is_one (abs_fits (determinant m) (add-fits binary64 _ _))
      (subst (λ (n : ℕ). Whole (abs_of (determinant m)) (pos n)) (abs_signed (mirrored f) 1) (abs_whole determinant_whole))

  -- each number of the inverse
  scaled_whole : WholeMatrix (scaled (adjugate m) (one ⊘ determinant m)) (inverseℤ f)
  unfolding adjugate
  scaled_whole = whole_matrix (λ i j. entry (adjugate m) i j ⊗ (one ⊘ determinant m)) (λ i j h k.
      let c = cofactor_fit j i in
      let w = over_unit (mirrored f) c.whole determinant_whole (omega (arith, c.size)) in
      let e : flip (mirrored f) (cofactorℤ f j i) ≡ inverseℤ f i j =
      ap (flip (mirrored f)) (cofactor_is F j i k h) ∙ flip_flip (mirrored f) (inverseℤ f i j) in
      rw (entry_matrix (λ i j. cofactor m j i) i j h k) (subst (Whole (cofactor m j i ⊗ (one ⊘ determinant m))) e w))

  -- the inverse, for any epsilon below 1
  pub inverse_whole : (epsilon : Float) → T (lt epsilon one) → WholeInverse (inverse_above epsilon m) (inverseℤ f)
  unfolding inverse_above
  inverse_whole epsilon h =
      let n = scaled (adjugate m) (one ⊘ determinant m) in
      record { matrix = n; accepted = accepted (lt epsilon (abs_of (determinant m))) (Some n) (rw determinant_one h); numbers = scaled_whole }
    where
      accepted : (u : Bool) (x : Option Mat4d) → T u → unless u None x ≡ x
      accepted true x t = refl
      accepted false x t = absurd t
