-- From a point on a plane that constraints bounding a box have in view to a vertex of that plane and two of them which they have in view. The idea: straight on in the
-- plane the box ends, so that a constraint is met; then along the line where the two meet, and a third is met. Assumes nothing.
use mathlib.Core.Path.{◌≡◌, refl, ◌∙◌}
use mathlib.Core.Logic.{inl, inr}
use Prim.Native.Nat.{ℕ, zero, suc, ◌+◌, ◌*◌, ◌≤◌, ◌<◌}
use native.Mathlib.Nat.{mul-le-mul, le_refl}
use native.Mathlib.Omega.{arith}
use lib.Dec.{lit<}
use lib.IntN.{ℤ, pos, negsuc, neg_ℤ, nat_abs, ◌+ℤ◌, ◌-ℤ◌, ◌*ℤ◌}
use lib.Signed.{◌≤ℤ◌}
use Rattle.whole.specs.Plane.{WholePlane, dotℤ}
use Rattle.whole.proofs.Integer.{hi, lo, of_self as self, of_pos, of_eq, of_le, abs_is, ◌⊞◌, ◌⊟◌, ◌⊠◌}
use Rattle.whole.proofs.Dot.{dot_sum, dot_times}
use Rattle.exact.specs.ExactPoint.{ExactPoint, InBox}
use Rattle.exact.specs.Vertex.{cross, determinant}
use Rattle.exact.proofs.Crossing.{gap_of, On, Holds, last_failing}
use Rattle.exact.proofs.Cramer.{cross_first, cross_second}
use Rattle.exact.proofs.Directions.{three, flat0, flat1, flat2, like0, like1, like2}

-- ---- straight on: W and T times k times u
abbrev away : ExactPoint → (ℕ → ℤ) → ℕ → ExactPoint
away W u T = record { numbers = λ j. W.numbers j +ℤ pos (T * W.k) *ℤ u j; k = W.k; some = W.some }

away_gap : (Q : WholePlane) (W : ExactPoint) (u : ℕ → ℤ) (T : ℕ) → gap_of Q (away W u T) ≡ gap_of Q W +ℤ pos (T * W.k) *ℤ dotℤ Q.normal u
away_gap Q W u T =
    rw (dot_sum Q.normal W.numbers (λ j. pos (T * W.k) *ℤ u j), dot_times Q.normal u (pos (T * W.k)))
    (regroup (dotℤ Q.normal W.numbers) (pos (T * W.k) *ℤ dotℤ Q.normal u) (pos W.k *ℤ Q.distance))
  where
    regroup : (y z d : ℤ) → y +ℤ z -ℤ d ≡ y -ℤ d +ℤ z
    regroup y z d = of_eq (self y ⊞ self z ⊟ self d) (self y ⊟ self d ⊞ self z) (omega arith)

-- a plane along which u goes does not see the move
level_gap : (Q : WholePlane) (W : ExactPoint) (u : ℕ → ℤ) (T : ℕ) → dotℤ Q.normal u ≡ pos 0 → gap_of Q (away W u T) ≡ gap_of Q W
level_gap Q W u T e = away_gap Q W u T ∙ rw e (unmoved (gap_of Q W) (T * W.k))
  where
    unmoved : (y : ℤ) (m : ℕ) → y +ℤ pos m *ℤ pos 0 ≡ y
    unmoved y m = of_eq (self y ⊞ of_pos m ⊠ of_pos 0) (self y) (omega arith)

-- ---- far enough, the box ends: along an axis from l to h, with k times the coordinate from x
within : (k : ℕ) (z : ℤ) → (k * hi z ≤ k * nat_abs z) × (k * lo z ≤ k * nat_abs z)
within k z = (mul-le-mul (le_refl k) (omega (arith, abs_is z)), mul-le-mul (le_refl k) (omega (arith, abs_is z)))

past : (k : ℕ) (l h x u : ℤ) → 1 ≤ k → ¬ (u ≡ pos 0) → (pos k *ℤ l) ≤ℤ x → x ≤ℤ (pos k *ℤ h)
    → (pos k *ℤ l) ≤ℤ (x +ℤ pos ((nat_abs l + nat_abs h + 1) * k) *ℤ u) → (x +ℤ pos ((nat_abs l + nat_abs h + 1) * k) *ℤ u) ≤ℤ (pos k *ℤ h) → ⊥
past k l h x (pos zero) K n lx xh lf fh = n refl
past k l h x (pos (suc y)) K n lx xh lf fh =
    let M : ℕ = (nat_abs l + nat_abs h + 1) * k in
    let e = (of_le (of_pos k ⊠ self l) (self x)).0 lx in
    let f = (of_le (self x ⊞ of_pos M ⊠ of_pos (suc y)) (of_pos k ⊠ self h)).0 fh in
    omega (arith, e, f, within k l, within k h)
past k l h x (negsuc y) K n lx xh lf fh =
    let M : ℕ = (nat_abs l + nat_abs h + 1) * k in
    let e = (of_le (self x) (of_pos k ⊠ self h)).0 xh in
    let f = (of_le (of_pos k ⊠ self l) (self x ⊞ of_pos M ⊠ self (negsuc y))).0 lf in
    omega (arith, e, f, within k l, within k h)

-- ---- one more constraint
module _ (C : ℕ → WholePlane) (m : ℕ) (low high : ℕ → ℤ) (bounded : (X : ExactPoint) → Holds C m X → InBox low high X) where
  record Step (W : ExactPoint) (u : ℕ → ℤ) : Type 0 where
    pub at : ℕ
    pub below : at < m
    pub along : ¬ (dotℤ (C at).normal u ≡ pos 0)
    pub point : ExactPoint
    pub on : On (C at) point
    pub seen : Holds C m point
    pub keeps : (Q : WholePlane) → dotℤ Q.normal u ≡ pos 0 → On Q W → On Q point

  step : (W : ExactPoint) → Holds C m W → (u : ℕ → ℤ) (j : ℕ) → j < 3 → ¬ (u j ≡ pos 0) → Step W u
  step W w u j l n = elim (last_failing C m F W w) [
    | inl f ↦ absurd (past W.k (low j) (high j) (W.numbers j) (u j) W.some n
        ((bounded W w).least j l) ((bounded W w).greatest j l) ((bounded F f).least j l) ((bounded F f).greatest j l))
    | inr s ↦ record {
      at = s.at;
      below = s.below;
      along = λ e. s.failed (record { side = rw (level_gap (C s.at) W u T e) (w.each s.at s.below).side });
      point = s.point;
      on = s.on;
      seen = s.seen;
      keeps = λ Q e h. s.between.level Q (record { level = level_gap Q W u T e ∙ h.level }) h;
    }
  ]
    where
      T : ℕ
      T = nat_abs (low j) + nat_abs (high j) + 1

      F : ExactPoint
      F = away W u T

  -- ---- on the plane A, where its normal is not 0: two constraints more, and the vertex
  pub record Met (A : WholePlane) : Type 0 where
    pub second : ℕ
    pub third : ℕ
    pub below : (second < m) × (third < m)
    pub single : ¬ (determinant A (C second) (C third) ≡ pos 0)
    pub point : ExactPoint
    pub on : On A point × On (C second) point × On (C third) point
    pub seen : Holds C m point

  -- along u, which lies in A, and then where A meets the plane found, if that is a line
  met : (A : WholePlane) (W : ExactPoint) → On A W → Holds C m W → (u : ℕ → ℤ) (j : ℕ) → j < 3 → ¬ (u j ≡ pos 0) → dotℤ A.normal u ≡ pos 0
      → (i : ℕ) → i < 3 → ((n : ℕ → ℤ) → cross A.normal n i ≡ pos 0 → dotℤ n u ≡ pos 0) → Met A
  met A W a w u j l n e i b r =
      let s = step W w u j l n in
      let B = C s.at in
      let v : ℕ → ℤ = cross A.normal B.normal in
      let t = step s.point s.seen v i b (λ z. s.along (r B.normal z)) in
      record {
        second = s.at;
        third = t.at;
        below = (s.below, t.below);
        single = t.along;
        point = t.point;
        on = (t.keeps A (cross_first A.normal B.normal) (s.keeps A e a), t.keeps B (cross_second A.normal B.normal) s.on, t.on);
        seen = t.seen;
      }

  -- A's normal is not 0 along some axis p; u lies in A and across another axis
  pub on_plane : (A : WholePlane) (W : ExactPoint) → On A W → Holds C m W → (p : ℕ) → p < 3 → ¬ (A.normal p ≡ pos 0) → Met A
  on_plane A W a w zero l n =
      let f : ℕ → ℤ = A.normal in
      met A W a w (three (neg_ℤ (f 2)) (pos 0) (f 0)) 2 (lit< tt) n (flat0 (f 0) (f 1) (f 2)) 1 (lit< tt) (λ g z. like0 (f 0) (f 2) (g 0) (g 1) (g 2) z)
  on_plane A W a w (suc zero) l n =
      let f : ℕ → ℤ = A.normal in
      met A W a w (three (f 1) (neg_ℤ (f 0)) (pos 0)) 0 (lit< tt) n (flat1 (f 0) (f 1) (f 2)) 2 (lit< tt) (λ g z. like1 (f 0) (f 1) (g 0) (g 1) (g 2) z)
  on_plane A W a w (suc (suc zero)) l n =
      let f : ℕ → ℤ = A.normal in
      met A W a w (three (pos 0) (f 2) (neg_ℤ (f 1))) 1 (lit< tt) n (flat2 (f 0) (f 1) (f 2)) 0 (lit< tt) (λ g z. like2 (f 1) (f 2) (g 0) (g 1) (g 2) z)
  on_plane A W a w (suc (suc (suc p))) l n = absurd (omega arith)
