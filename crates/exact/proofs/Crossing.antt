-- Where a plane fails at a point U and holds at a point W, some exact point between them lies on it; and, of constraints that all hold at W, the last that fails on
-- the way from a point F. The idea: weights y and x + 1, where the plane's distances of W and U are y and -(x + 1), make the distance 0; every other plane's distance
-- is their weighted sum. Assumes nothing.
use mathlib.Core.Path.{◌≡◌, refl, sym, subst}
use mathlib.Core.Logic.{◌⊎◌, inl, inr}
use Prim.Native.Nat.{ℕ, zero, suc, ◌+◌, ◌*◌, ◌≤◌, ◌<◌}
use native.Mathlib.Nat.{mul-le-mul, eq-or-lt_of_le}
use native.Mathlib.Omega.{arith}
use lib.Dec.{le→leb}
use lib.IntN.{ℤ, pos, negsuc, ◌+ℤ◌, ◌-ℤ◌, ◌*ℤ◌}
use lib.Signed.{◌≤ℤ◌}
use Rattle.whole.specs.Plane.{WholePlane, dotℤ}
use Rattle.whole.proofs.Integer.{of_self as self, of_pos, of_eq, ◌⊞◌, ◌⊟◌, ◌⊠◌}
use Rattle.whole.proofs.Dot.{dot_sum, dot_times}
use Rattle.exact.specs.ExactPoint.{ExactPoint, Satisfies}

-- the plane's distance of an exact point, times k
abbrev pub gap_of : WholePlane → ExactPoint → ℤ
gap_of P X = dotℤ P.normal X.numbers -ℤ pos X.k *ℤ P.distance

-- the point lies on the plane
pub record On (P : WholePlane) (X : ExactPoint) : Type 0 where
  pub level : gap_of P X ≡ pos 0

pub on_side : {P : WholePlane} {X : ExactPoint} → On P X → Satisfies P X
on_side h = record { side = rw h.level (record { le = le→leb 0 0 (omega arith) }) }

-- ---- b times U plus a times W
abbrev combined : (b : ℕ) (U : ExactPoint) (a : ℕ) (W : ExactPoint) → 1 ≤ a → ExactPoint
combined b U a W h = record {
  numbers = λ i. pos b *ℤ U.numbers i +ℤ pos a *ℤ W.numbers i;
  k = b * U.k + a * W.k;
  some = omega (arith, mul-le-mul h W.some);
}

linear : (P : WholePlane) (b : ℕ) (U : ExactPoint) (a : ℕ) (W : ExactPoint) (h : 1 ≤ a)
    → gap_of P (combined b U a W h) ≡ pos b *ℤ gap_of P U +ℤ pos a *ℤ gap_of P W
linear P b U a W h =
    let n = P.normal in
    rw (dot_sum n (λ i. pos b *ℤ U.numbers i) (λ i. pos a *ℤ W.numbers i), dot_times n U.numbers (pos b), dot_times n W.numbers (pos a))
    (shared (dotℤ n U.numbers) (dotℤ n W.numbers) P.distance U.k W.k)
  where
    shared : (v w d : ℤ) (k l : ℕ)
        → pos b *ℤ v +ℤ pos a *ℤ w -ℤ pos (b * k + a * l) *ℤ d ≡ pos b *ℤ (v -ℤ pos k *ℤ d) +ℤ pos a *ℤ (w -ℤ pos l *ℤ d)
    shared v w d k l = of_eq
        (of_pos b ⊠ self v ⊞ of_pos a ⊠ self w ⊟ of_pos (b * k + a * l) ⊠ self d)
        (of_pos b ⊠ (self v ⊟ of_pos k ⊠ self d) ⊞ of_pos a ⊠ (self w ⊟ of_pos l ⊠ self d))
        (omega arith)

-- ---- what holds at two points holds between them
weighted : (b a : ℕ) (v w : ℤ) → pos 0 ≤ℤ v → pos 0 ≤ℤ w → pos 0 ≤ℤ (pos b *ℤ v +ℤ pos a *ℤ w)
weighted b a (pos v) (pos w) g h = record { le = le→leb 0 (b * v + a * w) (omega arith) }
weighted b a (pos v) (negsuc w) g h = absurd h.le
weighted b a (negsuc v) w g h = absurd g.le

balanced : (x y : ℕ) → pos y *ℤ negsuc x +ℤ pos (suc x) *ℤ pos y ≡ pos 0
balanced x y = of_eq (of_pos y ⊠ self (negsuc x) ⊞ of_pos (suc x) ⊠ of_pos y) (of_pos 0) (omega arith)

zeros : (a b : ℕ) → pos b *ℤ pos 0 +ℤ pos a *ℤ pos 0 ≡ pos 0
zeros a b = of_eq (of_pos b ⊠ of_pos 0 ⊞ of_pos a ⊠ of_pos 0) (of_pos 0) (omega arith)

-- X is between F and W: every plane that holds at both holds at X, and every one that goes through both goes through X
pub record Between (F W X : ExactPoint) : Type 0 where
  pub holds : (P : WholePlane) → Satisfies P F → Satisfies P W → Satisfies P X
  pub level : (P : WholePlane) → On P F → On P W → On P X

-- between F and W, if between W and a point that is
through : {F W U X : ExactPoint} → Between F W U → Between U W X → Between F W X
through b c = record {
  holds = λ P g h. c.holds P (b.holds P g h) h;
  level = λ P g h. c.level P (b.level P g h) h;
}

pub record Crossing (P : WholePlane) (U W : ExactPoint) : Type 0 where
  pub failed : ¬ Satisfies P U
  pub point : ExactPoint
  pub on : On P point
  pub between : Between U W point

pub crossing : (P : WholePlane) (U W : ExactPoint) → Satisfies P W → Satisfies P U ⊎ Crossing P U W
crossing P U W h = go (gap_of P U) (gap_of P W) refl refl h.side
  where
    go : (v w : ℤ) → gap_of P U ≡ v → gap_of P W ≡ w → pos 0 ≤ℤ w → Satisfies P U ⊎ Crossing P U W
    go (pos v) w e f l = inl (record { side = rw e (record { le = le→leb 0 v (omega arith) }) })
    go (negsuc x) (negsuc y) e f l = absurd l.le
    go (negsuc x) (pos y) e f l = inr (record {
      failed = λ t. (rw e at t.side).le;
      point = combined y U (suc x) W (omega arith);
      on = record { level = rw (linear P y U (suc x) W (omega arith), e, f) (balanced x y) };
      between = record {
        holds = λ Q g g'. record { side = rw (linear Q y U (suc x) W (omega arith)) (weighted y (suc x) (gap_of Q U) (gap_of Q W) g.side g'.side) };
        level = λ Q g g'. record { level = rw (linear Q y U (suc x) W (omega arith), g.level, g'.level) (zeros (suc x) y) };
      };
    })

-- ---- constraints, by their places
module _ (C : ℕ → WholePlane) where
  -- the first n hold at a point
  pub record Holds (n : ℕ) (X : ExactPoint) : Type 0 where
    pub each : (i : ℕ) → i < n → Satisfies (C i) X

  pub fewer : {n m : ℕ} {X : ExactPoint} → m ≤ n → Holds n X → Holds m X
  fewer l h = record { each = λ i k. h.each i (omega (arith, l, k)) }

  pub one_more : {n : ℕ} {X : ExactPoint} → Holds n X → Satisfies (C n) X → Holds (suc n) X
  one_more {n} {X} h t = record { each = λ i l. go i (eq-or-lt_of_le (omega arith)) }
    where
      go : (i : ℕ) → (i ≡ n) ⊎ (i < n) → Satisfies (C i) X
      go i (inl e) = subst (λ (j : ℕ). Satisfies (C j) X) (sym e) t
      go i (inr l) = h.each i l

  -- what holds at two points holds between them
  pub kept : {n : ℕ} {U W X : ExactPoint} → Between U W X → Holds n U → Holds n W → Holds n X
  kept b g h = record { each = λ i l. b.holds (C i) (g.each i l) (h.each i l) }

  -- a constraint that fails at F, and a point between F and W that lies on it and at which all hold
  pub record Stop (n : ℕ) (F W : ExactPoint) : Type 0 where
    pub at : ℕ
    pub below : at < n
    pub failed : ¬ Satisfies (C at) F
    pub point : ExactPoint
    pub on : On (C at) point
    pub between : Between F W point
    pub seen : Holds n point

  -- the last that fails on the way from F to W
  pub last_failing : (n : ℕ) (F W : ExactPoint) → Holds n W → Holds n F ⊎ Stop n F W
  last_failing zero F W h = inl (record { each = λ i l. absurd (omega arith) })
  last_failing (suc n) F W h =
      let rest = fewer {m = n} (omega arith) h in
      let last = h.each n (omega arith) in
      elim (last_failing n F W rest) [
        | inl g ↦ elim (crossing (C n) F W last) [
          | inl t ↦ inl (one_more g t)
          | inr c ↦ inr (record {
            at = n;
            below = omega arith;
            failed = c.failed;
            point = c.point;
            on = c.on;
            between = c.between;
            seen = one_more (kept c.between g rest) (on_side c.on);
          })
        ]
        | inr s ↦ elim (crossing (C n) s.point W last) [
          | inl t ↦ inr (record {
            at = s.at;
            below = omega (arith, s.below);
            failed = s.failed;
            point = s.point;
            on = s.on;
            between = s.between;
            seen = one_more s.seen t;
          })
          | inr c ↦ inr (record {
            at = n;
            below = omega arith;
            failed = λ t. c.failed (s.between.holds (C n) t last);
            point = c.point;
            on = c.on;
            between = through s.between c.between;
            seen = one_more (kept c.between s.seen rest) (on_side c.on);
          })
        ]
      ]
