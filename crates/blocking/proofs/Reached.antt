-- A number reaches another that it is not less than. It reaches the larger of two just where it reaches both, and the smaller of two reaches it just where both do,
-- NaN passed over. The idea: of the two the one that is not chosen does not matter to the test, since what is not past the chosen one is not past it either.
-- Assumes nothing.
use mathlib.Core.Path.{◌≡◌, refl, sym, ap, ◌∙◌, subst}
use mathlib.Core.Bool.{Bool, true, false, not, cond, ◌&&◌, and_comm}
use lib.Dec.{T}
use lib.Ieee.{Float, nan, inf, fin, lt, le, eq, is_nan}
use Rattle.number.specs.Arithmetic.{upper_of, precedes, min_of, max_of}
use Rattle.number.proofs.Comparisons.{lt_not_le, refuted, less_is_number, less_one_way, not_less_through}
use Rattle.number.proofs.Extremes.{precedes_le, not_precedes}

abbrev pub reaches : Float → Float → Bool
reaches y x = not (lt y x)

-- ---- infinities

pub nothing_before : (y : Float) → lt y (inf true) ≡ false
unfolding lt
nothing_before nan = refl
nothing_before (inf true) = refl
nothing_before (inf false) = refl
nothing_before (fin s m e) = refl

pub nothing_behind : (x : Float) → lt (inf false) x ≡ false
unfolding lt
nothing_behind nan = refl
nothing_behind (inf t) = refl
nothing_behind (fin t n d) = refl

-- ---- what is chosen of two, by an order in which `past` tells the one behind

module _ (past : Float → Float → Bool)
    (through : (y u v : Float) → is_nan u ≡ false → past y u ≡ false → past u v ≡ false → past y v ≡ false) where
  absorbs : (y u v : Float) → is_nan u ≡ false → past u v ≡ false → not (past y u) ≡ (not (past y u) && not (past y v))
  absorbs y u v n h = go (past y u) refl
    where
      go : (b : Bool) → past y u ≡ b → not b ≡ (not b && not (past y v))
      go true e = refl
      go false e = sym (ap not (through y u v n e h))

  chosen : (y u v : Float) (b : Bool) → is_nan u ≡ false → (b ≡ true → (is_nan v ≡ false) × (past v u ≡ false)) → (b ≡ false → past u v ≡ false)
      → not (past y (cond b v u)) ≡ (not (past y u) && not (past y v))
  chosen y u v true n p q = let h = p refl in absorbs y v u h.0 h.1 ∙ and_comm (not (past y v)) (not (past y u))
  chosen y u v false n p q = absorbs y u v n (q refl)

-- ---- the larger of two

pub not_past : (y u v : Float) → is_nan u ≡ false → lt u v ≡ false → reaches y u ≡ (reaches y u && reaches y v)
not_past = absorbs lt not_less_through

pub a_number : (u v : Float) → lt u v ≡ true → is_nan v ≡ false
a_number u v e = (less_is_number u v (subst T (sym e) tt)).1

pub upper_reached : (y u v : Float) → is_nan u ≡ false → reaches y (upper_of u v) ≡ (reaches y u && reaches y v)
upper_reached y u v n = chosen lt not_less_through y u v (lt u v) n (λ e. (a_number u v e, less_one_way u v e)) (λ e. e)

le_number : (u v : Float) → T (le u v) → (is_nan u ≡ false) × (is_nan v ≡ false)
unfolding le lt eq is_nan
le_number nan v t = absurd t
le_number (inf s) nan t = absurd t
le_number (inf s) (inf u) t = (refl, refl)
le_number (inf s) (fin u n d) t = (refl, refl)
le_number (fin s m e) nan t = absurd t
le_number (fin s m e) (inf u) t = (refl, refl)
le_number (fin s m e) (fin u n d) t = (refl, refl)

-- what comes before another is a number, as the other is, and the other is not less
before_is : (u v : Float) → precedes u v ≡ true → (is_nan u ≡ false) × (is_nan v ≡ false) × (lt v u ≡ false)
before_is u v e =
    let h = precedes_le u v (subst T (sym e) tt) in
    let k = le_number u v h in
    (k.0, k.1, refuted (lt v u) (λ t. lt_not_le v u t h))

not_before : (u v : Float) → precedes u v ≡ false → lt u v ≡ false
not_before u v e = go (lt u v) (not_precedes u v (subst (λ (b : Bool). T (not b)) (sym e) tt))
  where
    go : (b : Bool) → T (not b) → b ≡ false
    go true t = absurd t
    go false t = refl

pub max_reached : (y u v : Float) → is_nan u ≡ false → reaches y (max_of u v) ≡ (reaches y u && reaches y v)
unfolding max_of
max_reached y u v n =
    ap (λ (b : Bool). reaches y (cond b v (cond (precedes u v) v u))) n
    ∙ chosen lt not_less_through y u v (precedes u v) n (λ e. let h = before_is u v e in (h.1, h.2)) (not_before u v)

-- ---- the smaller of two

pub min_reaches : (u v y : Float) → is_nan u ≡ false → reaches (min_of u v) y ≡ (reaches u y && reaches v y)
unfolding min_of
min_reaches u v y n =
    ap (λ (b : Bool). reaches (cond b v (cond (precedes v u) v u)) y) n
    ∙ chosen (λ x z. lt z x) (λ x w z k p q. not_less_through z w x k q p) y u v (precedes v u) n (λ e. let h = before_is v u e in (h.0, h.2)) (not_before v u)
