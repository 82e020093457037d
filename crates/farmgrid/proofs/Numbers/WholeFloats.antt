-- The test for a whole number of the grid means that a float is one: what it is cut to is the number that it is. The idea: a float that equals a whole number is it.
-- Assumes nothing.
use mathlib.Core.Path.{◌≡◌, refl, sym, subst, ◌∙◌}
use mathlib.Core.Bool.{Bool, true, false, cond, ◌&&◌}
use Prim.Native.Nat.{ℕ, ◌*◌, ◌≤◌}
use native.Mathlib.Nat.{le_trans}
use native.Mathlib.Omega.{arith}
use borrow.Author.Tests.{leb-true, le-leb}
use lib.Dec.{T, lit≤}
use lib.IntN.{ℤ, nat_abs}
use lib.Ieee.{Float, nan, inf, fin, binary64, up, down, eq, of_int}
use lib.Ieee.Bits.{is_true}
use lib.Ieee.Fits.{down_pos}
use Rattle.number.specs.Limits.{distance_limit}
use Rattle.number.proofs.Tests.{both_hold}
use Rattle.whole.specs.SegmentCall.{within}
use Rattle.whole.proofs.Integer.{hi, lo, of_self, of_pos, of_neg, of_times, of_eq}
use Rattle.placed.specs.Numbers.{truncated, is_whole_number}
use Rattle.placed.proofs.Truncation.{cut}
use Rattle.farmgrid.specs.Whole.{Whole}
use Rattle.farmgrid.proofs.Numbers.Value.{At, at_scale}
use Rattle.farmgrid.proofs.Numbers.Compare.{eq_at}
use Rattle.farmgrid.proofs.Numbers.Exact.{whole_at_lem, eq_whole, of_whole, to_value}

-- ---- what equals a whole number is it

own_value : (s : Bool) (m : ℕ) (e : ℤ) → At (fin s m e) (cond s 0 (m * up e)) (cond s (m * up e) 0) (down e)
own_value false m e = record { is = omega arith }
own_value true m e = record { is = omega arith }

pub equal_whole : (x y : Float) {z : ℤ} → T (eq x y) → Whole y z → Whole x z
unfolding eq
equal_whole nan y t h = absurd t
equal_whole (inf s) nan t h = absurd t
equal_whole (inf s) (inf u) t h = absurd h.is
equal_whole (inf s) (fin u n d) t h = absurd t
equal_whole (fin s m e) nan t h = absurd t
equal_whole (fin s m e) (inf u) t h = absurd t
equal_whole (fin false m e) (fin u n d) {z} t h =
    let g = at_scale (down e) ((whole_at_lem (of_self z)).0 h) in
    let k = (eq_at (down_pos e) (own_value false m e) (subst (λ (c : ℕ). At (fin u n d) (hi z * down e) (lo z * down e) c) (omega arith) g)).0 t in
    record { is = of_eq (of_pos (m * up e)) (of_times (of_self z) (of_pos (down e))) (omega (arith, k)) }
equal_whole (fin true m e) (fin u n d) {z} t h =
    let g = at_scale (down e) ((whole_at_lem (of_self z)).0 h) in
    let k = (eq_at (down_pos e) (own_value true m e) (subst (λ (c : ℕ). At (fin u n d) (hi z * down e) (lo z * down e) c) (omega arith) g)).0 t in
    record { is = of_eq (of_neg (of_pos (m * up e))) (of_times (of_self z) (of_pos (down e))) (omega (arith, k)) }

-- a float that passes the test is the number that it is cut to
pub number_whole : (x : Float) → is_whole_number x ≡ true → Whole x (truncated x)
number_whole x e =
    let h = both_hold (within distance_limit (truncated x)) (eq x (of_int binary64 (truncated x))) e in
    equal_whole x (of_int binary64 (truncated x)) (subst T (sym h.1) tt)
    (of_whole binary64 (truncated x) (le_trans (leb-true (nat_abs (truncated x)) distance_limit h.0) (lit≤ tt)))

-- ---- a whole number is cut to itself

module _ {x : Float} {z : ℤ} (w : Whole x z) (h : nat_abs z ≤ distance_limit) where
  pub cut_whole : truncated x ≡ z
  cut_whole = let p = to_value w in cut x p.sign (nat_abs z) h p.size ∙ p.both

  pub whole_number : is_whole_number x ≡ true
  whole_number =
      let e = cut_whole in
      let a = le-leb (nat_abs z) distance_limit h in
      let b = is_true (eq x (of_int binary64 z)) ((eq_whole w (of_whole binary64 z (le_trans h (lit≤ tt)))).1 refl) in
      (λ t. within distance_limit (e t) && eq x (of_int binary64 (e t))) ∙ (λ t. a t && b t)
