-- The float engine's comparisons of crossings are those of the fractions: a crossing is its fraction rounded, the smaller and the larger of two of them are the
-- earlier and the later fraction rounded, and one is below another just where its fraction is.
-- The idea: the denominators are at most 3 * 2 ^ 24, so that rounding keeps the strict order of such fractions. Assumes nothing.
use mathlib.Core.Path.{◌≡◌}
use mathlib.Core.Bool.{Bool, true, false, cond}
use Prim.Native.Nat.{ℕ, suc, ◌+◌, ◌*◌, ◌^◌, ◌≤◌, ◌<◌}
use native.Mathlib.Nat.{lt_of_le_of_lt, le_antisymm, mul-le-mul}
use native.Mathlib.Omega.{arith}
use lib.Dec.{ltb→lt, lt→ltb, lit<, lit≤}
use lib.IntN.{ℤ, pos, negsuc, neg_ℤ, nat_abs, ◌-ℤ◌}
use lib.Signed.{non_neg}
use lib.Ieee.{Float, lt}
use Rattle.number.specs.Arithmetic.{◌⊘◌, min_of, max_of}
use Rattle.number.specs.Grid.{signed}
use Rattle.farmgrid.specs.Whole.{Whole}
use Rattle.whole.proofs.Integer.{by_test, of_self, of_pos, of_neg, of_minus, of_eq}
use Rattle.farmgrid.proofs.Numbers.Exact.{abs_signed}
use Rattle.farmgrid.proofs.Numbers.Quotient.{Frac, frac_same, lt_frac, min_frac, max_frac, zero_frac, one_frac, div_frac}
use Rattle.farmgrid.proofs.Segments.Distance.{same_test}
use Rattle.whole.specs.declared.fraction.Fraction.{Fraction}
use Rattle.whole.specs.Segment.{less, later, earlier, first_end, second_end, start_by, end_by}
use Rattle.farmgrid.proofs.Segments.Fractions.{at_most_other, not_at_most}
use Rattle.verdict.specs.Frustum.{start_cut, end_cut}

-- the largest denominator of a crossing: 3 * 2 ^ 24
abbrev pub largest : ℕ
largest = 50_331_648

room : {b d : ℕ} → b ≤ largest → d ≤ largest → b * d < 2 ^ 52
room g h = lt_of_le_of_lt (mul-le-mul g h) (lit< tt)

-- x is the fraction f, rounded
pub record Rounded (x : Float) (f : Fraction) : Type 0 where
  pub frac : Frac x f.top f.bottom
  pub fits : f.bottom ≤ largest

-- the segment's ends
pub first_rounded : {x : Float} → Whole x (pos 0) → Rounded x first_end
first_rounded g = record { frac = zero_frac (lit< tt) g; fits = lit≤ tt }

pub second_rounded : {x : Float} → Whole x (pos 1) → Rounded x second_end
second_rounded g = record { frac = one_frac (lit< tt) g; fits = lit≤ tt }

-- ---- two of them
module _ {x y : Float} {f g : Fraction} (F : Rounded x f) (G : Rounded y g) where
  pub less_rounded : lt x y ≡ less f g
  less_rounded =
      let l = lt_frac F.frac G.frac (room F.fits G.fits) in
      let a = f.top * g.bottom in
      let b = g.top * f.bottom in
      same_test (lt x y) (less f g) (λ t. lt→ltb a b (l.0 t), λ t. l.1 (ltb→lt a b t))

  -- y too is f rounded where the fractions are equal
  other : f.top * g.bottom ≡ g.top * f.bottom → Rounded y f
  other e = record { frac = frac_same G.frac F.frac.bottom F.frac.proper e; fits = F.fits }

  min_rounded : Rounded (min_of x y) (earlier f g)
  min_rounded = by_test (λ z. Rounded (min_of x y) (cond z g f)) (less g f)
      (λ t. min_frac (λ z. Rounded z g) F.frac G.frac (room F.fits G.fits) (λ l. G) (λ l. absurd (not_at_most g f t l)))
      (λ t. min_frac (λ z. Rounded z f) F.frac G.frac (room F.fits G.fits) (λ l. other (le_antisymm (at_most_other g f t) l)) (λ l. F))

  max_rounded : Rounded (max_of x y) (later f g)
  max_rounded = by_test (λ z. Rounded (max_of x y) (cond z g f)) (less f g)
      (λ t. max_frac (λ z. Rounded z g) F.frac G.frac (room F.fits G.fits) (λ l. G) (λ l. absurd (not_at_most f g t l)))
      (λ t. max_frac (λ z. Rounded z f) F.frac G.frac (room F.fits G.fits) (λ l. other (le_antisymm l (at_most_other f g t))) (λ l. F))

-- ---- the cut by a plane: the crossing is the quotient of -D by D' - D
abbrev crossed : {n r : Float} (s : Bool) (x y : ℕ) {D : ℤ} → 0 < y → x ≤ y → Whole n (signed s x) → D ≡ signed s y
    → Whole r D → nat_abs D ≤ largest → Rounded (n ⊘ r) (record { top = x; bottom = y })
crossed s x y Y h g e w l = record { frac = div_frac s x y Y h g (rw (← e) w); fits = rw (← (abs_signed s y), ← e) l }

pub start_rounded : {start n r : Float} {f : Fraction} (D D' : ℤ) → Whole n (neg_ℤ D) → Whole r (D' -ℤ D) → nat_abs (D' -ℤ D) ≤ largest
    → Rounded start f → Rounded (start_cut (non_neg D) (non_neg D') start (n ⊘ r)) (start_by D D' f)
start_rounded (pos x) (pos y) g h l s = s
start_rounded (pos x) (negsuc y) g h l s = s
start_rounded (negsuc x) (pos y) g h l s =
    let e = of_eq (of_minus (of_pos y) (of_self (negsuc x))) (of_pos (suc x + y)) (omega arith) in
    max_rounded s (crossed false (suc x) (suc x + y) (omega arith) (omega arith) g e h l)
start_rounded (negsuc x) (negsuc y) g h l s = s

pub end_rounded : {end n r : Float} {f : Fraction} (D D' : ℤ) → Whole n (neg_ℤ D) → Whole r (D' -ℤ D) → nat_abs (D' -ℤ D) ≤ largest
    → Rounded end f → Rounded (end_cut (non_neg D) (non_neg D') end (n ⊘ r)) (end_by D D' f)
end_rounded (pos x) (pos y) g h l s = s
end_rounded (pos x) (negsuc y) g h l s =
    let e = of_eq (of_minus (of_self (negsuc y)) (of_pos x)) (of_neg (of_pos (x + suc y))) (omega arith) in
    min_rounded s (crossed true x (x + suc y) (omega arith) (omega arith) g e h l)
end_rounded (negsuc x) (pos y) g h l s = s
end_rounded (negsuc x) (negsuc y) g h l s = s
