-- A number in front of a view's record is taken for a count exactly where it is a whole number from the fewest planes to the most, and then for that number.
-- The idea: between these a float equals the float of its whole part only where it is that whole number.
use mathlib.Core.Path.{◌≡◌, refl, sym, subst}
use mathlib.Core.Bool.{Bool, true, false, ◌&&◌, true≢false}
use Prim.Native.Nat.{ℕ, ◌^◌, ◌≤◌, ◌<◌}
use native.Mathlib.Nat.{mul-pos}
use native.Mathlib.Omega.{arith}
use lib.Dec.{T}
use lib.IntN.{pos}
use lib.Ieee.{Float, nan, inf, fin, binary64, le, eq, of_int}
use lib.Ieee.Bits.{is_true}
use lib.Ieee.Back.{round_whole}
use lib.Ieee.Fits.{down_pos, and_i, and_r}
use Rattle.number.specs.Limits.{fewest_planes, most_planes}
use Rattle.number.specs.Answer.{refused, outcome, unless}
use Rattle.matrix.specs.Constants.{rounded}
use Rattle.verdict.specs.View.{whole_part, is_count, plane_count_of}
use Rattle.verdict.proofs.Between.{Between, equal, whole_part_lem}
use Rattle.verdict.proofs.PlaneCount.{a_count, count_within}
use Rattle.farmgrid.specs.Whole.{Whole}
use Rattle.farmgrid.specs.Records.{PlaneCount, CountExact}
use Rattle.whole.proofs.Integer.{of_pos, of_le}
use Rattle.farmgrid.proofs.Numbers.Exact.{whole_at_lem, of_whole, le_whole, eq_whole}

-- ---- a whole number above 0 is what lies between it and itself

whole_between : (x : Float) (n : ℕ) → 0 < n → Whole x (pos n) → Between n n x
whole_between nan n h w = absurd w.is
whole_between (inf s) n h w = absurd w.is
whole_between (fin true m e) n h w = let v = ((whole_at_lem (of_pos n)).0 w).is in absurd (omega (arith, v, mul-pos h (down_pos e)))
whole_between (fin false m e) n h w = let v = ((whole_at_lem (of_pos n)).0 w).is in (refl, omega (arith, v), omega (arith, v))

between_whole : (x : Float) (n : ℕ) → Between n n x → Whole x (pos n)
between_whole nan n b = elim b [ ]
between_whole (inf s) n b = elim b [ ]
between_whole (fin true m e) n b = absurd (true≢false b.0)
between_whole (fin false m e) n b = (whole_at_lem (of_pos n)).1 (record { is = omega (arith, b.1, b.2) })

-- ---- the count

-- the float of a whole number is that number
whole_of : (n : ℕ) → n ≤ 2 ^ 53 → Whole (rounded n 1) (pos n)
unfolding of_int
whole_of n h = of_whole binary64 (pos n) h

module _ (x : Float) (n : ℕ) where
  abbrev low : Bool
  low = le (rounded fewest_planes 1) x

  abbrev high : Bool
  high = le x (rounded most_planes 1)

  abbrev whole : Bool
  whole = eq x (rounded (whole_part x) 1)

  is_count_lem : PlaneCount x n → plane_count_of x ≡ outcome n
  is_count_lem c =
      let l = c.fewest in
      let m = c.most in
      let k = whole_part_lem n n (omega arith) x (whole_between x n (omega arith) c.whole) in
      let e : whole_part x ≡ n = omega (arith, k) in
      let f = whole_of n (omega arith) in
      sym (a_count x n
      (is_true (low && high && whole)
      (and_i (low && high) whole
      (and_i low high
      ((le_whole (whole_of fewest_planes (omega arith)) c.whole).1 ((of_le (of_pos fewest_planes) (of_pos n)).1 (omega arith)))
      ((le_whole c.whole (whole_of most_planes (omega arith))).1 ((of_le (of_pos n) (of_pos most_planes)).1 (omega arith))))
      (subst (λ (k : ℕ). T (eq x (rounded k 1))) (sym e) ((eq_whole c.whole f).1 refl)))) (sym e))

  a_whole_count : plane_count_of x ≡ outcome n → PlaneCount x n
  unfolding plane_count_of
  a_whole_count e = go (is_count x) refl e
    where
      k : (fewest_planes ≤ n) × (n ≤ most_planes)
      k = count_within x n e

      go : (z : Bool) → is_count x ≡ z → unless z (refused 12) (outcome (whole_part x)) ≡ outcome n → PlaneCount x n
      go false f g = let z : ◌≡◌ {A = ℕ} 0 1 = cc in absurd (omega arith)
      go true f g =
          let i : whole_part x ≡ n = cc in
          let t = and_r (low && high) whole (subst T (sym f) tt) in record {
            whole = between_whole x n (equal n (rounded n 1) x (omega (arith, k.0)) (round_whole binary64 false n (omega (arith, k.1))) (subst (λ (j : ℕ). T (eq x (rounded j 1))) i t));
            fewest = k.0;
            most = k.1;
          }

pub count_exact : CountExact
count_exact x n = (a_whole_count x n, is_count_lem x n)
