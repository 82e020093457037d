-- The count in front of a view's record: a number that is one has a whole part, from the fewest to the most planes. Assumes nothing.
use Rattle.std.proofs.Common.{◌≡◌, ℕ, ◌≤◌, Bool, true, false, not, ◌&&◌, T, pos, sym, refl, ap, ◌∙◌, subst, arith}
use borrow.Author.Tests.{not-true, not-false}
use lib.Ieee.{Float, binary64, le, eq, ne, of_int}
use lib.Ieee.Back.{round_whole}
use lib.Ieee.Bits.{is_true}
use Rattle.number.specs.Limits.{fewest_planes, most_planes}
use lib.Ieee.Fits.{and_l, and_r}
use Rattle.number.specs.Answer.{refused, outcome, unless}
use Rattle.matrix.specs.Constants.{rounded}
use Rattle.verdict.specs.View.{whole_part, is_count, plane_count_of}
use Rattle.verdict.proofs.Between.{Between, between, equal, above, under, whole_part_lem}

module _ (x : Float) where
  pub no_count : is_count x ≡ false → refused 12 ≡ plane_count_of x
  unfolding plane_count_of
  no_count e = sym (ap (λ (z : Bool). unless z (refused 12) (outcome (whole_part x))) e)

  pub a_count : (n : ℕ) → is_count x ≡ true → n ≡ whole_part x → outcome n ≡ plane_count_of x
  unfolding plane_count_of
  a_count n e f = ap outcome f ∙ sym (ap (λ (z : Bool). unless z (refused 12) (outcome (whole_part x))) e)

  -- within both bounds
  pub bounded : le (rounded fewest_planes 1) x ≡ true → le x (rounded most_planes 1) ≡ true → Between fewest_planes most_planes x
  bounded e f =
      between fewest_planes most_planes (rounded fewest_planes 1) (rounded most_planes 1) x (omega arith)
      (round_whole binary64 false fewest_planes (omega arith)) (round_whole binary64 false most_planes (omega arith)) (subst T (sym e) tt) (subst T (sym f) tt)

  abbrev low : Bool
  low = le (rounded fewest_planes 1) x

  abbrev high : Bool
  high = le x (rounded most_planes 1)

  abbrev whole : ℕ → Bool
  whole n = eq x (rounded n 1)

  -- the tests of the code, in which a whole number is made a float
  pub fewest : eq x (of_int binary64 (pos fewest_planes)) ≡ true → outcome fewest_planes ≡ plane_count_of x
  unfolding of_int
  fewest e =
      let v = round_whole binary64 false fewest_planes (omega arith) in
      let w = round_whole binary64 false most_planes (omega arith) in
      let b = equal fewest_planes (rounded fewest_planes 1) x (omega arith) v (subst T (sym e) tt) in
      let k = whole_part_lem fewest_planes fewest_planes (omega arith) x b in
      let i : fewest_planes ≡ whole_part x = omega (arith, k) in
      let l = is_true low (above fewest_planes fewest_planes fewest_planes (rounded fewest_planes 1) x (omega arith) v b) in
      let h = is_true high (under fewest_planes fewest_planes most_planes (rounded most_planes 1) x (omega arith) w b) in
      a_count fewest_planes ((λ t. l t && h t && whole (sym i t)) ∙ e) i

  pub too_few : not (le (of_int binary64 (pos fewest_planes)) x) ≡ true → refused 12 ≡ plane_count_of x
  unfolding of_int
  too_few e = no_count (λ t. not-true low e t && high && whole (whole_part x))

  module _ (e : not (le (of_int binary64 (pos fewest_planes)) x) ≡ false) where
    pub too_many : not (le x (of_int binary64 (pos most_planes))) ≡ true → refused 12 ≡ plane_count_of x
    unfolding of_int
    too_many f = no_count (λ t. not-false low e t && not-true high f t && whole (whole_part x))

    module _ (f : not (le x (of_int binary64 (pos most_planes))) ≡ false) where
      pub within : Between fewest_planes most_planes x
      unfolding of_int
      within = bounded (not-false low e) (not-false high f)

      module _ (n : ℕ) (g : n ≡ whole_part x) where
        test : is_count x ≡ eq x (of_int binary64 (pos n))
        unfolding of_int
        test = λ t. not-false low e t && not-false high f t && whole (sym g t)

        pub not_whole : ne x (of_int binary64 (pos n)) ≡ true → refused 12 ≡ plane_count_of x
        unfolding ne
        not_whole h = no_count (test ∙ not-true (eq x (of_int binary64 (pos n))) h)

        pub is_whole : ne x (of_int binary64 (pos n)) ≡ false → outcome n ≡ plane_count_of x
        unfolding ne
        is_whole h = a_count n (test ∙ not-false (eq x (of_int binary64 (pos n))) h) g

  pub count_within : (n : ℕ) → plane_count_of x ≡ outcome n → (fewest_planes ≤ n) × (n ≤ most_planes)
  unfolding plane_count_of
  count_within n = go (is_count x) refl
    where
      go : (z : Bool) → is_count x ≡ z → unless z (refused 12) (outcome (whole_part x)) ≡ outcome n → (fewest_planes ≤ n) × (n ≤ most_planes)
      go false e f = let z : ◌≡◌ {A = ℕ} 0 1 = cc in absurd (omega arith)
      go true e f =
          let t = subst T (sym e) tt in
          let both = and_l (low && high) (whole (whole_part x)) t in
          let k = whole_part_lem fewest_planes most_planes (omega arith) x (bounded (is_true low (and_l low high both)) (is_true high (and_r low high both))) in
          let i : whole_part x ≡ n = cc in
          (omega arith, omega arith)
