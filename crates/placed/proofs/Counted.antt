-- The count in front of a volume that holds n planes is the whole number n. The idea: it lies between the fewest and the most planes, so that cutting it to 64 bits, with
-- or without a sign, leaves the same number. Assumes nothing.
use mathlib.Core.Path.{◌≡◌, refl, sym, ap, subst, ◌∙◌}
use mathlib.Core.Bool.{Bool, true, false, ◌&&◌, true≢false}
use mathlib.Core.List.{List}
use Prim.Native.Nat.{ℕ}
use native.Mathlib.Omega.{arith}
use lib.Dec.{leb}
use lib.ListN.{length}
use lib.IntN.{pos}
use lib.Ieee.{Float, nan, inf, fin, le, eq, to_unsigned, to_signed}
use Rattle.number.specs.Limits.{fewest_planes, most_planes}
use Rattle.number.specs.Answer.{Outcome, refused, outcome, and_then, unless, has}
use Rattle.number.specs.Slice.{at}
use Rattle.number.proofs.Tests.{both_hold}
use Rattle.matrix.specs.Constants.{rounded}
use Rattle.verdict.specs.View.{volume_length, whole_part, is_count, plane_count_of, planes_held}
use Rattle.verdict.proofs.Between.{Between, whole_part_lem}
use Rattle.verdict.proofs.PlaneCount.{bounded}
use Rattle.verdict.proofs.PlanesHeld.{held}
use Rattle.placed.specs.Numbers.{truncated}
use Rattle.placed.specs.BBoxCall.{count_in}
use Rattle.placed.specs.Steps.{HoldsPlanes}

-- the number that a volume holds planes by is its count
count_held : (s : List Float) (n : ℕ) → outcome n ≡ planes_held s → plane_count_of (at s 0) ≡ outcome n
unfolding planes_held
count_held s n e = go (leb (volume_length fewest_planes) (length s)) (plane_count_of (at s 0)) refl (sym e)
  where
    own : (k : ℕ) (z : Bool) → unless z (refused 1) (outcome k) ≡ outcome n → k ≡ n
    own k false g = let z : ◌≡◌ {A = ℕ} 0 1 = cc in absurd (omega arith)
    own k true g = cc

    go : (a : Bool) (c : Outcome ℕ) → plane_count_of (at s 0) ≡ c
        → unless a (refused 1) (and_then c (λ k. unless (has (volume_length k) s) (refused 1) (outcome k))) ≡ outcome n → plane_count_of (at s 0) ≡ outcome n
    go false c f g = let z : ◌≡◌ {A = ℕ} 0 1 = cc in absurd (omega arith)
    go true (refused k) f g = let z : ◌≡◌ {A = ℕ} 0 1 = cc in absurd (omega arith)
    go true (outcome k) f g = f ∙ ap outcome (own k (has (volume_length k) s) g)

-- cut with a sign or without
both_ways : (x : Float) → Between fewest_planes most_planes x → truncated x ≡ pos (whole_part x)
unfolding to_unsigned to_signed
both_ways nan b = absurd b
both_ways (inf s) b = absurd b
both_ways (fin true m e) b = absurd (true≢false b.0)
both_ways (fin false m e) b = let k = whole_part_lem fewest_planes most_planes (omega arith) (fin false m e) b in ap pos (omega (arith, k.1))

pub record IsCount (x : Float) (n : ℕ) : Type 0 where
  pub says : n ≡ whole_part x
  pub whole : truncated x ≡ pos n

is_count_lem : (x : Float) (n : ℕ) → plane_count_of x ≡ outcome n → IsCount x n
unfolding plane_count_of
is_count_lem x n e = go (is_count x) refl e
  where
    go : (z : Bool) → is_count x ≡ z → unless z (refused 12) (outcome (whole_part x)) ≡ outcome n → IsCount x n
    go false f g = let z : ◌≡◌ {A = ℕ} 0 1 = cc in absurd (omega arith)
    go true f g =
        let i : n ≡ whole_part x = cc in
        let low = le (rounded fewest_planes 1) x in
        let high = le x (rounded most_planes 1) in
        let h = both_hold (low && high) (eq x (rounded (whole_part x) 1)) f in
        let k = both_hold low high h.0 in
        record { says = i; whole = both_ways x (bounded x k.0 k.1) ∙ ap pos (sym i) }

pub counted : (v : List Float) (n : ℕ) → outcome n ≡ planes_held v → HoldsPlanes v n
counted v n e =
    let c = is_count_lem (at v 0) n (count_held v n e) in
    let h = held v n e in
    record { says = c.says; whole = c.whole; fewest = h.fewest; most = h.most; numbers = h.numbers }

pub counted_in : (v : List Float) (n : ℕ) → HoldsPlanes v n → HoldsPlanes v (count_in v)
counted_in v n c = subst (HoldsPlanes v) c.says c
