-- `extent` meets its contract: the two opposite corners, moved. Assumes nothing.
use mathlib.Core.Path.{refl, sym, subst, ◌∙◌}
use Prim.Native.Nat.{◌+◌, ◌≤◌}
use native.Mathlib.Omega.{arith}
use lib.IntN.{ℤ, nat_abs}
use Rattle.number.specs.Limits.{grid_limit}
use Rattle.whole.specs.SegmentCall.{number_at}
use Rattle.placed.specs.Placement.{smaller, larger, box_of, placed_least, placed_greatest}
use Rattle.placed.proofs.Registers.{kept, kept_as}
use Rattle.placed.proofs.Moved.{sized_read, moved_read, low_small, high_small, least_small, greatest_small}
use Rattle.placed.proofs.placement.Placement.extent.Goals as goal

pub moved-to-requires : goal.moved-to-requires
moved-to-requires c =
    let s = c.args.self.now.numbers in
    let j = c.args.j in
    let P = c.requires.0 in
    let h = c.requires.1 in (
      sized_read c.vec_at-2.ensures P.high,
      sized_read c.vec_at-column.ensures (P.turn j h),
      subst (λ (z : ℤ). nat_abs z ≤ grid_limit) (sym (kept (number_at s (18 + j)) (P.numbers.small (18 + j) (omega arith)))) (P.translation j h),
    )

pub returns : goal.returns
returns c =
    let s = c.args.self.now.numbers in
    let j = c.args.j in
    let P = c.requires.0 in
    let h = c.requires.1 in
    let t = P.numbers.small (18 + j) (omega arith) in
    let low = moved_read s 0 j _ _ (number_at s (18 + j)) _ c.vec_at.ensures c.vec_at-column.ensures refl t c.moved-from.ensures in
    let high = moved_read s 3 j _ _ (number_at s (18 + j)) _ c.vec_at-2.ensures c.vec_at-column.ensures refl t c.moved-to.ensures in
    let both_low = c.min.ensures.value ∙ (λ i. smaller (kept_as _ _ low (low_small P j h) i) (kept_as _ _ high (high_small P j h) i)) in
    let both_high = c.max.ensures.value ∙ (λ i. larger (kept_as _ _ low (low_small P j h) i) (kept_as _ _ high (high_small P j h) i)) in
    (kept_as _ (placed_least (box_of s) j) both_low (least_small P j h), kept_as _ (placed_greatest (box_of s) j) both_high (greatest_small P j h))
