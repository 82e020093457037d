-- `plane_within` meets its contract: each number by its test. Assumes nothing.
use mathlib.Core.Path.{◌≡◌, ◌∙◌}
use mathlib.Core.Bool.{◌&&◌}
use Prim.Native.Nat.{◌+◌}
use native.Mathlib.Omega.{arith}
use borrow.Author.Rules.{rules}
use Rattle.number.specs.Limits.{normal_limit, distance_limit}
use Rattle.whole.specs.SegmentCall.{number_at, plane_start, within}
use Rattle.whole.proofs.Limits.{tested}
use Rattle.whole.proofs.view.WholeView.plane_within.Goals as goal

pub returns : goal.returns
returns c =
    let v = c.args.self.now.numbers.now in
    let from = c.view_length-from.result in
    let e = c.view_length-from.ensures in
    let e0 : from ≡ plane_start c.args.i + 0 = omega (arith, e) in
    let x = tested (number_at v from) _ _ (search rules) c.within.ensures in
    let y = tested (number_at v (from + 1)) _ _ (search rules) c.within-2.ensures in
    let z = tested (number_at v (from + 2)) _ _ (search rules) c.within-3.ensures in
    let d = tested (number_at v (from + 3)) _ _ (search rules) c.within-4.ensures in
    (λ t. x t && y t && z t && d t)
    ∙ (λ t. within normal_limit (number_at v (e0 t)) && within normal_limit (number_at v (e t + 1)) && within normal_limit (number_at v (e t + 2)) && within distance_limit (number_at v (e t + 3)))
