-- `grid_along` meets its contract: its tests are those of the definition, of numbers that are read as they are. Assumes nothing.
use mathlib.Core.Path.{◌≡◌, ap, ◌∙◌}
use mathlib.Core.Bool.{◌&&◌}
use Prim.Native.Nat.{ℕ, ◌+◌, ◌*◌}
use native.Mathlib.Omega.{arith}
use borrow.Author.Rules.{rules}
use lib.Dec.{eqb}
use lib.IntN.{pos}
use lib.Signed.{le_z}
use mir.Syntax.{w32}
use mir.Val.{of_z}
use Rattle.number.specs.Limits.{grid_limit}
use Rattle.whole.specs.SegmentCall.{number_at, within}
use Rattle.exact.specs.Steps.{Vec3i, vec_of}
use Rattle.placed.specs.Placement.{sizes, same_number}
use Rattle.placed.proofs.Registers.{kept}
use Rattle.placed.proofs.Moved.{column_sizes, translation_is}
use Rattle.placed.proofs.placement.Placement.grid_along.Goals as goal

pub returns : goal.returns
returns c =
    let s = c.args.self.now.numbers in
    let i = c.args.i in
    let b = c.args.self.now.small in
    let low = kept (number_at s i) (b.small i (omega arith)) in
    let high = kept (number_at s (3 + i)) (b.small (3 + i) (omega arith)) in
    let moved = kept (number_at s (18 + i)) (b.small (18 + i) (omega arith)) ∙ translation_is s i in
    let place : 9 + i * 4 ≡ 6 + i * 4 + 3 = omega arith in
    let last : eqb (of_z w32 (number_at s (9 + i * 4))) 0 ≡ same_number (number_at s (9 + i * 4)) (pos 0) = search rules in
    let t1 = c.on_grid.ensures ∙ ap (within grid_limit) low in
    let t2 = c.on_grid-2.ensures ∙ ap (within grid_limit) high in
    let t4 = c.is_single.ensures ∙ ap (λ (v : Vec3i). eqb (sizes (vec_of v)) 1) c.vec_at-row.ensures in
    let t5 = c.is_single-2.ensures ∙ ap (λ (v : Vec3i). eqb (sizes (vec_of v)) 1) c.vec_at-column.ensures ∙ ap (λ (n : ℕ). eqb n 1) (column_sizes s i) in
    let t6 = c.on_grid-3.ensures ∙ ap (within grid_limit) moved in
    let t7 = last ∙ ap (λ (k : ℕ). same_number (number_at s k) (pos 0)) place in
    λ t. t1 t && t2 t && le_z (low t) (high t) && t4 t && t5 t && t6 t && t7 t
