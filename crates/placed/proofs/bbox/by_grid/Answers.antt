-- `by_grid` meets its contract: what is off the grid by what refuses, and the others by the exact verdict on their whole numbers. Assumes nothing.
use mathlib.Core.Path.{refl, sym, ap, ◌∙◌}
use mathlib.Core.List.{[], ◌∷◌}
use Prim.Native.Nat.{ℕ}
use lib.ListN.{take}
use lib.IntN.{pos}
use Rattle.std.proofs.lemmas.Result.{err_from_is_err_and}
use Rattle.placed.specs.Numbers.{are_whole_numbers, whole_numbers}
use Rattle.placed.proofs.Calls.{view_not_whole, not_placed, decided_by}
use Rattle.placed.proofs.bbox.by_grid.Goals as goal

pub returns-in_err-load : goal.returns-in_err-load
returns-in_err-load c =
    let v = c.args.volume.now in
    let p = err_from_is_err_and c.from_residual.result c.from_residual.ensures.1 in
    let h = c.in_err-load.ensures in
    rw (p.1, p.2, h.1) (view_not_whole v c.args.bbox.now (ap (λ (n : ℕ). are_whole_numbers (take n v)) (sym c.requires.2) ∙ h.0))

pub returns-in_err-bounds : goal.returns-in_err-bounds
returns-in_err-bounds c =
    let p = err_from_is_err_and c.from_residual-in_err-bounds.result c.from_residual-in_err-bounds.ensures.1 in
    let h = c.in_err-bounds.ensures in
    rw (p.1, p.2, h.1) (not_placed c.args.volume.now c.args.bbox.now h.0)

pub returns : goal.returns
returns c =
    let v = c.args.volume.now in
    let l = c.in_ok-load.ensures in
    let p = c.in_ok-bounds.ensures in
    let w = ap (λ (n : ℕ). are_whole_numbers (take n v)) (sym c.requires.2) ∙ l.0 in
    let e = l.1 ∙ ap (λ (n : ℕ). whole_numbers (take n v)) c.requires.2 in
    decided_by v c.args.bbox.now c.requires.0 w p.0 (pos 0 ∷ pos 0 ∷ pos 0 ∷ pos 0 ∷ []) refl _ _ _ _ e p.1 c.intersects_bbox.ensures
