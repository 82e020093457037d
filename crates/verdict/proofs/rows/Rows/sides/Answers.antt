-- `Rows::sides` meets its contract: the bits are those of the planes passed. Assumes nothing.
use Rattle.std.proofs.Common.{◌≡◌, ℕ, ◌+◌, ◌*◌, ◌<◌, false, ◌∷◌, drop, sym, ap, ◌∙◌, arith}
use Rattle.number.specs.Tabulate.{tabulate}
use Rattle.number.proofs.Tabulate.{next, left_count, none as no_plane}
use Rattle.verdict.specs.Rows.{plane_in_rows, planes_in_rows}
use Rattle.verdict.specs.Steps.Passes.{sides_of}
use Rattle.verdict.proofs.Sides.{room, sides_next, no_sides}
use Rattle.verdict.proofs.rows.Rows.sides.Goals as goal

-- the planes from place i on, told from behind
plane_before : {A : Type 0} (f : ℕ → A) (n i k : ℕ) (x : A) → i < n → k ≡ i + 1 → x ≡ f i → drop i (tabulate f n) ≡ x ∷ drop k (tabulate f n)
plane_before f n i k x h l e = next f n i x h e ∙ ap (λ (j : ℕ). x ∷ drop j (tabulate f n)) (sym l)

pub loop-i-init : goal.loop-i-init
loop-i-init c = let a = c.args in no_sides _ a.p (no_plane (plane_in_rows a.self.now.numbers) a.self.now.count a.self.now.count (omega arith))

pub overflow_mul-sides : goal.overflow_mul-sides
overflow_mul-sides c =
    let l = c.loop-i in
    let rows = c.args.self.now in
    let left = drop l.i (planes_in_rows rows.numbers rows.count) in
    omega (arith, room left c.args.p l.sides false (omega (arith, left_count (plane_in_rows rows.numbers) rows.count l.i, rows.room)) l.invariant)

pub overflow_add-sides : goal.overflow_add-sides
overflow_add-sides c =
    let l = c.loop-i in
    let rows = c.args.self.now in
    let left = drop l.i (planes_in_rows rows.numbers rows.count) in
    omega (arith, c.from.ensures, room left c.args.p l.sides c.on_positive_side.result (omega (arith, left_count (plane_in_rows rows.numbers) rows.count l.i, rows.room)) l.invariant)

pub loop-i-preserved : goal.loop-i-preserved
loop-i-preserved c =
    let l = c.loop-i in
    let rows = c.args.self.now in
    ap (λ (b : ℕ). l.sides * 2 + b) c.from.ensures
    ∙ sides_next _ _ _ _ _ _ (plane_before (plane_in_rows rows.numbers) rows.count _ l.i _ (omega arith) (omega arith) c.plane.ensures) c.on_positive_side.ensures l.invariant

pub returns : goal.returns
returns c =
    let l = c.loop-i in
    let rows = c.args.self.now in
    let e : l.i ≡ 0 = omega arith in
    l.invariant ∙ ap (λ (i : ℕ). sides_of (drop i (planes_in_rows rows.numbers rows.count)) c.args.p) e
