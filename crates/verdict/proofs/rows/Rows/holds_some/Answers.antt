-- `Rows::holds_some` meets its contract: a box that is not empty is asked of every plane. Assumes nothing.
use Rattle.std.proofs.Common.{◌≡◌, ℕ, Bool, true, false, List, sym, refl, ap, ◌∙◌, rules, arith}
use borrow.Author.Tests.{tests}
use Rattle.std.proofs.lemmas.Iterator.{cases_from_all, YieldsList-from_range}
use Rattle.number.specs.Every.{every}
use Rattle.matrix.specs.Range.{is_empty}
use Rattle.matrix.specs.declared.matrix.Mat4d.{Mat4d}
use Rattle.matrix.specs.declared.range.Range3d.{Range3d}
use Rattle.verdict.specs.declared.plane.Plane.{Plane}
use Rattle.verdict.specs.declared.bbox.BBox3d.{BBox3d}
use Rattle.verdict.specs.Plane.{reaches_positive_side, under_inverse_transpose}
use Rattle.verdict.specs.Rows.{plane_in_rows, planes_in_rows}
use Rattle.verdict.specs.Frustum.{into_space_of, box_in_view}
use Rattle.verdict.proofs.Over.{all_over}
use Rattle.verdict.proofs.PlanesBehind.{empty_unseen, some_seen}
use Rattle.verdict.proofs.rows.Rows.holds_some.Goals as goal

abbrev test : Mat4d → Range3d → Plane → Bool
test m r p = reaches_positive_side (under_inverse_transpose m p) r

-- the space is that of the box
in_space : (ps : List Plane) (b : BBox3d) (m : Mat4d) (r : Range3d) (z : Bool) → (m ≡ into_space_of b) × (r ≡ b.range) → is_empty b.range ≡ false → z ≡ every (test m r) ps → z ≡ box_in_view ps b
in_space ps b m r z s e h = h ∙ (λ t. every (test (s.0 t) (s.1 t)) ps) ∙ sym (some_seen b ps e)

pub returns-then-is_empty : goal.returns-then-is_empty
returns-then-is_empty c =
    let rows = c.args.self.now in
    sym (empty_unseen c.load-b.result (planes_in_rows rows.numbers rows.count) (sym c.is_empty.ensures ∙ c.if-is_empty.true))
    ∙ ap (box_in_view (planes_in_rows rows.numbers rows.count)) c.load-b.ensures

pub returns : goal.returns
returns c =
    let rows = c.args.self.now in
    let f = plane_in_rows rows.numbers in
    let s = c.of-space.result in
    in_space (planes_in_rows rows.numbers rows.count) c.load-b.result s.into s.range _ c.of-space.ensures (sym c.is_empty.ensures ∙ c.if-is_empty.false)
    (all_over (test s.into s.range) f rows.count _
    (cases_from_all _ _ _ (λ (k : ℕ). test s.into s.range (f k) ≡ true) (λ (k : ℕ). test s.into s.range (f k) ≡ false) c.all.ensures.ran
    (YieldsList-from_range 0 rows.count rows.count refl (omega arith)) (λ x q k. search (rules, tests)) (λ x q k. search (rules, tests))))
    ∙ ap (box_in_view (planes_in_rows rows.numbers rows.count)) c.load-b.ensures
