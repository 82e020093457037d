-- `Rows::span_left` meets its contract: the planes left and what is left of the segment decide. Assumes nothing.
use Rattle.std.proofs.Common.{refl, ◌∙◌, arith}
use lib.Count.{count_trailing_zeros}
use lib.Ieee.{lt, of_bits, round, units, odd, size, span, climb}
use Rattle.number.proofs.Tabulate.{next as next_plane, none as no_plane}
use Rattle.verdict.specs.Rows.{plane_in_rows}
use Rattle.verdict.proofs.SpanLeft.{other_sides, nothing_left, some_left, all_passed}
use Rattle.verdict.proofs.rows.Rows.span_left.Goals as goal

pub loop-i-init : goal.loop-i-init
unfolding of_bits round units odd size span climb count_trailing_zeros lt
loop-i-init c = (refl, c.requires.a_sides, c.requires.b_sides, refl)

pub returns-then-span : goal.returns-then-span
returns-then-span c =
    let l = c.loop-i in
    let rows = c.args.self.now in
    let next = next_plane (plane_in_rows rows.numbers) rows.count l.i _ (omega arith) c.plane.ensures in
    nothing_left _ _ _ next _ _ _ _ l.invariant.1 l.invariant.2 _ _ _ _ l.invariant.0 c.cut-span.ensures.0 c.cut-span.ensures.1 c.if-span.true ∙ l.invariant.3

pub loop-i-preserved : goal.loop-i-preserved
loop-i-preserved c =
    let l = c.loop-i in
    let rows = c.args.self.now in
    let next = next_plane (plane_in_rows rows.numbers) rows.count l.i _ (omega arith) c.plane.ensures in (
      c.if-span.false,
      other_sides _ _ _ next _ _ l.invariant.1,
      other_sides _ _ _ next _ _ l.invariant.2,
      some_left _ _ _ next _ _ _ _ l.invariant.1 l.invariant.2 _ _ _ _ l.invariant.0 c.cut-span.ensures.0 c.cut-span.ensures.1 c.if-span.false ∙ l.invariant.3,
    )

pub returns : goal.returns
returns c =
    let l = c.loop-i in
    let rows = c.args.self.now in
    all_passed _ _ _ _ _ (no_plane (plane_in_rows rows.numbers) rows.count l.i (omega arith)) ∙ l.invariant.3
