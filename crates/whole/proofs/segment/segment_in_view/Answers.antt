-- `segment_in_view` meets its contract: the planes left and the span so far decide. Assumes nothing.
use mathlib.Core.Path.{refl, sym, ap, subst, ◌∙◌}
use mathlib.Core.Bool.{not}
use Prim.Native.Nat.{◌≤◌}
use native.Mathlib.Omega.{arith}
use lib.Dec.{lit≤}
use lib.IntN.{ℤ, nat_abs, ◌-ℤ◌}
use Rattle.number.proofs.Tabulate.{next as next_plane, none as no_plane}
use Rattle.number.proofs.ListLoops.{each_holds}
use Rattle.whole.specs.SegmentCall.{point_of, plane_at, planes_of, plane_within}
use Rattle.whole.specs.Steps.{gap_limit, widest}
use Rattle.whole.proofs.Gaps.{gap_read, gap_wide}
use Rattle.whole.proofs.Leaves.{from_the_ends, both_behind, goes_on, none_left}
use Rattle.whole.proofs.Limits.{grid_parts}
use Rattle.whole.proofs.segment.segment_in_view.Goals as goal

pub loop-i-init : goal.loop-i-init
loop-i-init c =
    let v = c.args.view.now.numbers.now in
    let n = c.args.view.now.count in
    let A = point_of c.args.p0.now in
    let B = point_of c.args.p1.now in (
      record { start = record { top = lit≤ tt; bottom = lit≤ tt }; end = record { top = lit≤ tt; bottom = lit≤ tt } },
      (grid_parts (planes_of v n) A B c.requires).2,
      from_the_ends (planes_of v n) A B,
    )

pub gap-first-requires : goal.gap-first-requires
gap-first-requires c =
    let l = c.loop-i in
    let v = c.args.view.now.numbers.now in
    let next = next_plane (plane_at v) c.args.view.now.count l.i _ (omega arith) refl in
    (omega arith, (each_holds plane_within _ _ _ next l.invariant.1).0, (grid_parts (planes_of v c.args.view.now.count) (point_of c.args.p0.now) (point_of c.args.p1.now) c.requires).0)

pub gap-second-requires : goal.gap-second-requires
gap-second-requires c =
    let l = c.loop-i in
    let v = c.args.view.now.numbers.now in
    let next = next_plane (plane_at v) c.args.view.now.count l.i _ (omega arith) refl in
    (omega arith, (each_holds plane_within _ _ _ next l.invariant.1).0, (grid_parts (planes_of v c.args.view.now.count) (point_of c.args.p0.now) (point_of c.args.p1.now) c.requires).1)

pub returns-then-not-in_front : goal.returns-then-not-in_front
returns-then-not-in_front c =
    let l = c.loop-i in
    let v = c.args.view.now.numbers.now in
    let A = point_of c.args.p0.now in
    let B = point_of c.args.p1.now in
    let next = next_plane (plane_at v) c.args.view.now.count l.i _ (omega arith) refl in
    let each = each_holds plane_within _ _ _ next l.invariant.1 in
    let grid = grid_parts (planes_of v c.args.view.now.count) A B c.requires in
    let P = plane_at v l.i in
    let F = gap_read P A c.gap-first.result c.gap-first.ensures each.0 grid.0 in
    let F' = gap_read P B c.gap-second.result c.gap-second.ensures each.0 grid.1 in
    both_behind A B _ _ P next _ _ F.is F'.is l.span _ _ c.in_front.ensures c.in_front-in-loop-i.ensures (ap not c.if-not-in_front.true) ∙ l.invariant.2

pub cut-span-requires : goal.cut-span-requires
cut-span-requires c =
    let l = c.loop-i in
    let v = c.args.view.now.numbers.now in
    let A = point_of c.args.p0.now in
    let B = point_of c.args.p1.now in
    let next = next_plane (plane_at v) c.args.view.now.count l.i _ (omega arith) refl in
    let each = each_holds plane_within _ _ _ next l.invariant.1 in
    let grid = grid_parts (planes_of v c.args.view.now.count) A B c.requires in
    let P = plane_at v l.i in
    let F = gap_read P A c.gap-first.result c.gap-first.ensures each.0 grid.0 in
    let F' = gap_read P B c.gap-second.result c.gap-second.ensures each.0 grid.1 in (
      l.invariant.0,
      record {
        first = subst (λ (z : ℤ). nat_abs z ≤ gap_limit) (sym F.is) F.size;
        second = subst (λ (z : ℤ). nat_abs z ≤ gap_limit) (sym F'.is) F'.size;
        apart = subst (λ (z : ℤ). nat_abs z ≤ widest) (sym (λ t. F'.is t -ℤ F.is t)) (gap_wide P A B each.0 grid.0 grid.1);
      },
    )

pub loop-i-preserved : goal.loop-i-preserved
loop-i-preserved c =
    let l = c.loop-i in
    let v = c.args.view.now.numbers.now in
    let A = point_of c.args.p0.now in
    let B = point_of c.args.p1.now in
    let next = next_plane (plane_at v) c.args.view.now.count l.i _ (omega arith) refl in
    let each = each_holds plane_within _ _ _ next l.invariant.1 in
    let grid = grid_parts (planes_of v c.args.view.now.count) A B c.requires in
    let P = plane_at v l.i in
    let F = gap_read P A c.gap-first.result c.gap-first.ensures each.0 grid.0 in
    let F' = gap_read P B c.gap-second.result c.gap-second.ensures each.0 grid.1 in (
      c.cut-span.ensures.small,
      each.1,
      goes_on A B _ _ P next _ _ F.is F'.is l.span _ _ c.in_front.ensures c.in_front-in-loop-i.ensures (ap not c.if-not-in_front.false) c.cut-span.result c.cut-span.ensures ∙ l.invariant.2,
    )

pub less-requires : goal.less-requires
less-requires c = let l = c.loop-i in (l.invariant.0.end, l.invariant.0.start)

pub returns : goal.returns
returns c =
    let l = c.loop-i in
    let a = c.args in
    none_left _ _ _ (no_plane (plane_at a.view.now.numbers.now) a.view.now.count l.i (omega arith)) _ _ _ c.less.ensures ∙ l.invariant.2
