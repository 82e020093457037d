-- `frustum_calls::intersects_view_volume` meets its contract: the lengths, the flag and the numbers by its tests, the result by what it calls. Assumes nothing.
use Rattle.std.proofs.Common.{not, sym, refl, ap, ◌∙◌, ap₂, eqb-true}
use Rattle.number.specs.Limits.{matrix_length, box_length}
use Rattle.number.specs.Answer.{outcome}
use Rattle.number.proofs.Tests.{both_hold}
use Rattle.verdict.specs.Frustum.{box_in_view_volume}
use Rattle.verdict.proofs.Flags.{no_flag, is_flag_lem}
use Rattle.verdict.proofs.VerdictChecks.{two_inputs, last_record, next_record, wrong_length, by_tests}
use Rattle.verdict.proofs.VerdictCalls.{clip_call}
use Rattle.verdict.proofs.frustum_calls.intersects_view_volume.Goals as goal

pub returns-then-not-b-m : goal.returns-then-not-b-m
returns-then-not-b-m c =
    let a = c.args in
    wrong_length _ _ _ _ _ (two_inputs box_length a.b.now matrix_length a.m.now ∙ c.if-not-b-m.true) ∙ clip_call a.b.now a.m.now

pub returns-then-not-is_flag : goal.returns-then-not-is_flag
returns-then-not-is_flag c =
    let a = c.args in
    by_tests _ _ _ _ _ (two_inputs box_length a.b.now matrix_length a.m.now ∙ c.if-not-b-m.false) refl
    (no_flag a.b.now _ _ c.at.ensures c.is_flag.ensures (ap not c.if-not-is_flag.true)) refl
    ∙ clip_call a.b.now a.m.now

pub returns-then-not-all_finite : goal.returns-then-not-all_finite
returns-then-not-all_finite c =
    let a = c.args in
    by_tests _ _ _ _ _ (two_inputs box_length a.b.now matrix_length a.m.now ∙ c.if-not-b-m.false) refl
    (is_flag_lem a.b.now _ _ c.at.ensures c.is_flag.ensures (ap not c.if-not-is_flag.false))
    (sym (next_record _ c.all_finite.ensures _ (last_record _ c.all_finite-2.ensures)) ∙ c.if-not-all_finite.true)
    ∙ clip_call a.b.now a.m.now

pub load-requires : goal.load-requires
load-requires c = eqb-true _ _ (both_hold _ _ c.if-not-b-m.false).0

pub returns : goal.returns
returns c =
    let a = c.args in
    ap outcome (c.intersects_view_volume.ensures ∙ ap₂ box_in_view_volume c.load.ensures c.load-2.ensures)
    ∙ by_tests _ _ _ _ _ (two_inputs box_length a.b.now matrix_length a.m.now ∙ c.if-not-b-m.false) refl
    (is_flag_lem a.b.now _ _ c.at.ensures c.is_flag.ensures (ap not c.if-not-is_flag.false))
    (sym (next_record _ c.all_finite.ensures _ (last_record _ c.all_finite-2.ensures)) ∙ c.if-not-all_finite.false)
    ∙ clip_call a.b.now a.m.now
