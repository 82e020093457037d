-- `View::checked` meets its contract: its tests are those of the definition, in their order. Assumes nothing.
use Rattle.std.proofs.Common.{Bool, true, false, ◌&&◌, sym, refl, ap, ◌∙◌}
use Rattle.number.specs.Slice.{all_finite}
use Rattle.verdict.proofs.Flags.{negated}
use Rattle.verdict.proofs.PassedOn.{passed_on_err}
use Rattle.verdict.proofs.VerdictChecks.{volume_by_tests}
use Rattle.verdict.proofs.view.View.checked.Goals as goal

pub returns-then-not-lent-clause-refused : goal.returns-then-not-lent-clause-refused
returns-then-not-lent-clause-refused c = volume_by_tests _ _ _ _ c.in_ok-view.ensures.held.1 (negated _ true c.if-not-lent.true) refl refl

pub returns-then-not-lent-2-clause-refused : goal.returns-then-not-lent-2-clause-refused
returns-then-not-lent-2-clause-refused c = volume_by_tests _ _ _ _ c.in_ok-view.ensures.held.1 (negated _ false c.if-not-lent.false) (negated _ true c.if-not-lent-2.true) refl

pub returns-then-not-all_numbers_finite-lent-clause-refused : goal.returns-then-not-all_numbers_finite-lent-clause-refused
returns-then-not-all_numbers_finite-lent-clause-refused c =
    volume_by_tests _ _ _ _ c.in_ok-view.ensures.held.1 (negated _ false c.if-not-lent.false) (negated _ false c.if-not-lent-2.false)
    (ap (λ (z : Bool). z && c.args.lent.finite) (sym (c.all_numbers_finite.ensures ∙ ap all_finite c.in_ok-view.ensures.held.0)) ∙ c.if-not-all_numbers_finite-lent.true)

pub returns-clause-held : goal.returns-clause-held
returns-clause-held c = (
  c.in_ok-view.ensures.held.0,
  volume_by_tests _ _ _ _ c.in_ok-view.ensures.held.1 (negated _ false c.if-not-lent.false) (negated _ false c.if-not-lent-2.false)
      (ap (λ (z : Bool). z && c.args.lent.finite) (sym (c.all_numbers_finite.ensures ∙ ap all_finite c.in_ok-view.ensures.held.0)) ∙ c.if-not-all_numbers_finite-lent.false),
)

pub returns-in_err-view-clause-refused : goal.returns-in_err-view-clause-refused
returns-in_err-view-clause-refused c =
    passed_on_err _ _ c.from_residual.ensures.1 (volume_by_tests _ _ _ _ c.in_err-view.ensures.refused refl refl refl)
