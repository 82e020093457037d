-- `of_two` meets its contract: the lengths by its tests, the result by what was made. Assumes nothing.
use mathlib.Core.Path.{refl, sym, ap, ap₂, ◌∙◌}
use borrow.Author.Tests.{eq-eqb, ne_eqb}
use Rattle.number.specs.Answer.{write}
use Rattle.number.proofs.Ways.{both, no_input, no_room, written}
use Rattle.matrix.proofs.record.of_two.Goals as goal

pub returns-then-a-LENGTH : goal.returns-then-a-LENGTH
returns-then-a-LENGTH g c = λ made same. no_input _ _ _ _ (both (ne_eqb _ _ (λ e. c.if-a-LENGTH.true (e ∙ sym c.LENGTH.ensures))) refl)

pub returns-then-b-LENGTH : goal.returns-then-b-LENGTH
returns-then-b-LENGTH g c = λ made same.
    no_input _ _ _ _ (both (eq-eqb _ _ (c.if-a-LENGTH.false ∙ c.LENGTH.ensures)) (ne_eqb _ _ (λ e. c.if-b-LENGTH.true (e ∙ sym c.LENGTH-2.ensures))))

pub returns-then-out-LENGTH : goal.returns-then-out-LENGTH
returns-then-out-LENGTH g c = λ made same.
    no_room _ _ _ _ (both (eq-eqb _ _ (c.if-a-LENGTH.false ∙ c.LENGTH.ensures)) (eq-eqb _ _ (c.if-b-LENGTH.false ∙ c.LENGTH-2.ensures)))
    (λ e. c.if-out-LENGTH.true (e ∙ sym c.LENGTH-3.ensures))

pub returns : goal.returns
returns g c = λ made same.
    written _ _ _ _ _ _ (both (eq-eqb _ _ (c.if-a-LENGTH.false ∙ c.LENGTH.ensures)) (eq-eqb _ _ (c.if-b-LENGTH.false ∙ c.LENGTH-2.ensures)))
    (c.if-out-LENGTH.false ∙ c.LENGTH-3.ensures) (g.met.R.Record.count _) c.store.ensures
    (ap write (ap g.R.Record.numbers (same _ _ _ c.make.ensures ∙ ap₂ made c.load.ensures c.load-2.ensures)))
