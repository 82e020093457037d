-- `planes_held` meets its contract: its tests are those of the definition, in their order; the fewest planes pass the count's. Assumes nothing.
use Rattle.std.proofs.Common.{sym, ◌∙◌, arith}
use Rattle.number.specs.Limits.{fewest_planes}
use Rattle.verdict.proofs.PlaneCount.{fewest}
use Rattle.verdict.proofs.PassedOn.{passed_on}
use Rattle.verdict.proofs.PlanesHeld.{too_short, no_count, other_length, all_held}
use Rattle.verdict.proofs.view.planes_held.Goals as goal

pub returns-then-volume-volume_length : goal.returns-then-volume-volume_length
returns-then-volume-volume_length c = too_short _ (omega (arith, c.volume_length.ensures))

pub returns-then-volume-volume_length-2 : goal.returns-then-volume-volume_length-2
returns-then-volume-volume_length-2 c =
    other_length _ (omega (arith, c.volume_length.ensures)) fewest_planes (fewest _ c.if-first.true) (λ e. c.if-volume-volume_length-2.true (e ∙ sym c.volume_length-then-first.ensures))

pub returns-then-first : goal.returns-then-first
returns-then-first c =
    all_held _ (omega (arith, c.volume_length.ensures)) fewest_planes (fewest _ c.if-first.true) (c.if-volume-volume_length-2.false ∙ c.volume_length-then-first.ensures)

pub returns-then-volume-volume_length-3 : goal.returns-then-volume-volume_length-3
returns-then-volume-volume_length-3 c =
    other_length _ (omega (arith, c.volume_length.ensures)) _ c.in_ok-count.ensures
    (λ e. c.if-volume-volume_length-3.true (e ∙ sym c.volume_length-2.ensures))

pub returns : goal.returns
returns c =
    all_held _ (omega (arith, c.volume_length.ensures)) _ c.in_ok-count.ensures
    (c.if-volume-volume_length-3.false ∙ c.volume_length-2.ensures)

pub returns-in_err-count : goal.returns-in_err-count
returns-in_err-count c =
    passed_on _ _ c.from_residual.ensures.1 (no_count _ (omega (arith, c.volume_length.ensures)) _ c.in_err-count.ensures)
