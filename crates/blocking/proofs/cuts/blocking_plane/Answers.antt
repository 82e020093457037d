-- `cuts::blocking_plane` meets its contract by what it calls. Assumes nothing.
use Rattle.std.proofs.Common.{sym, ap, ◌∙◌}
use Rattle.number.specs.Places.{places_below, first_of}
use Rattle.verdict.specs.View.{plane_at}
use Rattle.blocking.specs.declared.cuts.Cuts.{Cuts}
use Rattle.blocking.specs.Steps.{leave_without}
use Rattle.blocking.proofs.BlockingByCuts.{blocking_by_cuts}
use Rattle.blocking.proofs.cuts.blocking_plane.Goals as goal

pub returns : goal.returns
returns c =
    let g = c.args in
    c.first_blocking.ensures ∙ ap (λ (x : Cuts). first_of (places_below g.planes.count (leave_without x))) c.cuts_of.ensures
    ∙ sym (blocking_by_cuts (plane_at g.planes.numbers.now) g.a g.b g.planes.count)
