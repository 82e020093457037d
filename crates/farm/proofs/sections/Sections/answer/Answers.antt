-- `answer` meets its contract by what it calls. Assumes nothing.
use mathlib.Core.Path.{◌≡◌, sym, ap, ◌∙◌}
use mathlib.Core.List.{List}
use Prim.Native.Nat.{ℕ, ◌≤◌}
use native.Mathlib.Omega.{arith}
use lib.ListN.{length, take}
use lib.Seq.{length-take-le}
use lib.Ieee.{Float}
use Rattle.farm.specs.Directory.{InFront}
use Rattle.farm.specs.Steps.{Measured}
use Rattle.farm.proofs.Placed.{at_most}
use Rattle.farm.proofs.Measured.{within}
use Rattle.farm.proofs.Batch.{numbers_long}
use Rattle.farm.proofs.sections.Sections.answer.Goals as goal

in_front : (s room : List Float) (n : ℕ) → n ≤ length room → take n room ≡ s → InFront s room
in_front s room n h e = ap (λ (k : ℕ). take k room) (sym (ap length e) ∙ length-take-le n room h) ∙ e

pub slice_bounds-answer_by-end : goal.slice_bounds-answer_by-end
slice_bounds-answer_by-end c = sym (length-take-le _ _ c.load-taken.ensures.1)

pub answer_by-requires : goal.answer_by-requires
answer_by-requires c = (c.load-taken.ensures.2, c.requires)

pub returns : goal.returns
returns c =
    (c.answer_by.ensures, in_front _ _ _ c.load-taken.ensures.1 c.load-taken.ensures.2)

pub load-taken-requires : goal.load-taken-requires
load-taken-requires c =
    let s = c.args.self.now in
    let b = s.directory.file.now in
    let r : Measured b = record { formed = s.directory.formed; count = s.count; sizes = s.sizes } in
    omega (arith, numbers_long b r, within b r, at_most b s.directory.formed)
