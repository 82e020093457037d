-- `rays::clear_misses` meets its contract: what is cleared in front and the slots left decide. Assumes nothing.
use mathlib.Core.Path.{ap, ◌∙◌}
use mathlib.Core.List.{List}
use Prim.Native.Nat.{◌+◌, ◌*◌, ◌≤◌}
use native.Mathlib.Omega.{arith}
use lib.Dec.{eqb}
use lib.ListN.{length, get_or}
use lib.Ieee.{Float}
use Rattle.number.specs.Limits.{hit_length}
use Rattle.rays.proofs.Cleared.{all_cleared, left_length, one_cleared, all_passed}
use Rattle.rays.proofs.rays.clear_misses.Goals as goal

pub loop-i-preserved : goal.loop-i-preserved
loop-i-preserved c =
    let l = c.loop-i in
    let a = c.args in
    let k = get_or a.slots.now l.i 0 in
    let fits : l.i * hit_length + hit_length ≤ length l.out = omega (arith, c.requires, l.invariant.0) in (
      ap length c.clear_unless.ensures ∙ left_length l.out l.i (eqb k 0) fits ∙ l.invariant.0,
      ap (λ (v : List Float). all_cleared a.slots.now v (l.i + 1)) c.clear_unless.ensures
          ∙ one_cleared a.slots.now l.out l.i (omega arith) fits ∙ l.invariant.1,
    )

pub clear_unless-requires : goal.clear_unless-requires
clear_unless-requires c =
    let l = c.loop-i in
    omega (arith, c.requires, l.invariant.0)

pub returns : goal.returns
returns c =
    let l = c.loop-i in
    let a = c.args in
    all_passed a.slots.now l.out l.i (l.invariant.0 ∙ c.requires) (omega arith) ∙ l.invariant.1
