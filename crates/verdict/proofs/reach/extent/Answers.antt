-- `reach::extent` meets its contract: number by number by that of `abs`. Assumes nothing.
use Rattle.std.proofs.Common.{◌≡◌}
use lib.Ieee.{Float}
use Rattle.number.specs.Arithmetic.{◌⊕◌, abs_of}
use Rattle.matrix.specs.declared.range.Range3d.{Range3d}
use Rattle.verdict.specs.Steps.Filter.{extent_of}
use Rattle.verdict.proofs.reach.extent.Goals as goal

by_sizes : (r : Range3d) (a b c d e f : Float) → a ≡ abs_of r.min.x → b ≡ abs_of r.min.y → c ≡ abs_of r.min.z
    → d ≡ abs_of r.max.x → e ≡ abs_of r.max.y → f ≡ abs_of r.max.z → a ⊕ b ⊕ c ⊕ d ⊕ e ⊕ f ≡ extent_of r
by_sizes r a b c d e f p q s t u v = rw (p, q, s, t, u, v)

pub returns : goal.returns
returns c =
    by_sizes _ _ _ _ _ _ _ c.abs.ensures c.abs-2.ensures c.abs-3.ensures
    c.abs-4.ensures c.abs-5.ensures c.abs-6.ensures
