-- `rays::answer` meets its contract by what it calls. Assumes nothing.
use mathlib.Core.Path.{sym, ap, ◌∙◌}
use Prim.Native.Nat.{ℕ, ◌*◌}
use Rattle.number.specs.Limits.{hit_length}
use Rattle.rays.proofs.rays.answer.Goals as goal

pub clear_misses-requires : goal.clear_misses-requires
clear_misses-requires c = c.meet.ensures.2 ∙ c.requires.1 ∙ sym (ap (λ (n : ℕ). n * hit_length) c.meet.ensures.3)

pub returns : goal.returns
returns c = (c.clear_misses.ensures ∙ c.meet.ensures.0, c.meet.ensures.1)
