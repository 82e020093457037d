-- `clip::intersects_view_volume` meets its contract: the bounds are those that the corners passed are inside of. Assumes nothing.
use Rattle.std.proofs.Common.{◌≡◌}
use Rattle.verdict.specs.Steps.Passes.{passed_of}
use Rattle.verdict.proofs.clip.intersects_view_volume.Given as goal

abbrev pub invariant-loop-i : goal.invariant-loop-i
invariant-loop-i l = l.sides ≡ passed_of l.b.range l.to_clip l.i
