-- `Boxes::record` meets its contract: the part of the slice that it names. Assumes nothing.
use Rattle.std.proofs.Common.{◌≡◌, ℕ, ◌+◌, ◌-◌, ◌*◌, List, take, drop, ap, arith}
use lib.Ieee.{Float}
use Rattle.number.specs.Limits.{box_length}
use Rattle.group.proofs.group.Boxes.record.Goals as goal

part : (s : List Float) (from : ℕ) → take (from + box_length - from) (drop from s) ≡ take box_length (drop from s)
part s from = let e : from + box_length - from ≡ box_length = omega arith in ap (λ (k : ℕ). take k (drop from s)) e

pub returns : goal.returns
returns c = part c.args.self.numbers.now (c.args.i * box_length)
