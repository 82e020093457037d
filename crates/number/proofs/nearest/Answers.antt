-- `number::nearest` meets its contract: less than a half is added, and a unit more where the kept part is odd. Assumes nothing.
use Rattle.std.proofs.Common.{◌≡◌, ℕ, ◌+◌, ◌-◌, ◌/◌, ◌%◌, ◌^◌, ap, ◌∙◌}
use lib.Bits.{bit_and, and_mask}
use Rattle.number.proofs.Rounding.{nearest_shift, half_bit}
use Rattle.number.proofs.nearest.Goals as goal

odd : (m d : ℕ) → bit_and (m / 2 ^ d) 1 ≡ m / 2 ^ d % 2
odd m d = and_mask (m / 2 ^ d) 1

pub returns : goal.returns
returns c =
    let m = c.args.m in
    let d = c.args.d in
    ap (λ (i : ℕ). (m + (i - 1) + bit_and (m / 2 ^ d) 1) / 2 ^ d) (half_bit d c.requires.0 c.requires.1)
    ∙ ap (λ (i : ℕ). (m + (2 ^ (d - 1) - 1) + i) / 2 ^ d) (odd m d)
    ∙ nearest_shift m d c.requires.0
