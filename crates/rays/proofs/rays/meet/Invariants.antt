-- `rays::meet` meets its contract: what is filled in front and the rays left decide. Assumes nothing.
use mathlib.Core.Path.{◌≡◌}
use mathlib.Core.List.{map}
use lib.ListN.{length}
use Rattle.number.specs.Limits.{ray_length}
use Rattle.number.specs.Records.{records}
use Rattle.rays.specs.Rays.{landed, hit_numbers}
use Rattle.rays.specs.Steps.{hit_on, hits_on}
use Rattle.rays.proofs.Passed.{all_slots, all_numbers_lem}
use Rattle.rays.proofs.rays.meet.Given as goal

abbrev pub invariant-loop-i : goal.invariant-loop-i
invariant-loop-i l =
    (length l.status ≡ length l.initial.status) × (length l.out ≡ length l.initial.out)
    × (all_numbers_lem (hit_on l.triangle) (length l.initial.status) l.s l.status l.out l.i ≡ hit_numbers (hits_on l.triangle (records ray_length (length l.initial.status) l.s)))
    × (all_slots (hit_on l.triangle) (length l.initial.status) l.s l.status l.i ≡ map (λ r. (landed (hit_on l.triangle r)).status) (records ray_length (length l.initial.status) l.s))
