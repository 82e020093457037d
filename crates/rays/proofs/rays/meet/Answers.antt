-- `rays::meet` meets its contract: what is filled in front and the rays left decide. Assumes nothing.
use mathlib.Core.Path.{◌≡◌, refl, sym, ap, ◌∙◌}
use mathlib.Core.List.{List, map-map}
use Prim.Native.Nat.{◌+◌, ◌*◌, ◌≤◌}
use native.Mathlib.Omega.{arith}
use lib.ListN.{length, length-set, set}
use lib.Ieee.{Float}
use Rattle.number.specs.Limits.{ray_length, hit_length}
use Rattle.number.specs.Records.{records}
use Rattle.verdict.specs.declared.ray.Ray.{Ray}
use Rattle.verdict.specs.declared.ray.Triangle.{Triangle}
use Rattle.verdict.specs.Ray.{meeting_of, hit_in, hit_of}
use Rattle.rays.specs.Rays.{landed}
use Rattle.rays.specs.Steps.{hit_on}
use Rattle.rays.proofs.Passed.{all_numbers_lem, slot_passed, number_passed, stored_length, slots_passed, numbers_passed}
use Rattle.rays.proofs.rays.meet.Goals as goal

answered : (r : Ray) (t : Triangle) → hit_in (meeting_of r t) ≡ hit_of r t
unfolding hit_of
answered r t = refl

pub loop-i-preserved : goal.loop-i-preserved
loop-i-preserved c =
    let l = c.loop-i in
    let a = c.args in
    let f = hit_on a.triangle in
    let n = length a.status.now in
    let m = c.met_by-meeting.result in
    let k = c.hit_status.result in
    let h = ap hit_in c.met_by-meeting.ensures ∙ answered _ _ ∙ ap (λ (r : Ray). hit_of r a.triangle) c.ray_at.ensures in
    let many = length-set l.status l.i k in
    let fits : l.i * hit_length + hit_length ≤ length l.out = omega (arith, c.requires.1, l.invariant.0, l.invariant.1) in (
      many ∙ l.invariant.0,
      ap length c.store_hit.ensures ∙ stored_length f n a.s.now l.out l.i m fits ∙ l.invariant.1,
      ap (λ (v : List Float). all_numbers_lem f n a.s.now (set l.status l.i k) v (l.i + 1)) c.store_hit.ensures
          ∙ number_passed f n a.s.now l.status l.i k m (omega arith) (omega (arith, l.invariant.0)) c.hit_status.ensures h l.out fits ∙ l.invariant.2,
      slot_passed f n a.s.now l.status l.i k m (omega arith) (omega (arith, l.invariant.0)) c.hit_status.ensures h ∙ l.invariant.3,
    )

pub store_hit-requires : goal.store_hit-requires
store_hit-requires c =
    let l = c.loop-i in
    omega (arith, c.requires.1, l.invariant.0, l.invariant.1)

pub returns : goal.returns
returns c =
    let l = c.loop-i in
    let a = c.args in
    let f = hit_on a.triangle in
    let n = length a.status.now in (
      numbers_passed f n a.s.now l.status l.out l.i l.invariant.0 (l.invariant.1 ∙ c.requires.1) (omega (arith, l.invariant.0)) ∙ l.invariant.2,
      slots_passed f n a.s.now l.status l.i l.invariant.0 (omega (arith, l.invariant.0)) ∙ l.invariant.3
          ∙ sym (map-map (λ h. (landed h).status) f (records ray_length n a.s.now)),
      l.invariant.1,
      l.invariant.0,
    )
