-- Many rays in one call are the single call for each: what is answered has passed the tests of every call. Assumes nothing.
use Rattle.std.specs.Prelude.{None, Option, Some, Result, Ok, Err}
use mathlib.Core.Path.{◌≡◌, refl, sym, ap, ◌∙◌}
use mathlib.Core.Bool.{Bool, true, false, ◌&&◌, ◌||◌}
use mathlib.Core.List.{List, [], ◌∷◌, map, map-map, flatten}
use Prim.Native.Nat.{ℕ, ◌*◌}
use native.Mathlib.Omega.{arith}
use borrow.Author.Tests.{eq-eqb}
use lib.Dec.{eqb}
use lib.ListN.{length}
use lib.Ieee.{Float}
use Rattle.number.specs.Limits.{point_length, ray_length, hit_length}
use Rattle.number.specs.Answer.{Reply, unless, has, leaving}
use Rattle.number.specs.Every.{every}
use Rattle.number.specs.Records.{record_at, records, record_count, records_of, are_records}
use Rattle.number.proofs.Tests.{both_hold}
use Rattle.number.proofs.Tabulate.{same_of_each}
use Rattle.number.proofs.Records.{record_length, records_length}
use Rattle.matrix.specs.Vec.{vec3_of}
use Rattle.number.specs.declared.answer.Refusal.{Refusal}
use Rattle.number.specs.declared.answer.Refusal.TheVariants.{Miss}
use Rattle.verdict.specs.declared.ray.Ray.{Ray}
use Rattle.verdict.specs.declared.ray.Triangle.{Triangle}
use Rattle.verdict.specs.declared.ray.Meeting.{Meeting}
use Rattle.verdict.specs.declared.ray.TriangleHit.{TriangleHit}
use Rattle.verdict.specs.Ray.{ray_of, triangle_of, meeting_of, hit_in, hit_of, triangle_hit}
use Rattle.verdict.specs.RayCalls.{triangle_hit_call}
use Rattle.rays.specs.Rays.{no_hit, landed, hit_numbers, statuses_of, hits_of, Left, left, rays_call}
use Rattle.rays.specs.EachCall.{RaysAreEachCall, SlotsTellHitOrMiss}

-- ---- the single calls

module _ (p0 p1 p2 : List Float) (a : has point_length p0 ≡ true) (b : has point_length p1 ≡ true) (c : has point_length p2 ≡ true) where
  single : (r : List Float) → length r ≡ ray_length → triangle_hit_call r p0 p1 p2 no_hit ≡ landed (triangle_hit (ray_of r) (vec3_of p0) (vec3_of p1) (vec3_of p2))
  unfolding triangle_hit_call leaving
  single r h = rw (eq-eqb _ _ h, a, b, c)

  each : (k : ℕ) (s : List Float) → length s ≡ k * ray_length
      → map (λ (r : List Float). triangle_hit_call r p0 p1 p2 no_hit) (records ray_length k s) ≡ map landed (hits_of (records ray_length k s) (vec3_of p0) (vec3_of p1) (vec3_of p2))
  each k s h =
      same_of_each (λ (r : List Float). triangle_hit_call r p0 p1 p2 no_hit) (λ (r : List Float). landed (triangle_hit (ray_of r) (vec3_of p0) (vec3_of p1) (vec3_of p2)))
      (record_at ray_length s) k (λ i l. single (record_at ray_length s i) (record_length ray_length k s h i l))
      ∙ sym (map-map landed (λ (r : List Float). triangle_hit (ray_of r) (vec3_of p0) (vec3_of p1) (vec3_of p2)) (records ray_length k s))

-- ---- the call that is not refused

abbrev inputs : List Float → List Float → List Float → List Float → Bool
inputs s p0 p1 p2 = are_records ray_length s && has point_length p0 && has point_length p1 && has point_length p2

module _ (s p0 p1 p2 out : List Float) (slots : List ℕ) where
  abbrev hits : List (Result TriangleHit Refusal)
  hits = hits_of (records_of ray_length s) (vec3_of p0) (vec3_of p1) (vec3_of p2)

  abbrev answer : Bool → Bool → Left
  answer right room = unless right (left 1 out slots) (unless room (left 2 out slots) (left 0 (hit_numbers hits) (statuses_of hits)))

  -- its inputs are right, and it leaves the hits
  accepted : (rays_call s p0 p1 p2 out slots).status ≡ 0 → (inputs s p0 p1 p2 ≡ true) × (rays_call s p0 p1 p2 out slots ≡ left 0 (hit_numbers hits) (statuses_of hits))
  unfolding rays_call
  accepted e = go (inputs s p0 p1 p2) (has (record_count ray_length s * hit_length) out && has (record_count ray_length s) slots) refl e
    where
      go : (right room : Bool) → inputs s p0 p1 p2 ≡ right → (answer right room).status ≡ 0
          → (inputs s p0 p1 p2 ≡ true) × (answer right room ≡ left 0 (hit_numbers hits) (statuses_of hits))
      go true true p q = (p, refl)
      go true false p q = absurd (omega (arith, q))
      go false room p q = absurd (omega (arith, q))

pub rays_are_each_call : RaysAreEachCall
rays_are_each_call s p0 p1 p2 out slots e =
    let k = accepted s p0 p1 p2 out slots e in
    let third = both_hold (are_records ray_length s && has point_length p0 && has point_length p1) (has point_length p2) k.0 in
    let second = both_hold (are_records ray_length s && has point_length p0) (has point_length p1) third.0 in
    let first = both_hold (are_records ray_length s) (has point_length p0) second.0 in
    let calls = each p0 p1 p2 first.1 second.1 third.1 (record_count ray_length s) s (records_length ray_length s first.0) in
    let outs = ap (map (λ (c : Reply Float). c.out)) calls ∙ map-map (λ (c : Reply Float). c.out) landed (hits s p0 p1 p2 out slots) in
    let statuses = ap (map (λ (c : Reply Float). c.status)) calls ∙ map-map (λ (c : Reply Float). c.status) landed (hits s p0 p1 p2 out slots) in
    k.1 ∙ (λ t. left 0 (flatten (sym outs t)) (sym statuses t))

-- ---- a hit or a miss

abbrev HitOrMiss : Result TriangleHit Refusal → Type 0
HitOrMiss h = (eqb (landed h).status 0 || eqb (landed h).status 5) ≡ true

of_meeting : (m : Meeting) → HitOrMiss (hit_in m)
of_meeting m = go m.hit
  where
    go : (b : Bool) → HitOrMiss (unless b (Err Miss) (Ok m.numbers))
    go true = refl
    go false = refl

hit_or_miss : (r : Ray) (t : Triangle) → HitOrMiss (hit_of r t)
unfolding hit_of
hit_or_miss r t = of_meeting (meeting_of r t)

every_slot : (ss : List (List Float)) (f : List Float → Result TriangleHit Refusal) → ((r : List Float) → HitOrMiss (f r)) → every (λ (n : ℕ). eqb n 0 || eqb n 5) (statuses_of (map f ss)) ≡ true
unfolding every
every_slot [] f h = refl
every_slot (r ∷ rs) f h = λ i. h r i && every_slot rs f h i

pub slots_tell_hit_or_miss : SlotsTellHitOrMiss
unfolding triangle_hit
slots_tell_hit_or_miss s p0 p1 p2 out slots e =
    ap (λ (l : Left). every (λ (n : ℕ). eqb n 0 || eqb n 5) l.slots) (accepted s p0 p1 p2 out slots e).1
    ∙ every_slot (records_of ray_length s) (λ (r : List Float). triangle_hit (ray_of r) (vec3_of p0) (vec3_of p1) (vec3_of p2))
    (λ r. hit_or_miss (ray_of r) (triangle_of (vec3_of p0) (vec3_of p1) (vec3_of p2)))
