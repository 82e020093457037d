-- Many rays in one call are the single call for each of them. Definitions and statements only; proofs/EachCall proves them.
use Rattle.std.specs.Prelude.{◌≡◌, true, ◌||◌, ℕ, eqb, Float}
use mathlib.Core.List.{List, map, flatten}
use Rattle.number.specs.Limits.{ray_length}
use Rattle.number.specs.Answer.{Reply}
use Rattle.number.specs.Every.{every}
use Rattle.number.specs.Records.{records_of}
use Rattle.verdict.specs.RayCalls.{triangle_hit_call}
use Rattle.rays.specs.Rays.{no_hit, left, rays_call}

-- what `intersect_triangle` answers and leaves of each ray, where it is lent five numbers +0, which a miss preserves
abbrev pub each_call : List Float → List Float → List Float → List Float → List (Reply Float)
each_call s p0 p1 p2 = map (λ r. triangle_hit_call r p0 p1 p2 no_hit) (records_of ray_length s)

-- Whatever was lent, where the rays are not refused: the slots have what the single calls answer, and the numbers are what they leave, one behind another.
abbrev pub RaysAreEachCall : Type 0
RaysAreEachCall =
    (s p0 p1 p2 out : List Float) (slots : List ℕ) → (rays_call s p0 p1 p2 out slots).status ≡ 0
    → rays_call s p0 p1 p2 out slots ≡ left 0 (flatten (map (λ c. c.out) (each_call s p0 p1 p2))) (map (λ c. c.status) (each_call s p0 p1 p2))

-- A slot is 0, a hit's, or 5, a miss's.
abbrev pub SlotsTellHitOrMiss : Type 0
SlotsTellHitOrMiss =
    (s p0 p1 p2 out : List Float) (slots : List ℕ) → (rays_call s p0 p1 p2 out slots).status ≡ 0
    → every (λ n. eqb n 0 || eqb n 5) (rays_call s p0 p1 p2 out slots).slots ≡ true
