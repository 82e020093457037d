-- Many rays, each asked of one triangle, as `intersect_triangle` does: hail on a net. Definitions only.
use Rattle.std.specs.Prelude.{ℕ, ◌*◌, ◌&&◌, replicate, Float, Result}
use mathlib.Core.List.{List, map, flatten}
use Rattle.number.specs.Limits.{point_length, ray_length, hit_length}
use Rattle.number.specs.Answer.{Reply, replied, unless, has}
use Rattle.number.specs.Records.{record_count, records_of, are_records}
use Rattle.matrix.specs.Constants.{positive_zero}
use Rattle.matrix.specs.Vec.{vec3_of}
use Rattle.matrix.specs.declared.vec.Vec3d.{Vec3d}
use Rattle.number.specs.declared.answer.Refusal.{Refusal}
use Rattle.verdict.specs.Ray.{ray_of, triangle_hit, triangle_hit_numbers}
use Rattle.verdict.specs.declared.ray.TriangleHit.{TriangleHit}

-- ---- what comes of a ray

-- what a miss has in the place of a hit's numbers
abbrev pub no_hit : List Float
no_hit = replicate hit_length positive_zero

-- 0 and the numbers of the hit, or 5 and those of a miss
abbrev pub landed : Result TriangleHit Refusal → Reply Float
landed h = replied (triangle_hit_numbers h) no_hit

-- the numbers of all rays, one behind another
abbrev pub hit_numbers : List (Result TriangleHit Refusal) → List Float
hit_numbers hs = flatten (map (λ h. (landed h).out) hs)

-- and what stands in their slots
abbrev pub statuses_of : List (Result TriangleHit Refusal) → List ℕ
statuses_of hs = map (λ h. (landed h).status) hs

-- each ray's hit on the triangle a, b, c, or its miss
abbrev pub hits_of : List (List Float) → Vec3d → Vec3d → Vec3d → List (Result TriangleHit Refusal)
hits_of ss a b c = map (λ r. triangle_hit (ray_of r) a b c) ss

-- ---- what the operation answers and leaves: 1 for what it reads, then 2 for what it writes, and a refusal preserves both slices

pub record Left : Type 0 where
  pub status : ℕ
  pub out : List Float
  pub slots : List ℕ

abbrev pub left : ℕ → List Float → List ℕ → Left
left n out slots = record { status = n; out = out; slots = slots }

unfoldable pub rays_call : List Float → List Float → List Float → List Float → List Float → List ℕ → Left
rays_call s p0 p1 p2 out slots =
    let hits = hits_of (records_of ray_length s) (vec3_of p0) (vec3_of p1) (vec3_of p2) in
    unless (are_records ray_length s && has point_length p0 && has point_length p1 && has point_length p2) (left 1 out slots)
    (unless (has (record_count ray_length s * hit_length) out && has (record_count ray_length s) slots) (left 2 out slots) (left 0 (hit_numbers hits) (statuses_of hits)))
