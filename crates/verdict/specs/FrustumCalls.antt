-- What each verdict over lent slices answers, by the numbers of the refusals. They write nothing. Definitions only.
use Rattle.std.specs.Prelude.{ℕ, Bool, true, ◌&&◌, List, [], ◌∷◌, map, Float}
use Rattle.number.specs.Limits.{point_length, matrix_length, box_length}
use Rattle.number.specs.Every.{every}
use Rattle.number.specs.Answer.{Outcome, refused, outcome, and_then, unless, has}
use Rattle.number.specs.Slice.{all_finite}
use Rattle.matrix.specs.Vec.{vec3_of}
use Rattle.matrix.specs.Matrix.{matrix_of}
use Rattle.verdict.specs.declared.plane.Plane.{Plane}
use Rattle.verdict.specs.declared.ray.Ray.{Ray}
use Rattle.verdict.specs.BBox.{box_of}
use Rattle.verdict.specs.BBoxCalls.{flagged}
use Rattle.verdict.specs.View.{planes_held, planes_of, rays_of}
use Rattle.verdict.specs.Frustum.{point_in_view, segment_in_view, triangle_in_view, box_in_view, box_in_view_volume}

-- ---- the order of the checks

-- every input, given with the length of its record, has that length
unfoldable pub have_lengths : List (ℕ × List Float) → Bool
have_lengths [] = true
have_lengths ((n, s) ∷ inputs) = has n s && have_lengths inputs

-- the records of the inputs
abbrev pub input_records : List (ℕ × List Float) → List (List Float)
input_records inputs = map (λ input. input.1) inputs

-- What comes of what is held, once all that is lent passes: room for the answer, else 2; its flags, "then 3 where a box occurs"; and its numbers, "any record
-- holding a NaN or infinity" being "13 after lengths, plane count and flags".
abbrev pub checked : {A B : Type 0} → Outcome A → Bool → Bool → Bool → (A → Outcome B) → Outcome B
checked held room flags finite f = and_then held (λ x. unless room (refused 2) (unless flags (refused 3) (unless finite (refused 13) (f x))))

-- how many planes a volume holds, once it and what is lent beside it pass
unfoldable pub planes_checked : List Float → Bool → Bool → Bool → Outcome ℕ
planes_checked v room flags finite = checked (planes_held v) room flags (all_finite v && finite) outcome

-- Of the five verdicts, for which no slice is lent: lengths, these checks of all that are lent, and then the verdict by what is held.
unfoldable pub verdict_after : {A : Type 0} → Bool → Outcome A → Bool → List (List Float) → (A → Bool) → Outcome Bool
verdict_after lengths held flag lent verdict = unless lengths (refused 1) (checked held true flag (every all_finite lent) (λ x. outcome (verdict x)))

-- Of those by a volume: "1 for a volume below 49 numbers or any other input of the wrong length", the volume's later checks, then
-- those of all that is lent, and then the verdict by its planes and rays.
unfoldable pub verdict_by : List Float → List (ℕ × List Float) → Bool → (List Plane → List Ray → Bool) → Outcome Bool
unfolding have_lengths verdict_after
verdict_by v others flag verdict = verdict_after (have_lengths others) (planes_held v) flag (v ∷ input_records others) (λ n. verdict (planes_of v n) (rays_of v n))

-- ---- the verdicts: "Point, segment and box verdicts use all planes."

unfoldable pub intersects_point_call : List Float → List Float → Outcome Bool
unfolding verdict_by
intersects_point_call v p = verdict_by v ((point_length, p) ∷ []) true (λ ps rs. point_in_view ps (vec3_of p))

unfoldable pub intersects_segment_call : List Float → List Float → List Float → Outcome Bool
unfolding verdict_by
intersects_segment_call v p0 p1 = verdict_by v ((point_length, p0) ∷ (point_length, p1) ∷ []) true (λ ps rs. segment_in_view ps (vec3_of p0) (vec3_of p1))

unfoldable pub intersects_triangle_call : List Float → List Float → List Float → List Float → Outcome Bool
unfolding verdict_by
intersects_triangle_call v p0 p1 p2 =
    verdict_by v ((point_length, p0) ∷ (point_length, p1) ∷ (point_length, p2) ∷ []) true (λ ps rs. triangle_in_view ps rs (vec3_of p0) (vec3_of p1) (vec3_of p2))

unfoldable pub intersects_box_call : List Float → List Float → Outcome Bool
unfolding verdict_by
intersects_box_call v b = verdict_by v ((box_length, b) ∷ []) (flagged b) (λ ps rs. box_in_view ps (box_of b))

unfoldable pub view_volume_call : List Float → List Float → Outcome Bool
unfolding have_lengths verdict_after
view_volume_call b m =
    let inputs : List (ℕ × List Float) = (box_length, b) ∷ (matrix_length, m) ∷ [] in
    verdict_after (have_lengths inputs) (outcome (box_of b)) (flagged b) (input_records inputs) (λ x. box_in_view_volume x (matrix_of m))
