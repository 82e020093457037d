-- What the private functions of this crate promise one another. Definitions only; no contract of a public function speaks of them.
use Rattle.std.specs.Prelude.{Bool, true, false, cond, List, [], ◌∷◌, ◌++◌, map, ℕ, eqb, take, drop, Float, Result}
use Rattle.number.specs.Limits.{hit_length}
use Rattle.number.specs.declared.answer.Refusal.{Refusal}
use Rattle.verdict.specs.Ray.{ray_of, hit_of, triangle_numbers}
use Rattle.verdict.specs.declared.ray.Meeting.{Meeting}
use Rattle.verdict.specs.declared.ray.Triangle.{Triangle}
use Rattle.verdict.specs.declared.ray.TriangleHit.{TriangleHit}
use Rattle.rays.specs.Rays.{no_hit}

abbrev pub hit_status : Bool → ℕ
hit_status true = 0
hit_status false = 5

abbrev pub meeting_numbers : Meeting → List Float
meeting_numbers m = triangle_numbers m.numbers

-- what comes of the ray of a record, and of each
abbrev pub hit_on : Triangle → List Float → Result TriangleHit Refusal
hit_on t r = hit_of (ray_of r) t

abbrev pub hits_on : Triangle → List (List Float) → List (Result TriangleHit Refusal)
hits_on t rs = map (hit_on t) rs

-- five numbers for each slot, with zeros where it is not that of a hit
abbrev pub cleared : List ℕ → List Float → List Float
cleared [] s = []
cleared (k ∷ ks) s = cond (eqb k 0) (take hit_length s) no_hit ++ cleared ks (drop hit_length s)
