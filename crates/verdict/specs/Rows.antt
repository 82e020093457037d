-- The planes of a view as the engine holds them: "Inside the engine keep all normal x numbers together, then all y, all z, and the distances." Each is a row with
-- room for the most planes, and the rows stand one behind the other. Definitions only.
use Rattle.std.specs.Prelude.{◌≡◌, ℕ, zero, suc, ◌+◌, ◌*◌, ◌<◌, List, slice_set, Float}
use Rattle.number.specs.Limits.{plane_length, most_planes}
use Rattle.number.specs.Answer.{Outcome, refused, outcome, unless, has}
use Rattle.number.specs.Slice.{at}
use Rattle.number.specs.Tabulate.{tabulate}
use Rattle.matrix.specs.Vec.{vec3}
use Rattle.verdict.specs.declared.plane.Plane.{Plane}
use Rattle.verdict.specs.Plane.{plane}
use Rattle.verdict.specs.View.{plane_start, plane_at}

abbrev pub rows_length : ℕ
rows_length = plane_length * most_planes

-- where number j of plane i stands
abbrev pub row_place : ℕ → ℕ → ℕ
row_place j i = i + j * most_planes

-- The rows l hold the first n planes of the record v: each number of these stands in its row, whatever stands in the places behind them.
unfoldable pub InRows : List Float → ℕ → List Float → Type 0
InRows v n l = (i j : ℕ) → i < n → j < plane_length → at l (row_place j i) ≡ at v (plane_start i + j)

-- the rows with a plane put to place i, and with the first n planes of a record put to theirs: every other place keeps what it held
abbrev pub with_plane : List Float → ℕ → Plane → List Float
with_plane l i p = slice_set (slice_set (slice_set (slice_set l i p.normal.x) (row_place 1 i) p.normal.y) (row_place 2 i) p.normal.z) (row_place 3 i) p.distance

unfoldable pub with_planes : List Float → ℕ → List Float → List Float
with_planes v zero l = l
with_planes v (suc n) l = with_plane (with_planes v n l) n (plane_at v n)

-- What a slice holds that a record of so many planes is loaded into: these, if it has room for just the rows; else, and where the record is refused, what it held.
abbrev pub rows_loaded : Outcome ℕ → List Float → List Float → List Float
rows_loaded (outcome n) v l = unless (has rows_length l) l (with_planes v n l)
rows_loaded (refused k) v l = l

-- plane i of the rows, and the first n of them
abbrev pub plane_in_rows : List Float → ℕ → Plane
plane_in_rows l i = plane (vec3 (λ j. at l (row_place j i))) (at l (row_place 3 i))

abbrev pub planes_in_rows : List Float → ℕ → List Plane
planes_in_rows l n = tabulate (plane_in_rows l) n
