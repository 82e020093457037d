-- What the segment engine over signed 32-bit whole numbers answers, by the numbers of the refusals. Definitions only.
-- "Its view is a count of planes, then four numbers for each plane, without rays. It accepts the farm-grid limits and every plane count then permitted."
use Rattle.std.specs.Prelude.{ℕ, ◌+◌, ◌*◌, Bool, ◌&&◌, List, leb, length, get_or, ℤ, pos, negsuc, nat_abs}
use Rattle.number.specs.Limits.{point_length, plane_length, grid_limit, normal_limit, distance_limit, fewest_planes, most_planes}
use Rattle.number.specs.Answer.{Outcome, refused, outcome, unless, has}
use Rattle.number.specs.Every.{every}
use Rattle.number.specs.Tabulate.{tabulate}
use Rattle.whole.specs.Plane.{WholePlane}
use Rattle.whole.specs.Segment.{segment_in_view}

-- ---- the records

-- the number at a place of a slice
abbrev pub number_at : List ℤ → ℕ → ℤ
number_at s i = get_or s i (pos 0)

-- a point's coordinates by axis
abbrev pub point_of : List ℤ → ℕ → ℤ
point_of p i = number_at p i

-- where plane i begins, behind the count
abbrev pub plane_start : ℕ → ℕ
plane_start i = 1 + i * plane_length

-- plane i of a view
abbrev pub plane_at : List ℤ → ℕ → WholePlane
plane_at s i = let from = plane_start i in record { normal = λ j. number_at s (from + j); distance = number_at s (from + 3) }

-- the first n planes
abbrev pub planes_of : List ℤ → ℕ → List WholePlane
planes_of s n = tabulate (plane_at s) n

-- how many numbers a view of n planes has
abbrev pub view_length : ℕ → ℕ
view_length n = plane_start n

-- how many planes the number in front says there are; below 0 it says that there are none
abbrev pub count_of : ℤ → ℕ
count_of (pos n) = n
count_of (negsuc n) = 0

-- ---- the checks

abbrev pub permitted : ℕ → Bool
permitted n = leb fewest_planes n && leb n most_planes

-- How many planes a view holds, by its count and its length: 1 for a view below that of the fewest planes, 12 for the count, 1 for another length than the count's.
unfoldable pub planes_held : List ℤ → Outcome ℕ
planes_held view =
    let n = count_of (number_at view 0) in
    unless (leb (view_length fewest_planes) (length view)) (refused 1) (unless (permitted n) (refused 12)
    (unless (has (view_length n) view) (refused 1) (outcome n)))

-- a number is at most a limit in size
abbrev pub within : ℕ → ℤ → Bool
within limit z = leb (nat_abs z) limit

-- "whole coordinates of size at most 65,536"
abbrev pub point_within : (ℕ → ℤ) → Bool
point_within A = within grid_limit (A 0) && within grid_limit (A 1) && within grid_limit (A 2)

-- "whole normal entries of size at most 128 and whole distances of size at most 16,777,216"
abbrev pub plane_within : WholePlane → Bool
plane_within P = within normal_limit (P.normal 0) && within normal_limit (P.normal 1) && within normal_limit (P.normal 2) && within distance_limit P.distance

-- both ends and all planes
abbrev pub segment_on_grid : List WholePlane → (ℕ → ℤ) → (ℕ → ℤ) → Bool
segment_on_grid Ps A B = point_within A && point_within B && every plane_within Ps

-- ---- the call

-- "1 for an end of other than three numbers or a view below 25, then 12, then 1 for another view length, then 7 if an end coordinate, normal entry or distance is
-- outside its grid limit."
unfoldable pub whole_segment_call : List ℤ → List ℤ → List ℤ → Outcome Bool
unfolding every segment_in_view
whole_segment_call view p0 p1 =
    let n = count_of (number_at view 0) in
    let Ps = planes_of view n in
    unless (has point_length p0 && has point_length p1 && leb (view_length fewest_planes) (length view)) (refused 1)
    (unless (permitted n) (refused 12)
    (unless (has (view_length n) view) (refused 1)
    (unless (segment_on_grid Ps (point_of p0) (point_of p1)) (refused 7)
    (outcome (segment_in_view Ps (point_of p0) (point_of p1))))))
