-- What is claimed of planes held side by side, in rows: they are the planes of the record, and nothing else in the rows matters. Statements only.
use Rattle.std.specs.Prelude.{◌≡◌, ℕ, ◌<◌, ◌≤◌, List, length, Float}
use Rattle.number.specs.Limits.{plane_length, most_planes}
use Rattle.number.specs.Slice.{at}
use Rattle.matrix.specs.declared.vec.Vec3d.{Vec3d}
use Rattle.verdict.specs.declared.plane.Plane.{Plane}
use Rattle.verdict.specs.declared.ray.Ray.{Ray}
use Rattle.verdict.specs.declared.bbox.BBox3d.{BBox3d}
use Rattle.verdict.specs.View.{plane_at, planes_of}
use Rattle.verdict.specs.Rows.{rows_length, row_place, InRows, with_planes, plane_in_rows, planes_in_rows}
use Rattle.verdict.specs.Frustum.{point_in_view, segment_in_view, triangle_in_view, box_in_view}

-- What a record of n planes leaves in rows: each number of these in its place, and in every place behind them what it held.
abbrev pub EveryPlace : Type 0
EveryPlace = (v l : List Float) (n : ℕ) → length l ≡ rows_length → n ≤ most_planes
    → InRows v n (with_planes v n l) × ((i j : ℕ) → n ≤ i → i < most_planes → at (with_planes v n l) (row_place j i) ≡ at l (row_place j i))

-- "Prove that each plane read from the new layout equals the old one"
abbrev pub PlanesEqual : Type 0
PlanesEqual = (v l : List Float) (n i : ℕ) → InRows v n l → i < n → plane_in_rows l i ≡ plane_at v i

-- two lists of planes give one answer to every verdict
pub record SameVerdicts (ps qs : List Plane) : Type 0 where
  pub point : (p : Vec3d) → point_in_view ps p ≡ point_in_view qs p
  pub segment : (a b : Vec3d) → segment_in_view ps a b ≡ segment_in_view qs a b
  pub triangle : (rs : List Ray) (a b c : Vec3d) → triangle_in_view ps rs a b c ≡ triangle_in_view qs rs a b c
  pub box : (b : BBox3d) → box_in_view ps b ≡ box_in_view qs b

-- "and that every point, segment, triangle and box verdict agrees"
abbrev pub VerdictsAgree : Type 0
VerdictsAgree = (v l : List Float) (n : ℕ) → InRows v n l → SameVerdicts (planes_in_rows l n) (planes_of v n)

-- "Places beyond a volume's own count never affect a result": rows that agree on those of n planes give one answer, whatever else they hold, NaN included.
abbrev pub BeyondUnread : Type 0
BeyondUnread = (l k : List Float) (n : ℕ) → ((i j : ℕ) → i < n → j < plane_length → at l (row_place j i) ≡ at k (row_place j i)) → SameVerdicts (planes_in_rows l n) (planes_in_rows k n)
