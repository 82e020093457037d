-- What the private functions are given and leave: records that are on the grid, numbers that are small enough to multiply, and points that the constraints
-- taken so far have in view. They serve the contracts of private functions; the verdict's definition does not speak of them. Definitions only.
-- The constraints of a box and a view are the six faces of the box, then the planes of the view.
use Rattle.std.specs.Prelude.{◌≡◌, true, cond, List, ℕ, zero, suc, ◌+◌, ◌-◌, ◌*◌, ◌^◌, ◌≤◌, ◌<◌, ltb, length, Option, MatchOption, ℤ, pos, neg_ℤ, nat_abs, ◌-ℤ◌, ◌*ℤ◌, ◌≤ℤ◌}
use Rattle.std.specs.Int.Signed.{lt_z}
use Rattle.number.specs.Limits.{range_length, most_planes}
use Rattle.whole.specs.Plane.{WholePlane, dotℤ}
use Rattle.whole.specs.SegmentCall.{number_at, plane_at, view_length, plane_within}
use Rattle.exact.specs.declared.vec.Vec3.{Vec3}
use Rattle.exact.specs.declared.plane.Plane.{Plane}
use Rattle.exact.specs.declared.plane.Point.{Point}
use Rattle.exact.specs.ExactPoint.{ExactPoint, Satisfies}
use Rattle.exact.specs.BBoxCall.{low_corner, high_corner}
use Rattle.exact.specs.Vertex.{determinant, vertex_at, signed_by}

-- ---- values of the code

abbrev pub Vec3i : Type 0
Vec3i = Vec3 ℤ

abbrev pub vec_of : Vec3i → ℕ → ℤ
vec_of v zero = v.x
vec_of v (suc zero) = v.y
vec_of v (suc (suc i)) = v.z

abbrev pub vec : (ℕ → ℤ) → Vec3i
vec f = record { x = f 0; y = f 1; z = f 2 }

abbrev pub plane_of : Plane → WholePlane
plane_of p = record { normal = vec_of p.normal; distance = p.distance }

abbrev pub plane : WholePlane → Plane
plane P = record { normal = vec P.normal; distance = P.distance }

-- how far in front of a plane a point lies, times its k
abbrev pub gap_at : WholePlane → Point → ℤ
gap_at P p = dotℤ P.normal (vec_of p.numbers) -ℤ p.k *ℤ P.distance

-- where three planes meet; its k is 0 where they do not
abbrev pub vertex_of : WholePlane → WholePlane → WholePlane → Point
vertex_of A B C = let D = determinant A B C in record { numbers = vec (λ j. signed_by D (vertex_at A B C j)); k = pos (nat_abs D) }

-- the point p, and none where its k is 0
abbrev pub Only : Point → Option Point → Type 0
Only p o = MatchOption o (p.k ≡ pos 0) (λ q. (q ≡ p) × (p.k ≡ pos 0 → ⊥))

-- ---- sizes: 64 bits carry every number

-- of three numbers
pub record Sized (b : ℕ) (v : Vec3i) : Type 0 where
  pub x : nat_abs v.x ≤ b
  pub y : nat_abs v.y ≤ b
  pub z : nat_abs v.z ≤ b

-- A minor of entries of at most 128 is at most 2 * 128 * 128 in size, and the determinant of three normals 3 * 128 times that.
abbrev pub largest_minor : ℕ
largest_minor = 2 ^ 15

abbrev pub largest_determinant : ℕ
largest_determinant = 3 * 2 ^ 22

-- A coordinate of a vertex is at most three minors times three distances of at most 2 ^ 24.
abbrev pub largest_coordinate : ℕ
largest_coordinate = 3 * 2 ^ 39

-- So a plane's distance from a vertex, times its k, is at most this in size.
abbrev pub largest_gap : ℕ
largest_gap = 3 * 2 ^ 48

pub record SmallPoint (p : Point) : Type 0 where
  pub numbers : Sized largest_coordinate p.numbers
  pub k : nat_abs p.k ≤ largest_determinant

-- The vertices of segment planes are small, and so every number that the verdict forms is below 2 ^ 50.
abbrev pub VerticesSmall : Type 0
VerticesSmall = (A B C : WholePlane) → plane_within A ≡ true → plane_within B ≡ true → plane_within C ≡ true → SmallPoint (vertex_of A B C)

abbrev pub GapsBelow : Type 0
GapsBelow = (P : WholePlane) (p : Point) → plane_within P ≡ true → SmallPoint p → nat_abs (gap_at P p) < 2 ^ 50

-- what a dot product multiplies: three numbers of at most a in size, and three of at most b
pub record Products (u v : Vec3i) : Type 0 where
  pub a : ℕ
  pub b : ℕ
  pub first : Sized a u
  pub second : Sized b v
  pub small : (a ≤ 2 ^ 50) × (b ≤ 2 ^ 50) × (a * b ≤ 2 ^ 50)

-- ---- the constraints

-- the direction along an axis
abbrev pub axis_direction : ℕ → ℕ → ℤ
axis_direction zero zero = pos 1
axis_direction zero (suc j) = pos 0
axis_direction (suc i) zero = pos 0
axis_direction (suc i) (suc j) = axis_direction i j

-- how many faces a box has
abbrev pub faces : ℕ
faces = 6

-- the coordinate i is at least the least, and the coordinate i - 3 at most the greatest
abbrev pub face_at : List ℤ → ℕ → WholePlane
face_at box i = cond (ltb i 3)
    (record { normal = axis_direction i; distance = number_at box i })
    (record { normal = λ j. neg_ℤ (axis_direction (i - 3) j); distance = neg_ℤ (number_at box i) })

abbrev pub constraint_at : List ℤ → List ℤ → ℕ → WholePlane
constraint_at view box i = cond (ltb i faces) (face_at box i) (plane_at view (i - faces))

-- the corner of a box that is farthest along a normal
abbrev pub farthest : List ℤ → (ℕ → ℤ) → ℕ → ℤ
farthest box n j = cond (lt_z (n j) (pos 0)) (low_corner box j) (high_corner box j)

-- a point of whole numbers, over 1
abbrev pub whole_point : (ℕ → ℤ) → Point
whole_point A = record { numbers = vec A; k = pos 1 }

-- the first n of them can be read, and are small
pub record Constraints (view box : List ℤ) (n : ℕ) : Type 0 where
  pub few : n ≤ faces + most_planes
  pub corners : length box ≡ range_length
  pub planes : view_length (n - faces) ≤ length view
  pub within : (i : ℕ) → i < n → plane_within (constraint_at view box i) ≡ true

-- some exact point satisfies the first n
pub record Shared (view box : List ℤ) (n : ℕ) : Type 0 where
  pub point : ExactPoint
  pub each : (i : ℕ) → i < n → Satisfies (constraint_at view box i) point

-- ---- points that are found

pub record Seen (view box : List ℤ) (n : ℕ) (p : Point) : Type 0 where
  pub each : (i : ℕ) → i < n → pos 0 ≤ℤ gap_at (constraint_at view box i) p

-- an exact point that satisfies the first n constraints
pub record Satisfying (view box : List ℤ) (n : ℕ) (p : Point) : Type 0 where
  pub k : ℕ
  pub is : p.k ≡ pos k
  pub some : 1 ≤ k
  pub small : SmallPoint p
  pub seen : Seen view box n p

-- the point p is one, and satisfies the first n
pub record Visible (view box : List ℤ) (n : ℕ) (p : Point) : Type 0 where
  pub single : p.k ≡ pos 0 → ⊥
  pub seen : Seen view box n p

-- the vertex of the constraint n and two before it is one, and satisfies all up to n
pub record Good (view box : List ℤ) (n b c : ℕ) : Type 0 where
  pub single : (vertex_of (constraint_at view box n) (constraint_at view box b) (constraint_at view box c)).k ≡ pos 0 → ⊥
  pub seen : Seen view box (n + 1) (vertex_of (constraint_at view box n) (constraint_at view box b) (constraint_at view box c))
