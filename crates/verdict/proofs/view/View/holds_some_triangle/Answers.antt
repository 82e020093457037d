-- `View::holds_some_triangle` meets its contract: its tests are those of the definition, in their order. Assumes nothing.
use Rattle.std.proofs.Common.{◌≡◌, ℕ, ◌≤◌, Bool, true, false, cond, ◌&&◌, ◌||◌, eqb, List, take, sym, refl, ap, ap₂, ◌∙◌, eq-eqb, ne_eqb}
use lib.Bits.{bit_and, bit_or}
use lib.Ieee.{Float}
use Rattle.number.specs.Limits.{fewest_planes}
use Rattle.number.specs.Every.{every}
use Rattle.number.proofs.Tabulate.{as_many as plane_count_lem, first as first_planes}
use Rattle.matrix.specs.Constants.{positive_zero, one}
use Rattle.matrix.specs.declared.vec.Vec3d.{Vec3d}
use Rattle.verdict.specs.declared.plane.Plane.{Plane}
use Rattle.verdict.specs.declared.ray.Ray.{Ray}
use Rattle.verdict.specs.View.{ray_count, plane_at, planes_of, rays_of}
use Rattle.verdict.specs.Frustum.{point_in_view, has_end, span_left, segment_in_view, has_corner, has_corners, some_hit, sight_lines, triangle_in_view}
use Rattle.verdict.specs.Steps.Passes.{sides_of, all_planes, side_left, near_and_far_in}
use Rattle.verdict.proofs.Sides.{some_corner, corner_inside, all_corners, near_and_far_lem}
use Rattle.verdict.proofs.view.View.holds_some_triangle.Goals as goal

-- where no corner is inside, a side is in view if something of it is left
outside : (a b c e f g u v w h : Bool)
    → (a || b || c || e && u || f && v || g && w || h) ≡ (a || b || c || e && (a || b || u) || f && (b || c || v) || g && (c || a || w) || h)
outside true b c e f g u v w h = refl
outside false true c e f g u v w h = refl
outside false false true e f g u v w h = refl
outside false false false e f g u v w h = refl

module _ (s : List Float) (count : ℕ) (h : fewest_planes ≤ count) (a b c : Vec3d) (m n o : ℕ) where
  abbrev ps : List Plane
  ps = planes_of s fewest_planes

  abbrev rs : List Ray
  rs = rays_of s count

  -- the verdict by the original planes
  abbrev by : List Plane → Bool
  by os =
      every (has_corner a b c) os
      && (point_in_view os a || point_in_view os b || point_in_view os c
      || segment_in_view os a b || segment_in_view os b c || segment_in_view os c a
      || some_hit (sight_lines os rs a b c) a b c)

  is : by ps ≡ triangle_in_view (planes_of s count) rs a b c
  unfolding triangle_in_view
  is = ap by (sym (first_planes (plane_at s) count fewest_planes h))

  module _ (u : m ≡ sides_of ps a) (v : n ≡ sides_of ps b) (w : o ≡ sides_of ps c) where
    settled : (x y z₀ z₁ z₂ h : Bool) → eqb (bit_or (bit_or m n) o) (all_planes fewest_planes) ≡ x → (eqb m (all_planes fewest_planes) || eqb n (all_planes fewest_planes) || eqb o (all_planes fewest_planes)) ≡ y
        → z₀ ≡ side_left ps a b → z₁ ≡ side_left ps b c → z₂ ≡ side_left ps c a → h ≡ some_hit (sight_lines ps rs a b c) a b c
        → (x && (y || z₀ || z₁ || z₂ || h)) ≡ triangle_in_view (planes_of s count) rs a b c
    unfolding segment_in_view
    settled x y z₀ z₁ z₂ h p q e f g l =
        let i = sym (some_corner ps fewest_planes (plane_count_lem (plane_at s) fewest_planes) a b m n u v c o w ∙ p) in
        let j = sym (corner_inside ps fewest_planes (plane_count_lem (plane_at s) fewest_planes) a b m n u v c o w ∙ q) in
        let left : Vec3d → Vec3d → Bool = λ x y. span_left ps x y positive_zero one in
        (λ t. i t && (j t || e t || f t || g t || l t))
        ∙ ap (λ (z : Bool). every (has_corner a b c) ps && z)
        (outside (point_in_view ps a) (point_in_view ps b) (point_in_view ps c)
        (every (has_end a b) ps) (every (has_end b c) ps) (every (has_end c a) ps) (left a b) (left b c) (left c a)
        (some_hit (sight_lines ps rs a b c) a b c))
        ∙ is

    tried : (k : ℕ) → k ≡ cond (near_and_far_in (bit_and (bit_and m n) o)) 1 ray_count → some_hit (take k rs) a b c ≡ some_hit (sight_lines ps rs a b c) a b c
    tried k e =
        let f = near_and_far_lem (plane_at s) (has_corners a b c) (bit_and (bit_and m n) o) (all_corners ps fewest_planes (plane_count_lem (plane_at s) fewest_planes) a b m n u v c o w) in
        ap (λ (j : ℕ). some_hit (take j rs) a b c) (e ∙ sym (ap (λ (z : Bool). cond z 1 ray_count) f))

-- the sides of a point, and what of a side is left, by the original planes
seen : {k l : List Float} {n m : ℕ} (x : Vec3d) → (k ≡ l) × (n ≡ fewest_planes) → m ≡ sides_of (planes_of k n) x → m ≡ sides_of (planes_of l fewest_planes) x
seen x o e = e ∙ ap₂ (λ (r : List Float) (j : ℕ). sides_of (planes_of r j) x) o.0 o.1

left_of : {k l : List Float} {n : ℕ} {x y p q : Vec3d} (z : Bool) → (k ≡ l) × (n ≡ fewest_planes) → p ≡ x → q ≡ y → z ≡ side_left (planes_of k n) p q → z ≡ side_left (planes_of l fewest_planes) x y
left_of z o e f g = rw (← o.0, ← o.1, ← e, ← f) g

pub returns-then-end0-end1-ne-ORIGINAL_PLANES : goal.returns-then-end0-end1-ne-ORIGINAL_PLANES
returns-then-end0-end1-ne-ORIGINAL_PLANES c =
    let a = c.args in
    let v = a.self in
    let o = c.original-planes.ensures in
    let u0 = seen _ o c.end-end0.ensures.1 in
    let u1 = seen _ o c.end-end1.ensures.1 in
    let u2 = seen _ o c.end-end2.ensures.1 in
    settled v.planes.numbers.now v.planes.count v.fewest a.p0 a.p1 a.p2 _ _ _ u0 u1 u2
    false _ _ _ _ _ (ne_eqb _ _ c.if-end0-end1-ne-ORIGINAL_PLANES.true) refl refl refl refl refl

pub returns-then-end0-end1 : goal.returns-then-end0-end1
returns-then-end0-end1 c =
    let a = c.args in
    let v = a.self in
    let o = c.original-planes.ensures in
    let u0 = seen _ o c.end-end0.ensures.1 in
    let u1 = seen _ o c.end-end1.ensures.1 in
    let u2 = seen _ o c.end-end2.ensures.1 in
    settled v.planes.numbers.now v.planes.count v.fewest a.p0 a.p1 a.p2 _ _ _ u0 u1 u2
    true true _ _ _ _ (eq-eqb _ _ c.if-end0-end1-ne-ORIGINAL_PLANES.false) c.if-end0-end1.true refl refl refl refl

pub returns-then-crosses_view : goal.returns-then-crosses_view
returns-then-crosses_view c =
    let a = c.args in
    let v = a.self in
    let o = c.original-planes.ensures in
    let u0 = seen _ o c.end-end0.ensures.1 in
    let u1 = seen _ o c.end-end1.ensures.1 in
    let u2 = seen _ o c.end-end2.ensures.1 in
    settled v.planes.numbers.now v.planes.count v.fewest a.p0 a.p1 a.p2 _ _ _ u0 u1 u2
    true false true _ _ _ (eq-eqb _ _ c.if-end0-end1-ne-ORIGINAL_PLANES.false) c.if-end0-end1.false (sym c.if-crosses_view.true ∙ left_of _ o c.end-end0.ensures.0 c.end-end1.ensures.0 c.crosses_view.ensures) refl refl refl

pub returns-then-crosses_view-2 : goal.returns-then-crosses_view-2
returns-then-crosses_view-2 c =
    let a = c.args in
    let v = a.self in
    let o = c.original-planes.ensures in
    let u0 = seen _ o c.end-end0.ensures.1 in
    let u1 = seen _ o c.end-end1.ensures.1 in
    let u2 = seen _ o c.end-end2.ensures.1 in
    settled v.planes.numbers.now v.planes.count v.fewest a.p0 a.p1 a.p2 _ _ _ u0 u1 u2
    true false false true _ _ (eq-eqb _ _ c.if-end0-end1-ne-ORIGINAL_PLANES.false) c.if-end0-end1.false (sym c.if-crosses_view.false ∙ left_of _ o c.end-end0.ensures.0 c.end-end1.ensures.0 c.crosses_view.ensures) (sym c.if-crosses_view-2.true ∙ left_of _ o c.end-end1.ensures.0 c.end-end2.ensures.0 c.crosses_view-2.ensures) refl refl

pub returns-then-crosses_view-3 : goal.returns-then-crosses_view-3
returns-then-crosses_view-3 c =
    let a = c.args in
    let v = a.self in
    let o = c.original-planes.ensures in
    let u0 = seen _ o c.end-end0.ensures.1 in
    let u1 = seen _ o c.end-end1.ensures.1 in
    let u2 = seen _ o c.end-end2.ensures.1 in
    settled v.planes.numbers.now v.planes.count v.fewest a.p0 a.p1 a.p2 _ _ _ u0 u1 u2
    true false false false true _ (eq-eqb _ _ c.if-end0-end1-ne-ORIGINAL_PLANES.false) c.if-end0-end1.false (sym c.if-crosses_view.false ∙ left_of _ o c.end-end0.ensures.0 c.end-end1.ensures.0 c.crosses_view.ensures) (sym c.if-crosses_view-2.false ∙ left_of _ o c.end-end1.ensures.0 c.end-end2.ensures.0 c.crosses_view-2.ensures)
    (sym c.if-crosses_view-3.true ∙ left_of _ o c.end-end2.ensures.0 c.end-end0.ensures.0 c.crosses_view-3.ensures) refl

pub returns : goal.returns
returns c =
    let a = c.args in
    let v = a.self in
    let o = c.original-planes.ensures in
    let u0 = seen _ o c.end-end0.ensures.1 in
    let u1 = seen _ o c.end-end1.ensures.1 in
    let u2 = seen _ o c.end-end2.ensures.1 in
    settled v.planes.numbers.now v.planes.count v.fewest a.p0 a.p1 a.p2 _ _ _ u0 u1 u2
    true false false false false _ (eq-eqb _ _ c.if-end0-end1-ne-ORIGINAL_PLANES.false) c.if-end0-end1.false (sym c.if-crosses_view.false ∙ left_of _ o c.end-end0.ensures.0 c.end-end1.ensures.0 c.crosses_view.ensures) (sym c.if-crosses_view-2.false ∙ left_of _ o c.end-end1.ensures.0 c.end-end2.ensures.0 c.crosses_view-2.ensures)
    (sym c.if-crosses_view-3.false ∙ left_of _ o c.end-end2.ensures.0 c.end-end0.ensures.0 c.crosses_view-3.ensures)
    (c.line_meets.ensures ∙ tried v.planes.numbers.now v.planes.count v.fewest a.p0 a.p1 a.p2 _ _ _ u0 u1 u2 _ c.sight_lines.ensures.0)
