-- `Segment::is_in_view` meets its contract: its tests are those of the definition, in their order. Assumes nothing.
use Rattle.std.proofs.Common.{◌≡◌, ℕ, Bool, true, false, ◌&&◌, ◌||◌, eqb, List, sym, refl, ap, ◌∙◌, eq-eqb, ne_eqb}
use lib.Bits.{bit_or}
use lib.Ieee.{Float}
use Rattle.number.specs.Every.{every}
use Rattle.number.proofs.Tabulate.{as_many as plane_count_lem}
use Rattle.matrix.specs.Constants.{positive_zero, one}
use Rattle.matrix.specs.declared.vec.Vec3d.{Vec3d}
use Rattle.verdict.specs.declared.plane.Plane.{Plane}
use Rattle.verdict.specs.View.{plane_at, planes_of}
use Rattle.verdict.specs.Frustum.{point_in_view, has_end, span_left, segment_in_view}
use Rattle.verdict.specs.Steps.Passes.{sides_of, all_planes}
use Rattle.verdict.proofs.Sides.{some_end, end_inside}
use Rattle.verdict.proofs.gathered.Segment.is_in_view.Goals as goal

settled : (ps : List Plane) (a b : Vec3d) (x y w : Bool) → every (has_end a b) ps ≡ x → (point_in_view ps a || point_in_view ps b) ≡ y → w ≡ span_left ps a b positive_zero one
    → (x && (y || w)) ≡ segment_in_view ps a b
unfolding segment_in_view
settled ps a b x y w n m p = sym (λ t. n t && (m t || sym p t))

-- by the bits of the ends, compared with all bits
module _ (s : List Float) (c : ℕ) (a b : Vec3d) (all m n : ℕ) (k : all ≡ all_planes c) (u : m ≡ sides_of (planes_of s c) a) (v : n ≡ sides_of (planes_of s c) b) where
  some : every (has_end a b) (planes_of s c) ≡ eqb (bit_or m n) all
  some = some_end (planes_of s c) c (plane_count_lem (plane_at s) c) a b m n u v ∙ ap (λ (x : ℕ). eqb (bit_or m n) x) (sym k)

  one_inside : (point_in_view (planes_of s c) a || point_in_view (planes_of s c) b) ≡ (eqb m all || eqb n all)
  one_inside = end_inside (planes_of s c) c (plane_count_lem (plane_at s) c) a b m n u v ∙ ap (λ (x : ℕ). eqb m x || eqb n x) (sym k)

  by_bits : (x y w : Bool) → eqb (bit_or m n) all ≡ x → (eqb m all || eqb n all) ≡ y → w ≡ span_left (planes_of s c) a b positive_zero one
      → (x && (y || w)) ≡ segment_in_view (planes_of s c) a b
  by_bits x y w e f = settled (planes_of s c) a b x y w (some ∙ e) (one_inside ∙ f)

pub returns-then-self-all : goal.returns-then-self-all
returns-then-self-all c =
    let s = c.args.self in
    by_bits s.planes.numbers.now s.planes.count s.a.point s.b.point _ _ _ c.all_planes-all.ensures s.a_sides s.b_sides false _ _
    (ne_eqb _ _ c.if-self-all.true) refl refl

pub returns-then-self-all-2 : goal.returns-then-self-all-2
returns-then-self-all-2 c =
    let s = c.args.self in
    by_bits s.planes.numbers.now s.planes.count s.a.point s.b.point _ _ _ c.all_planes-all.ensures s.a_sides s.b_sides true true _
    (eq-eqb _ _ c.if-self-all.false) c.if-self-all-2.true refl

pub returns : goal.returns
returns c =
    let s = c.args.self in
    by_bits s.planes.numbers.now s.planes.count s.a.point s.b.point _ _ _ c.all_planes-all.ensures s.a_sides s.b_sides true false _
    (eq-eqb _ _ c.if-self-all.false) c.if-self-all-2.false c.is_left.ensures
