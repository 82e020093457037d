-- What a vertex that is tried shows, and what a search leaves that finds a point or none. Assumes nothing.
use mathlib.Core.Path.{◌≡◌, refl, sym, subst, ◌∙◌}
use mathlib.Core.Bool.{true}
use mathlib.Core.List.{List}
use Prim.Native.Nat.{ℕ, zero, suc, ◌+◌, ◌≤◌}
use native.Mathlib.Omega.{arith}
use lib.IntN.{ℤ, pos, nat_abs}
use Rattle.std.specs.Prelude.{Option, Some, None, MatchOption}
use Rattle.whole.specs.Plane.{WholePlane}
use Rattle.whole.specs.SegmentCall.{plane_within}
use Rattle.exact.specs.declared.plane.Plane.{Plane}
use Rattle.exact.specs.declared.plane.Point.{Point}
use Rattle.exact.specs.Vertex.{determinant}
use Rattle.exact.specs.Steps.{plane_of, plane, vertex_of, SmallPoint, constraint_at, Constraints, Satisfying, Visible, Good}

some : (m : ℕ) → (pos m ≡ pos 0 → ⊥) → 1 ≤ m
some zero n = absurd (n refl)
some (suc m) n = omega arith

-- ---- constraints as they were read
module _ {view box : List ℤ} {n : ℕ} (g : Constraints view box n) where
  pub read_within : (i : ℕ) → i + 1 ≤ n → (q : Plane) → q ≡ plane (constraint_at view box i) → plane_within (plane_of q) ≡ true
  read_within i l q e = subst (λ (q : Plane). plane_within (plane_of q) ≡ true) (sym e) (g.within i (omega arith))

-- the vertex of constraints as they were read
module _ (A B C : WholePlane) (a b c : Plane) (e : a ≡ plane A) (f : b ≡ plane B) (g : c ≡ plane C) where
  vertex_read : vertex_of (plane_of a) (plane_of b) (plane_of c) ≡ vertex_of A B C
  vertex_read = λ t. vertex_of (plane_of (e t)) (plane_of (f t)) (plane_of (g t))

-- ---- a vertex that is tried
module _ (view box : List ℤ) (n b c : ℕ) (p q r : Plane) (e : p ≡ plane (constraint_at view box n)) (f : q ≡ plane (constraint_at view box b)) (g : r ≡ plane (constraint_at view box c)) where
  abbrev A : WholePlane
  A = constraint_at view box n

  abbrev B : WholePlane
  B = constraint_at view box b

  abbrev C : WholePlane
  C = constraint_at view box c

  is_vertex : vertex_of (plane_of p) (plane_of q) (plane_of r) ≡ vertex_of A B C
  is_vertex = vertex_read A B C p q r e f g

  pub not_good : ¬ Visible view box (n + 1) (vertex_of (plane_of p) (plane_of q) (plane_of r)) → ¬ Good view box n b c
  not_good h s = h (subst (Visible view box (n + 1)) (sym is_vertex) (record { single = s.single; seen = s.seen }))

  pub found_good : (v : Point) → v ≡ vertex_of (plane_of p) (plane_of q) (plane_of r) → SmallPoint (vertex_of (plane_of p) (plane_of q) (plane_of r))
      → Visible view box (n + 1) (vertex_of (plane_of p) (plane_of q) (plane_of r)) → Satisfying view box (n + 1) v
  found_good v h s w = subst (Satisfying view box (n + 1)) (sym (h ∙ is_vertex)) (record {
    k = nat_abs (determinant A B C);
    is = refl;
    some = some (nat_abs (determinant A B C)) here.single;
    small = subst SmallPoint is_vertex s;
    seen = here.seen;
  })
    where
      here : Visible view box (n + 1) (vertex_of A B C)
      here = subst (Visible view box (n + 1)) is_vertex w

-- where no point is found, something else is known
pub none_else : {N N' : Type 0} (S : Point → Type 0) (o : Option Point) → (N → N') → MatchOption o N S → MatchOption o N' S
none_else S None f h = f h
none_else S (Some p) f h = h
