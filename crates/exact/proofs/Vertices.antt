-- The vertex of three planes as the machine computes it: of segment planes every number on the way is small. Assumes nothing.
use mathlib.Core.Path.{◌≡◌, refl, sym, ap, subst, ◌∙◌}
use mathlib.Core.Bool.{true}
use Prim.Native.Nat.{ℕ, ◌+◌, ◌*◌, ◌≤◌}
use native.Mathlib.Nat.{le_trans}
use lib.Dec.{lit≤}
use lib.IntN.{ℤ, pos, negsuc, nat_abs, ◌+ℤ◌, ◌*ℤ◌}
use Rattle.std.specs.Prelude.{Option}
use Rattle.number.specs.Limits.{normal_limit, distance_limit}
use Rattle.whole.specs.Plane.{WholePlane, dotℤ}
use Rattle.whole.specs.SegmentCall.{plane_within}
use Rattle.whole.proofs.Integer.{abs_neg}
use Rattle.whole.proofs.Limits.{plane_sizes}
use Rattle.whole.proofs.Registers.{Held}
use Rattle.exact.specs.declared.plane.Plane.{Plane}
use Rattle.exact.specs.declared.plane.Point.{Point}
use Rattle.exact.specs.Vertex.{cross, determinant, vertex_at, signed_by}
use Rattle.exact.specs.Steps.{Vec3i, vec_of, vec, plane_of, plane, vertex_of, Only, Sized, largest_minor, largest_determinant, largest_coordinate, SmallPoint, VerticesSmall, Products}
use Rattle.exact.proofs.Machine.{R, known, again, plane_sized, dot_size, cross_sized}

abbrev pub three : ℤ → ℤ → ℤ → Vec3i
three x y z = record { x = x; y = y; z = z }

module _ (a b c : Plane) (α : plane_within (plane_of a) ≡ true) (β : plane_within (plane_of b) ≡ true) (γ : plane_within (plane_of c) ≡ true) where
  abbrev A : WholePlane
  A = plane_of a

  abbrev B : WholePlane
  B = plane_of b

  abbrev C : WholePlane
  C = plane_of c

  -- the three cross products
  abbrev BC : Vec3i
  BC = vec (cross (vec_of b.normal) (vec_of c.normal))

  abbrev CA : Vec3i
  CA = vec (cross (vec_of c.normal) (vec_of a.normal))

  abbrev AB : Vec3i
  AB = vec (cross (vec_of a.normal) (vec_of b.normal))

  bc_sized : Sized largest_minor BC
  bc_sized = cross_sized b.normal c.normal (plane_sized b β) (plane_sized c γ)

  ca_sized : Sized largest_minor CA
  ca_sized = cross_sized c.normal a.normal (plane_sized c γ) (plane_sized a α)

  ab_sized : Sized largest_minor AB
  ab_sized = cross_sized a.normal b.normal (plane_sized a α) (plane_sized b β)

  -- ---- the determinant
  abbrev products : Products c.normal AB
  products = record { a = normal_limit; b = largest_minor; first = plane_sized c γ; second = ab_sized; small = (lit≤ tt, lit≤ tt, lit≤ tt) }

  determinant_held : (ab : Vec3i) → ab ≡ AB → (r : ℤ) → r ≡ dotℤ (vec_of c.normal) (vec_of ab) → Held (R r) (determinant A B C) largest_determinant
  determinant_held ab e r g = again (lit≤ tt) (record {
    is = g ∙ ap (λ (v : Vec3i). dotℤ (vec_of c.normal) (vec_of v)) e;
    size = le_trans (dot_size products) (lit≤ {m = normal_limit * largest_minor + normal_limit * largest_minor + normal_limit * largest_minor} {n = largest_determinant} tt);
  })

  pub determinant_products : (ab : Vec3i) → ab ≡ AB → Products c.normal ab
  determinant_products ab e = subst (λ (v : Vec3i). Products c.normal v) (sym e) products

  -- ---- a coordinate: three minors times the distances
  distances : Sized distance_limit (three a.distance b.distance c.distance)
  distances = record { x = (plane_sizes A α).3; y = (plane_sizes B β).3; z = (plane_sizes C γ).3 }

  module _ (x y z x' y' z' : ℤ) (X : nat_abs x ≤ largest_minor) (Y : nat_abs y ≤ largest_minor) (Z : nat_abs z ≤ largest_minor) (e : x' ≡ x) (f : y' ≡ y) (g : z' ≡ z) where
    minors : Sized largest_minor (three x y z)
    minors = record { x = X; y = Y; z = Z }

    abbrev row : Products (three x y z) (three a.distance b.distance c.distance)
    row = record { a = largest_minor; b = distance_limit; first = minors; second = distances; small = (lit≤ tt, lit≤ tt, lit≤ tt) }

    -- as the numbers are read
    rows : three (R x') (R y') (R z') ≡ three x y z
    rows = λ t. three (get x' x e X t) (get y' y f Y t) (get z' z g Z t)
      where
        get : (w z : ℤ) → w ≡ z → nat_abs z ≤ largest_minor → R w ≡ z
        get w z e h = (again (lit≤ tt) (record { is = e; size = h })).is

    reads : three (R a.distance) (R b.distance) (R c.distance) ≡ three a.distance b.distance c.distance
    reads =
        let get : (z : ℤ) → nat_abs z ≤ distance_limit → R z ≡ z = λ z h. (known (lit≤ tt) z h).is in
        λ t. three (get a.distance distances.x t) (get b.distance distances.y t) (get c.distance distances.z t)

    pub row_products : Products (three (R x') (R y') (R z')) (three (R a.distance) (R b.distance) (R c.distance))
    row_products = subst (λ (v : Vec3i). Products v (three (R a.distance) (R b.distance) (R c.distance))) (sym rows)
        (subst (λ (v : Vec3i). Products (three x y z) v) (sym reads) row)

    pub row_held : (r : ℤ) → r ≡ dotℤ (vec_of (three (R x') (R y') (R z'))) (vec_of (three (R a.distance) (R b.distance) (R c.distance)))
        → Held (R r) (x *ℤ a.distance +ℤ y *ℤ b.distance +ℤ z *ℤ c.distance) largest_coordinate
    row_held r h = again (lit≤ tt) (record {
      is = h ∙ (λ t. dotℤ (vec_of (rows t)) (vec_of (reads t)));
      size = le_trans (dot_size row) (lit≤ {m = largest_minor * distance_limit + largest_minor * distance_limit + largest_minor * distance_limit} {n = largest_coordinate} tt);
    })

  -- ---- with the cross products as they were computed
  module _ (bc ca ab : Vec3i) (e : bc ≡ BC) (f : ca ≡ CA) (g : ab ≡ AB) where
    pub products_x : Products (three (R bc.x) (R ca.x) (R ab.x)) (three (R a.distance) (R b.distance) (R c.distance))
    products_x = row_products BC.x CA.x AB.x bc.x ca.x ab.x bc_sized.x ca_sized.x ab_sized.x (λ t. (e t).x) (λ t. (f t).x) (λ t. (g t).x)

    pub products_y : Products (three (R bc.y) (R ca.y) (R ab.y)) (three (R a.distance) (R b.distance) (R c.distance))
    products_y = row_products BC.y CA.y AB.y bc.y ca.y ab.y bc_sized.y ca_sized.y ab_sized.y (λ t. (e t).y) (λ t. (f t).y) (λ t. (g t).y)

    pub products_z : Products (three (R bc.z) (R ca.z) (R ab.z)) (three (R a.distance) (R b.distance) (R c.distance))
    products_z = row_products BC.z CA.z AB.z bc.z ca.z ab.z bc_sized.z ca_sized.z ab_sized.z (λ t. (e t).z) (λ t. (f t).z) (λ t. (g t).z)

    abbrev dist : Vec3i
    dist = three (R a.distance) (R b.distance) (R c.distance)

    module _ (k x y z : ℤ) (p : k ≡ dotℤ (vec_of c.normal) (vec_of ab))
        (q : x ≡ dotℤ (vec_of (three (R bc.x) (R ca.x) (R ab.x))) (vec_of dist))
        (r : y ≡ dotℤ (vec_of (three (R bc.y) (R ca.y) (R ab.y))) (vec_of dist))
        (s : z ≡ dotℤ (vec_of (three (R bc.z) (R ca.z) (R ab.z))) (vec_of dist)) where
      K : Held (R k) (determinant A B C) largest_determinant
      K = determinant_held ab g k p

      X : Held (R x) (vertex_at A B C 0) largest_coordinate
      X = row_held BC.x CA.x AB.x bc.x ca.x ab.x bc_sized.x ca_sized.x ab_sized.x (λ t. (e t).x) (λ t. (f t).x) (λ t. (g t).x) x q

      Y : Held (R y) (vertex_at A B C 1) largest_coordinate
      Y = row_held BC.y CA.y AB.y bc.y ca.y ab.y bc_sized.y ca_sized.y ab_sized.y (λ t. (e t).y) (λ t. (f t).y) (λ t. (g t).y) y r

      Z : Held (R z) (vertex_at A B C 2) largest_coordinate
      Z = row_held BC.z CA.z AB.z bc.z ca.z ab.z bc_sized.z ca_sized.z ab_sized.z (λ t. (e t).z) (λ t. (f t).z) (λ t. (g t).z) z s

      sized : {u z : ℤ} {b : ℕ} → Held u z b → nat_abs u ≤ b
      sized {b = b} h = subst (λ (w : ℤ). nat_abs w ≤ b) (sym h.is) h.size

      pub over_given : Sized largest_coordinate (three (R x) (R y) (R z)) × (nat_abs (R k) ≤ largest_determinant)
      over_given = (record { x = sized X; y = sized Y; z = sized Z }, sized K)

      pub vertex_only : (o : Option Point) → Only (record { numbers = vec (λ j. signed_by (R k) (vec_of (three (R x) (R y) (R z)) j)); k = pos (nat_abs (R k)) }) o → Only (vertex_of A B C) o
      vertex_only o = subst (λ (p : Point). Only p o) (λ t. record {
        numbers = three (signed_by (K.is t) (X.is t)) (signed_by (K.is t) (Y.is t)) (signed_by (K.is t) (Z.is t));
        k = pos (nat_abs (K.is t));
      })

  -- ---- the vertex is small
  signed_size : (D z : ℤ) → nat_abs (signed_by D z) ≡ nat_abs z
  signed_size (pos m) z = refl
  signed_size (negsuc m) z = abs_neg z

  coordinate : (x y z : ℤ) → nat_abs x ≤ largest_minor → nat_abs y ≤ largest_minor → nat_abs z ≤ largest_minor
      → nat_abs (signed_by (determinant A B C) (x *ℤ a.distance +ℤ y *ℤ b.distance +ℤ z *ℤ c.distance)) ≤ largest_coordinate
  coordinate x y z X Y Z = subst (λ (n : ℕ). n ≤ largest_coordinate) (sym (signed_size (determinant A B C) (x *ℤ a.distance +ℤ y *ℤ b.distance +ℤ z *ℤ c.distance)))
      (le_trans (dot_size (row x y z x y z X Y Z refl refl refl)) (lit≤ {m = largest_minor * distance_limit + largest_minor * distance_limit + largest_minor * distance_limit} {n = largest_coordinate} tt))

  pub vertex_small : SmallPoint (vertex_of A B C)
  vertex_small = record {
    numbers = record {
      x = coordinate BC.x CA.x AB.x bc_sized.x ca_sized.x ab_sized.x;
      y = coordinate BC.y CA.y AB.y bc_sized.y ca_sized.y ab_sized.y;
      z = coordinate BC.z CA.z AB.z bc_sized.z ca_sized.z ab_sized.z;
    };
    k = (determinant_held AB refl (determinant A B C) refl).size;
  }

pub vertices_small : VerticesSmall
vertices_small A B C = vertex_small (plane A) (plane B) (plane C)
