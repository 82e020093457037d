-- The point where three planes meet, by Cramer's rule in whole numbers. Definitions only.
use Rattle.std.specs.Prelude.{ℕ, zero, suc, ℤ, pos, negsuc, neg_ℤ, ◌+ℤ◌, ◌-ℤ◌, ◌*ℤ◌}
use Rattle.whole.specs.Plane.{WholePlane, dotℤ}

abbrev pub minor : (a b c d : ℤ) → ℤ
minor a b c d = a *ℤ d -ℤ b *ℤ c

-- the cross product, by axis
abbrev pub cross : (ℕ → ℤ) → (ℕ → ℤ) → ℕ → ℤ
cross p q zero = minor (p 1) (p 2) (q 1) (q 2)
cross p q (suc zero) = minor (p 2) (p 0) (q 2) (q 0)
cross p q (suc (suc i)) = minor (p 0) (p 1) (q 0) (q 1)

-- of the three normals; it is 0 where the planes do not meet in one point
abbrev pub determinant : WholePlane → WholePlane → WholePlane → ℤ
determinant A B C = dotℤ C.normal (cross A.normal B.normal)

-- the point where they meet, times their determinant
abbrev pub vertex_at : WholePlane → WholePlane → WholePlane → ℕ → ℤ
vertex_at A B C j =
    cross B.normal C.normal j *ℤ A.distance +ℤ cross C.normal A.normal j *ℤ B.distance +ℤ cross A.normal B.normal j *ℤ C.distance

-- z with the sign of D: what is over D is this over the size of D
abbrev pub signed_by : ℤ → ℤ → ℤ
signed_by (pos m) z = z
signed_by (negsuc m) z = neg_ℤ z
