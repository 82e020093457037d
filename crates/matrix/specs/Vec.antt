-- Row vectors of three numbers, and of four where a point is homogeneous, as Gf's documentation has them. Definitions only.
use Rattle.std.specs.Prelude.{ℕ, List, [], ◌∷◌, Float}
use Rattle.std.specs.Float.{binary64}
use Rattle.number.specs.Arithmetic.{◌⊕◌, ◌⊖◌, ◌⊗◌, ◌⊘◌, min_of, max_of}
use Rattle.number.specs.Root.{sqrt_of}
use Rattle.number.specs.Slice.{at}
use Rattle.matrix.specs.declared.vec.Vec3d.{Vec3d}
use Rattle.matrix.specs.declared.vec.Vec4d.{Vec4d}
use Rattle.matrix.specs.Constants.{one, min_length}

-- ---- the numbers of a vector, in the order of its record

abbrev pub coordinates : Vec3d → List Float
coordinates v = v.x ∷ v.y ∷ v.z ∷ []

abbrev pub coordinates4 : Vec4d → List Float
coordinates4 v = v.x ∷ v.y ∷ v.z ∷ v.w ∷ []

-- along the axis i: x, y and z are 0, 1 and 2
abbrev pub axis : Vec3d → ℕ → Float
axis v i = at (coordinates v) i

abbrev pub axis4 : Vec4d → ℕ → Float
axis4 v i = at (coordinates4 v) i

-- the vector with f i along the axis i
abbrev pub vec3 : (ℕ → Float) → Vec3d
vec3 f = record { x = f 0; y = f 1; z = f 2 }

abbrev pub vec4 : (ℕ → Float) → Vec4d
vec4 f = record { x = f 0; y = f 1; z = f 2; w = f 3 }

-- "Point 3 numbers; homogeneous point 4"
abbrev pub vec3_of : List Float → Vec3d
vec3_of s = vec3 (at s)

abbrev pub vec4_of : List Float → Vec4d
vec4_of s = vec4 (at s)

-- ---- along each axis by itself

abbrev pub each_axis : (Float → Float → Float) → Vec3d → Vec3d → Vec3d
each_axis f u v = vec3 (λ i. f (axis u i) (axis v i))

abbrev pub sum : Vec3d → Vec3d → Vec3d
sum = each_axis ◌⊕◌

abbrev pub difference : Vec3d → Vec3d → Vec3d
difference = each_axis ◌⊖◌

abbrev pub least : Vec3d → Vec3d → Vec3d
least = each_axis min_of

abbrev pub greatest : Vec3d → Vec3d → Vec3d
greatest = each_axis max_of

abbrev pub multiple : Vec3d → Float → Vec3d
multiple v k = vec3 (λ i. axis v i ⊗ k)

abbrev pub multiple4 : Vec4d → Float → Vec4d
multiple4 v k = vec4 (λ i. axis4 v i ⊗ k)

-- ---- products

abbrev pub dot : Vec3d → Vec3d → Float
dot u v = u.x ⊗ v.x ⊕ u.y ⊗ v.y ⊕ u.z ⊗ v.z

abbrev pub dot4 : (ℕ → Float) → (ℕ → Float) → Float
dot4 f g = f 0 ⊗ g 0 ⊕ f 1 ⊗ g 1 ⊕ f 2 ⊗ g 2 ⊕ f 3 ⊗ g 3

abbrev pub cross : Vec3d → Vec3d → Vec3d
cross u v = record {
  x = u.y ⊗ v.z ⊖ u.z ⊗ v.y;
  y = u.z ⊗ v.x ⊖ u.x ⊗ v.z;
  z = u.x ⊗ v.y ⊖ u.y ⊗ v.x;
}

-- ---- length

unfoldable pub length_of : Vec3d → Float
length_of v = sqrt_of binary64 (dot v v)

-- a vector of that length, scaled to length 1
abbrev pub unit : Vec3d → Float → Vec3d
unit v length = multiple v (one ⊘ max_of length min_length)

-- "`normalize` multiplies by 1 divided by the larger of length and 1e-10. Length zero or NaN therefore uses 1e-10"
unfoldable pub normalized : Vec3d → Vec3d
unfolding length_of
normalized v = unit v (length_of v)
