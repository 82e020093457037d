-- Two vectors, ranges, matrices or sums are equal where their parts are, and so are two places of a slice. Assumes nothing.
use mathlib.Core.Path.{◌≡◌, ap}
use mathlib.Core.List.{List}
use Prim.Native.Nat.{ℕ, ◌+◌}
use native.Mathlib.Omega.{arith}
use lib.Ieee.{Float}
use Rattle.number.specs.Arithmetic.{◌⊕◌}
use Rattle.number.specs.Slice.{at}
use Rattle.matrix.specs.declared.vec.Vec3d.{Vec3d}
use Rattle.matrix.specs.declared.vec.Vec4d.{Vec4d}
use Rattle.matrix.specs.declared.matrix.Mat4d.{Mat4d}
use Rattle.matrix.specs.Range.{range}

abbrev xyz : Float → Float → Float → Vec3d
xyz x y z = record { x = x; y = y; z = z }

abbrev pub xyzw : Float → Float → Float → Float → Vec4d
xyzw x y z w = record { x = x; y = y; z = z; w = w }

pub same_vec3 : {x x' y y' z z' : Float} → x ≡ x' → y ≡ y' → z ≡ z' → xyz x y z ≡ xyz x' y' z'
same_vec3 p q r = cc

pub same_vec4 : {x x' y y' z z' w w' : Float} → x ≡ x' → y ≡ y' → z ≡ z' → w ≡ w' → xyzw x y z w ≡ xyzw x' y' z' w'
same_vec4 p q r s = cc

abbrev pub rows : Vec4d → Vec4d → Vec4d → Vec4d → Mat4d
rows a b c d = record { r0 = a; r1 = b; r2 = c; r3 = d }

pub same_matrix : {a a' b b' c c' d d' : Vec4d} → a ≡ a' → b ≡ b' → c ≡ c' → d ≡ d' → rows a b c d ≡ rows a' b' c' d'
same_matrix p q r s = cc

pub same_range : {a a' b b' : Vec3d} → a ≡ a' → b ≡ b' → range a b ≡ range a' b'
same_range p q = cc

pub same_sum : (s : Float) {a a' b b' c c' : Float} → a ≡ a' → b ≡ b' → c ≡ c' → s ⊕ a ⊕ b ⊕ c ≡ s ⊕ a' ⊕ b' ⊕ c'
same_sum s p q r = cc

pub first : (s : List Float) (n : ℕ) → at s n ≡ at s (n + 0)
first s n = let e : n ≡ n + 0 = omega arith in ap (λ (k : ℕ). at s k) e
