-- The inverse of a matrix: its adjugate over its determinant. Definitions only.
use Rattle.std.specs.Prelude.{ℕ, ◌+◌, ◌%◌, Bool, true, false, not, cond, [], ◌∷◌, eqb, ltb, Float, None, Option, Some}
use Rattle.std.specs.Float.Ieee.{neg, lt}
use Rattle.number.specs.Answer.{unless}
use Rattle.number.specs.Arithmetic.{◌⊕◌, ◌⊖◌, ◌⊗◌, ◌⊘◌, abs_of}
use Rattle.number.specs.Slice.{at}
use Rattle.matrix.specs.declared.vec.Vec3d.{Vec3d}
use Rattle.matrix.specs.declared.vec.Vec4d.{Vec4d}
use Rattle.matrix.specs.declared.matrix.Mat4d.{Mat4d}
use Rattle.matrix.specs.Constants.{one, singular_determinant}
use Rattle.matrix.specs.Vec.{axis, vec4, dot4}
use Rattle.matrix.specs.Matrix.{entry, matrix}

-- ---- the determinant of three rows of three, e r c at row r and column c

-- x, and x + y; or with the sign turned, where s is true, -x, and x - y
abbrev pub turned : Bool → Float → Float
turned false x = x
turned true x = neg x

abbrev pub signed_sum : Bool → Float → Float → Float
signed_sum false x y = x ⊕ y
signed_sum true x y = x ⊖ y

-- Expanded down its first column, and added from left to right. Where s is true every sign is turned.
abbrev pub expanded : Bool → (ℕ → ℕ → Float) → Float
expanded s e =
    let t1 = turned s (e 0 0) ⊗ e 1 1 ⊗ e 2 2 in
    let t2 = signed_sum (not s) t1 (e 0 0 ⊗ e 1 2 ⊗ e 2 1) in
    let t3 = signed_sum (not s) t2 (e 1 0 ⊗ e 0 1 ⊗ e 2 2) in
    let t4 = signed_sum s t3 (e 1 0 ⊗ e 0 2 ⊗ e 2 1) in
    let t5 = signed_sum s t4 (e 2 0 ⊗ e 0 1 ⊗ e 1 2) in
    signed_sum (not s) t5 (e 2 0 ⊗ e 0 2 ⊗ e 1 1)

-- the numbers of three rows
abbrev pub three_rows : Vec3d → Vec3d → Vec3d → ℕ → ℕ → Float
three_rows a b c r k = at (axis a k ∷ axis b k ∷ axis c k ∷ []) r

-- ---- cofactors

-- the k-th of the numbers 0, 1, 2, .. without i
abbrev pub skipping : ℕ → ℕ → ℕ
skipping i k = cond (ltb k i) k (k + 1)

-- The cofactor of row i and column j, where e r c is row r of the three other columns: row i is left out of them, and the sign is turned where i + j is odd.
abbrev pub column_cofactor : ℕ → (ℕ → ℕ → Float) → ℕ → Float
column_cofactor j e i = expanded (eqb ((i + j) % 2) 1) (λ r c. e (skipping i r) c)

abbrev pub cofactor : Mat4d → ℕ → ℕ → Float
cofactor m i j = column_cofactor j (λ r c. entry m r (skipping j c)) i

-- of a whole column
abbrev pub cofactors : Mat4d → ℕ → Vec4d
cofactors m j = vec4 (λ i. cofactor m i j)

-- the cofactors, transposed
unfoldable pub adjugate : Mat4d → Mat4d
adjugate m = matrix (λ i j. cofactor m j i)

-- the first row times its cofactors
unfoldable pub determinant : Mat4d → Float
determinant m = dot4 (entry m 0) (cofactor m 0)

-- ---- the inverse

abbrev pub scaled : Mat4d → Float → Mat4d
scaled m k = matrix (λ i j. entry m i j ⊗ k)

-- "`inverse_above` accepts only if |det| > epsilon", so that "A NaN determinant is refused"; the adjugate is then multiplied by one rounded reciprocal
unfoldable pub over : Float → Float → Mat4d → Option Mat4d
over epsilon det adjugate = unless (lt epsilon (abs_of det)) None (Some (scaled adjugate (one ⊘ det)))

unfoldable pub inverse_above : Float → Mat4d → Option Mat4d
unfolding determinant adjugate over
inverse_above epsilon m = over epsilon (determinant m) (adjugate m)

-- there is one
abbrev pub has_inverse : Option Mat4d → Bool
has_inverse (Some m) = true
has_inverse None = false

-- "1e-12 for `inverse`"
abbrev pub inverse : Mat4d → Option Mat4d
inverse = inverse_above singular_determinant
