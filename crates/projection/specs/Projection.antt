-- Projections, as Gf's documentation has them: a kind and the six numbers of a volume, the matrix that is built from these, and these recovered from a matrix.
-- The order of operations is that of projection.rs. Definitions only.
-- A number is a value of binary64, NaN and infinities among them, and each operation on them rounds; nothing is assumed of a matrix or of a volume.
-- The eye is at 0,0,0, and z falls along its view. Four of the six numbers are edges of a window, which in perspective is 1 away from the eye; the others say
-- how far away the volume begins and ends.
use Rattle.std.specs.Prelude.{ℕ, Bool, cond, ◌&&◌, List, [], ◌∷◌, Float, None, Option, Some}
use Rattle.std.specs.Float.Ieee.{lt, le, eq, neg}
use Rattle.std.specs.Float.Ieee.Scale.{finite}
use Rattle.number.specs.Limits.{matrix_length}
use Rattle.number.specs.Answer.{Outcome, refused, outcome, unless, has}
use Rattle.number.specs.Arithmetic.{◌⊕◌, ◌⊖◌, ◌⊗◌, ◌⊘◌, abs_of, max_of}
use Rattle.number.specs.Every.{every_below}
use Rattle.number.specs.Slice.{at}
use Rattle.matrix.specs.Constants.{rounded, positive_zero, half, one}
use Rattle.matrix.specs.Matrix.{entries, entry, matrix_of}
use Rattle.matrix.specs.declared.matrix.Mat4d.{Mat4d}
use Rattle.projection.specs.declared.projection.Projection.{Projection}
use Rattle.projection.specs.declared.projection.Projection.TheVariants.{Perspective, Orthographic}
use Rattle.projection.specs.declared.projection.ProjectionParams.{ProjectionParams}

-- ---- its numbers, "kind 0 perspective or 1 orthographic, left, right, bottom, top, near, far"

abbrev pub kind_number : Projection → Float
kind_number Perspective = positive_zero
kind_number Orthographic = one

-- "a zero of either sign counts as 0"; a NaN names no kind
abbrev pub kind_of : Float → Option Projection
kind_of x = cond (eq x positive_zero) (Some Perspective) (cond (eq x one) (Some Orthographic) None)

-- the edges of the window and the two distances
abbrev pub extent : ProjectionParams → List Float
extent p = p.left ∷ p.right ∷ p.bottom ∷ p.top ∷ p.near ∷ p.far ∷ []

abbrev pub numbers : ProjectionParams → List Float
numbers p = kind_number p.projection ∷ extent p

abbrev pub params_of : Projection → List Float → ProjectionParams
params_of kind s = record { projection = kind; left = at s 1; right = at s 2; bottom = at s 3; top = at s 4; near = at s 5; far = at s 6 }

-- "a zero of either sign counts as 0"; a NaN names no kind
unfoldable pub params_loaded : List Float → Option ProjectionParams
params_loaded s =
    cond (eq (at s 0) positive_zero) (Some (params_of Perspective s))
    (cond (eq (at s 0) one) (Some (params_of Orthographic s)) None)

-- ---- the matrix of a volume

abbrev pub two : Float
two = rounded 2 1

abbrev pub width : ProjectionParams → Float
width p = p.right ⊖ p.left

abbrev pub height : ProjectionParams → Float
height p = p.top ⊖ p.bottom

abbrev pub depth : ProjectionParams → Float
depth p = p.far ⊖ p.near

abbrev pub perspective : ProjectionParams → Mat4d
perspective p =
    let o = positive_zero in
    matrix_of
    (two ⊘ width p ∷ o ∷ o ∷ o
    ∷ o ∷ two ⊘ height p ∷ o ∷ o
    ∷ (p.right ⊕ p.left) ⊘ width p ∷ (p.top ⊕ p.bottom) ⊘ height p ∷ neg (p.far ⊕ p.near) ⊘ depth p ∷ neg one
    ∷ o ∷ o ∷ neg two ⊗ p.near ⊗ p.far ⊘ depth p ∷ o ∷ [])

abbrev pub orthographic : ProjectionParams → Mat4d
orthographic p =
    let o = positive_zero in
    matrix_of
    (two ⊘ width p ∷ o ∷ o ∷ o
    ∷ o ∷ two ⊘ height p ∷ o ∷ o
    ∷ o ∷ o ∷ neg two ⊘ depth p ∷ o
    ∷ neg (p.right ⊕ p.left) ⊘ width p ∷ neg (p.top ⊕ p.bottom) ⊘ height p ∷ neg (p.far ⊕ p.near) ⊘ depth p ∷ one ∷ [])

abbrev pub projecting_as : Projection → ProjectionParams → Mat4d
projecting_as Perspective p = perspective p
projecting_as Orthographic p = orthographic p

abbrev pub projecting : ProjectionParams → Mat4d
projecting p = projecting_as p.projection p

-- ---- the volume of a matrix, its kind given

-- with a window of a width and a height, whose center is x, y
abbrev pub around : Projection → Float → Float → Float → Float → Float → Float → ProjectionParams
around kind width height x y near far = record {
  projection = kind;
  left = x ⊖ half ⊗ width;
  right = x ⊕ half ⊗ width;
  bottom = y ⊖ half ⊗ height;
  top = y ⊕ half ⊗ height;
  near = near;
  far = far;
}

abbrev pub perspective_of : Mat4d → ProjectionParams
perspective_of m =
    let width = two ⊘ entry m 0 0 in
    let height = two ⊘ entry m 1 1 in
    around Perspective width height (half ⊗ width ⊗ entry m 2 0) (half ⊗ height ⊗ entry m 2 1) (entry m 3 2 ⊘ (entry m 2 2 ⊖ one))
    (entry m 3 2 ⊘ (entry m 2 2 ⊕ one))

abbrev pub orthographic_of : Mat4d → ProjectionParams
orthographic_of m =
    let width = two ⊘ entry m 0 0 in
    let height = two ⊘ entry m 1 1 in
    let half_depth = one ⊘ entry m 2 2 in
    let middle = half_depth ⊗ entry m 3 2 in
    around Orthographic width height (neg half ⊗ width ⊗ entry m 3 0) (neg half ⊗ height ⊗ entry m 3 1) (middle ⊕ half_depth) (middle ⊖ half_depth)

-- ---- recovery

-- "the 1e-6 rebuild check"
abbrev pub tolerance : Float
tolerance = rounded 1 1000000

-- both finite, and no further apart than 1e-6 of the larger in size, or of 1 where that is larger than both
unfoldable pub close : Float → Float → Bool
close given built = finite given && finite built && le (abs_of (given ⊖ built)) (tolerance ⊗ max_of (max_of (abs_of given) (abs_of built)) one)

abbrev pub close_at : List Float → List Float → ℕ → Bool
close_at given built i = close (at given i) (at built i)

-- "all 16 entries within the 1e-6 rebuild check"
unfoldable pub close_to : Mat4d → Mat4d → Bool
close_to given built = every_below 16 (close_at (entries given) (entries built))

-- "six finite numbers"
unfoldable pub bounded : ProjectionParams → Bool
bounded p = every_below 6 (λ i. finite (at (extent p) i))

-- "Recovery needs six finite numbers and all 16 entries within the 1e-6 rebuild check."
unfoldable pub confirmed : ProjectionParams → Mat4d → Option ProjectionParams
confirmed p m = cond (bounded p && close_to m (projecting p)) (Some p) None

-- The number at row 2 and column 3 tells the kind: perspective where it is less than 1e-6 from −1, orthographic where it is less than that from 0.
unfoldable pub recovered : Mat4d → Option ProjectionParams
recovered m =
    cond (lt (abs_of (entry m 2 3 ⊕ one)) tolerance) (confirmed (perspective_of m) m)
    (cond (lt (abs_of (entry m 2 3)) tolerance) (confirmed (orthographic_of m) m) None)

-- of the matrix in a slice; one of another length holds none
unfoldable pub recovered_from : List Float → Option ProjectionParams
recovered_from s = unless (has matrix_length s) None (recovered (matrix_of s))

-- ---- what each answer comes to, by the numbers of the refusals

-- the matrix of a record that was read: "3 means a kind or flag outside its named values"
abbrev pub built_numbers : Option ProjectionParams → Outcome (List Float)
built_numbers (Some p) = outcome (entries (projecting p))
built_numbers None = refused 3

-- "6 not a projection"
abbrev pub recovered_numbers : Option ProjectionParams → Outcome (List Float)
recovered_numbers (Some p) = outcome (numbers p)
recovered_numbers None = refused 6
