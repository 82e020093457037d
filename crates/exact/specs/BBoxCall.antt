-- What the exact verdict on a box answers, and what it leaves in the slice lent for a witness. Definitions only.
-- The view is that of whole/specs/SegmentCall. A box is two corners, as it is placed: three numbers of the least and three of the greatest.
use Rattle.std.specs.Prelude.{◌≡◌, ◌⊎◌, Bool, true, false, ◌&&◌, List, [], ◌∷◌, ℕ, ◌+◌, eqb, leb, length, ℤ, pos}
use Rattle.std.specs.Int.Signed.{le_z}
use Rattle.number.specs.Limits.{range_length, grid_limit, fewest_planes}
use Rattle.number.specs.Answer.{Outcome, refused, outcome, Lone, put_verdict, unless, has}
use Rattle.number.specs.Every.{every}
use Rattle.whole.specs.Plane.{WholePlane}
use Rattle.whole.specs.SegmentCall.{number_at, planes_of, view_length, count_of, permitted, within, plane_within}
use Rattle.exact.specs.ExactPoint.{ExactPoint, InView, InBox, BoxInView}

-- ---- the records

-- the least corner of a box, and the greatest
abbrev pub low_corner : List ℤ → ℕ → ℤ
low_corner box j = number_at box j

abbrev pub high_corner : List ℤ → ℕ → ℤ
high_corner box j = number_at box (3 + j)

-- how many numbers a witness has: x, y, z and k
abbrev pub witness_length : ℕ
witness_length = 4

-- "three whole numbers over one whole k of at least 1", of a point that is in the box and in the view
pub record Witness (Ps : List WholePlane) (low high : ℕ → ℤ) (w : List ℤ) : Type 0 where
  pub point : ExactPoint
  pub numbers : w ≡ point.numbers 0 ∷ point.numbers 1 ∷ point.numbers 2 ∷ pos point.k ∷ []
  pub held : InBox low high point
  pub seen : InView Ps point

-- ---- the checks

-- along an axis: both corners on the grid, and the least not past the greatest
abbrev pub axis_within : List ℤ → ℕ → Bool
axis_within box j = within grid_limit (low_corner box j) && within grid_limit (high_corner box j) && le_z (low_corner box j) (high_corner box j)

abbrev pub box_within : List ℤ → Bool
box_within box = axis_within box 0 && axis_within box 1 && axis_within box 2

-- How many planes a view has, where nothing is refused: 1 for the box's length and for a view below that of the fewest planes, 12 for the count, 1 for another
-- length than the count's, 2 for the witness, 7 for a number past its limit and for a least coordinate above its greatest. The witness has room for so many
-- numbers.
unfoldable pub count_checked : List ℤ → List ℤ → ℕ → Outcome ℕ
unfolding every
count_checked view box room =
    let n = count_of (number_at view 0) in
    unless (has range_length box && leb (view_length fewest_planes) (length view)) (refused 1)
    (unless (permitted n) (refused 12)
    (unless (has (view_length n) view) (refused 1)
    (unless (eqb room witness_length) (refused 2)
    (unless (every plane_within (planes_of view n) && box_within box) (refused 7)
    (outcome n)))))

-- ---- the call

-- Yes, with a witness; or no, since box and view share no exact point, and then the slice keeps its former numbers.
abbrev pub Decided : List WholePlane → (ℕ → ℤ) → (ℕ → ℤ) → List ℤ → Outcome Bool → List ℤ → Type 0
Decided Ps low high before answer after =
    ((answer ≡ outcome true) × Witness Ps low high after)
    ⊎ ((answer ≡ outcome false) × (after ≡ before) × ¬ BoxInView Ps low high)

-- a refusal keeps them too
abbrev pub Answers : List ℤ → List ℤ → List ℤ → Outcome Bool → List ℤ → Outcome ℕ → Type 0
Answers view box before answer after (refused k) = (answer ≡ refused k) × (after ≡ before)
Answers view box before answer after (outcome n) = Decided (planes_of view n) (low_corner box) (high_corner box) before answer after

-- What a call answers of a view, a box and the numbers before in the slice, and the numbers after. Which witness it is, is left open; that it is one is not.
abbrev pub WholeBoxCall : List ℤ → List ℤ → List ℤ → Outcome Bool → List ℤ → Type 0
WholeBoxCall view box before answer after = Answers view box before answer after (count_checked view box (length before))

-- The same where the verdict goes through a reference to a number: 0 or the number of the refusal, and what stands there afterwards.
pub record WholeBoxPut (view box before : List ℤ) (there : ℕ) (r : Lone ℕ) (after : List ℤ) : Type 0 where
  pub answer : Outcome Bool
  pub called : WholeBoxCall view box before answer after
  pub put : r ≡ put_verdict answer there
