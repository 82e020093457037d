-- Whether a range is empty, by its axes one after another. Assumes nothing.
use mathlib.Core.Path.{◌≡◌, sym}
use mathlib.Core.Bool.{Bool, ◌||◌}
use Rattle.matrix.specs.declared.range.Range3d.{Range3d}
use Rattle.matrix.specs.Range.{empty_along, is_empty}

pub by_axes : (r : Range3d) (x y z : Bool) → empty_along r 0 ≡ x → empty_along r 1 ≡ y → empty_along r 2 ≡ z → (x || y || z) ≡ is_empty r
unfolding is_empty
by_axes r x y z p q s = sym (λ t. p t || q t || s t)
