-- Worked numbers on kinds of projection, computed from the definitions. Assumes nothing.
use Rattle.std.specs.Prelude.{None, Some}
use mathlib.Core.Path.{◌≡◌, refl}
use mathlib.Core.List.{List, ◌∷◌}
use lib.Count.{count_trailing_zeros}
use lib.Ieee.{Float, nan, neg, eq, round, units, odd, size, span, climb}
use Rattle.matrix.specs.Constants.{positive_zero}
use Rattle.projection.specs.declared.projection.Projection.TheVariants.{Perspective}
use Rattle.projection.specs.Projection.{params_of, params_loaded}

-- "a zero of either sign counts as 0"
negative_zero : (s : List Float) → params_loaded (neg positive_zero ∷ s) ≡ Some (params_of Perspective (neg positive_zero ∷ s))
unfolding params_loaded eq neg round units odd size span climb count_trailing_zeros
negative_zero s = refl

-- a NaN names no kind
not_a_kind : (s : List Float) → params_loaded (nan ∷ s) ≡ None
unfolding params_loaded eq
not_a_kind s = refl
