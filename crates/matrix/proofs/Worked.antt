-- Paper 01's "Odd inputs" on vectors, matrices and ranges, computed from the definitions. Assumes nothing.
use Rattle.std.specs.Prelude.{None, Option, Some}
use mathlib.Core.Path.{◌≡◌, refl, sym}
use mathlib.Core.Bool.{Bool, true, false, cond}
use Prim.Native.Nat.{◌^◌}
use lib.Count.{count_trailing_zeros}
use lib.Dec.{eqb}
use lib.Ieee.{Float, nan, inf, add, sub, mul, div, neg, lt, eq, is_nan, round, sum, units, odd, size, span, climb}
use Rattle.number.specs.Arithmetic.{◌⊘◌, abs_of, min_of, max_of}
use Rattle.matrix.specs.declared.vec.Vec3d.{Vec3d}
use Rattle.matrix.specs.declared.matrix.Mat4d.{Mat4d}
use Rattle.matrix.specs.declared.range.Range3d.{Range3d}
use Rattle.matrix.specs.Constants.{rounded, positive_zero, one, min_length}
use Rattle.matrix.specs.Vec.{vec3, multiple, length_of, normalized}
use Rattle.matrix.specs.Matrix.{matrix}
use Rattle.matrix.specs.Transform.{divisor}
use Rattle.matrix.specs.Inverse.{adjugate, determinant, inverse_above, inverse}
use Rattle.matrix.specs.Range.{range, is_empty, union}
use Rattle.matrix.specs.Signs.{NanGrouping}
use Rattle.matrix.proofs.Composed.{no_number}

-- ---- normalising

-- "Length zero or NaN therefore uses 1e-10"
no_length : (v : Vec3d) → length_of v ≡ positive_zero → normalized v ≡ multiple v (one ⊘ min_length)
unfolding normalized max_of is_nan lt round units odd size span climb count_trailing_zeros
no_length v h = rw h

nan_length : (v : Vec3d) → length_of v ≡ nan → normalized v ≡ multiple v (one ⊘ min_length)
unfolding normalized max_of is_nan
nan_length v h = rw h

-- an infinite one multiplies by zero
endless : (v : Vec3d) → length_of v ≡ inf false → normalized v ≡ multiple v positive_zero
unfolding normalized max_of is_nan lt div round units odd size span climb count_trailing_zeros
endless v h = rw h

-- ---- a point's last number

-- "`transform` replaces a w of zero, of either sign, by 1."
zero_divisor : divisor positive_zero ≡ one
unfolding divisor eq round units odd size span climb count_trailing_zeros
zero_divisor = refl

negative_zero_divisor : divisor (neg positive_zero) ≡ one
unfolding divisor neg eq round units odd size span climb count_trailing_zeros
negative_zero_divisor = refl

-- ---- the inverse

-- the identity with x for its first number
abbrev first : Float → Mat4d
first x = matrix (λ i j. cond (eqb i j) (cond (eqb i 0) x one) positive_zero)

abbrev accepts : Option Mat4d → Bool
accepts (Some m) = true
accepts None = false

-- "1e-12 for `inverse`": at the bound it is refused, above it accepted
at_the_bound : accepts (inverse (first (rounded 1 (10 ^ 12)))) ≡ false
unfolding inverse_above abs_of add sub mul neg lt round sum units odd size span climb count_trailing_zeros
at_the_bound = refl

above_the_bound : accepts (inverse (first (rounded 2 (10 ^ 12)))) ≡ true
unfolding inverse_above abs_of add sub mul neg lt round sum units odd size span climb count_trailing_zeros
above_the_bound = refl

-- "A NaN determinant is refused."
nan_determinant : (epsilon : Float) (m : Mat4d) → determinant m ≡ nan → inverse_above epsilon m ≡ None
unfolding inverse_above
nan_determinant epsilon m h = sym (no_number epsilon (determinant m) (adjugate m) h)

-- ---- ranges

-- "NaN alone is not empty."
nan_range : is_empty (range (vec3 (λ i. nan)) (vec3 (λ i. nan))) ≡ false
unfolding is_empty lt
nan_range = refl

-- "The union of two empty ranges is the second."
two_empty : (a b : Range3d) → is_empty a ≡ true → is_empty b ≡ true → union a b ≡ b
unfolding union
two_empty a b p q = rw p

-- with a NaN a union can come out empty, and grouping matters
pub nan_grouping : NanGrouping
unfolding union min_of max_of is_nan lt eq neg round units odd size span climb count_trailing_zeros
nan_grouping = record { empty = refl; first_two = refl; last_two = refl }
