-- `number::order::is_finite` meets its contract by cases. Assumes nothing.
use Rattle.std.proofs.Common.{◌≡◌, refl, ◌∙◌, rules}
use Rattle.std.specs.Float.{float_is_finite}
use lib.Ieee.{Float, nan, inf, fin}
use lib.Ieee.Scale.{finite}
use Rattle.number.specs.Arithmetic.{abs_of}
use Rattle.number.proofs.order.is_finite.Goals as goal

same : (x : Float) → float_is_finite x ≡ finite x
unfolding float_is_finite
same nan = refl
same (inf s) = refl
same (fin s m e) = refl

-- a number is finite as its magnitude is
of_magnitude : (x : Float) → finite (abs_of x) ≡ finite x
unfolding abs_of
of_magnitude nan = refl
of_magnitude (inf s) = refl
of_magnitude (fin s m e) = refl

pub returns : goal.returns
returns c = c.is_finite.ensures.value ∙ same _ ∙ search (rules, of_magnitude)
