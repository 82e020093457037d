-- `projection::close` meets its contract: by what it calls, and since the largest of three numbers is the same in every order. Assumes nothing.
use mathlib.Core.Path.{◌≡◌, refl, sym, ap₂, ◌∙◌, subst}
use mathlib.Core.Bool.{Bool, true, ◌&&◌}
use borrow.Author.Rules.{rules}
use lib.Dec.{T}
use lib.Ieee.{Float, le}
use lib.Ieee.Scale.{finite}
use Rattle.number.specs.Arithmetic.{◌⊖◌, ◌⊗◌, abs_of, upper_of}
use Rattle.number.specs.Extremes.{Value}
use Rattle.matrix.specs.Constants.{one}
use Rattle.matrix.proofs.Literals.{one_bits}
use Rattle.projection.proofs.Largest.{largest}
use Rattle.projection.proofs.Literals.{tolerance_bits}
use Rattle.projection.proofs.CloseEnough.{close_enough}
use Rattle.projection.specs.Projection.{tolerance, close}
use Rattle.projection.proofs.projection.close.Goals as goal

abbrev largest_of : Float → Float → Float
largest_of g b = upper_of (upper_of one (abs_of g)) (abs_of b)

module _ (g b off t : Float) (v : Value g) (w : Value b) (h : off ≡ abs_of (g ⊖ b)) (i : t ≡ tolerance) where
  by_difference : le off t ≡ true → true ≡ close g b
  by_difference e = sym (close_enough g b v w (subst T (sym (sym (ap₂ le h i) ∙ e)) tt))

  by_size : (n : Float) (x y : Bool) → n ≡ largest_of g b → x ≡ finite g → y ≡ finite b → (x && y && le off (t ⊗ n)) ≡ close g b
  unfolding close
  by_size n x y j k l = λ z. k z && l z && le (h z) (i z ⊗ (j ∙ largest g b (upper_of one (abs_of g)) (largest_of g b) v w refl refl) z)

pub returns-then-off : goal.returns-then-off
returns-then-off c =
    let a = c.args in
    by_difference a.given a.built _ _ (search rules) (search rules) c.abs-off.ensures tolerance_bits c.if-off.true

pub returns : goal.returns
returns c =
    let a = c.args in
    by_size a.given a.built _ _ (search rules) (search rules) c.abs-off.ensures tolerance_bits _ _ _
    (c.upper-size.ensures ∙ ap₂ upper_of (c.upper.ensures ∙ ap₂ upper_of one_bits c.abs.ensures) c.abs-2.ensures)
    c.is_finite.ensures c.is_finite-2.ensures
