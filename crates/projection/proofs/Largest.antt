-- The largest of 1 and two sizes, 1 first or last: it is the same in every order, so that the code may begin with 1, where one comparison finds the larger, and the definition may end with
-- it, as the Rust does. Assumes nothing.
use mathlib.Core.Path.{◌≡◌, refl, ap, ◌∙◌}
use mathlib.Core.Bool.{Bool, true, false, cond}
use lib.Ieee.{Float, nan, inf, fin, binary64, lt, is_nan, round}
use lib.Ieee.Fits.{round-fits}
use Rattle.number.specs.Arithmetic.{abs_of, negative, upper_of, max_of}
use Rattle.number.specs.Extremes.{Value}
use Rattle.number.proofs.EitherOrder.{max_order_free, max_value}
use Rattle.number.proofs.Extremes.{upper_positive}
use Rattle.number.proofs.Magnitude.{abs_fits}
use Rattle.matrix.specs.Constants.{one}

-- the larger of 1 and a size is a number above zero, so one comparison finds what is larger than it
pub above : (g : Float) → (is_nan (upper_of one (abs_of g)) ≡ false) × (negative (upper_of one (abs_of g)) ≡ false)
unfolding abs_of is_nan lt round
above nan = (refl, refl)
above (inf s) = (refl, refl)
above (fin s m e) = go (lt one (fin false m e))
  where
    go : (b : Bool) → (is_nan (cond b (fin false m e) one) ≡ false) × (negative (cond b (fin false m e) one) ≡ false)
    go true = (refl, refl)
    go false = (refl, refl)

pub one_is : (is_nan one ≡ false) × (negative one ≡ false)
unfolding is_nan round
one_is = (refl, refl)

one_last : (x y : Float) → Value x → Value y → max_of (max_of one x) y ≡ max_of (max_of x y) one
one_last x y v w =
    let u : Value one = round-fits binary64 false 1 1 in
    max_order_free.associative one x y u v w ∙ max_order_free.commutative one (max_of x y) u (max_value x y v w)

pub largest : (g b m n : Float) → Value g → Value b → m ≡ upper_of one (abs_of g) → n ≡ upper_of m (abs_of b) → n ≡ max_of (max_of (abs_of g) (abs_of b)) one
largest g b m n v w p q =
    q ∙ ap (λ (z : Float). upper_of z (abs_of b)) p ∙ upper_positive (upper_of one (abs_of g)) (abs_of b) (above g).0 (above g).1
    ∙ ap (λ (z : Float). max_of z (abs_of b)) (upper_positive one (abs_of g) one_is.0 one_is.1)
    ∙ one_last (abs_of g) (abs_of b) (abs_fits g v) (abs_fits b w)
