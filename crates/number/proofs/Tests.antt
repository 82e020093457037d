-- What a test of two conditions at once says of them. Assumes nothing.
use Rattle.std.proofs.Common.{◌≡◌, Bool, true, false, ◌&&◌, refl}

pub both_hold : (s t : Bool) → (s && t) ≡ true → (s ≡ true) × (t ≡ true)
both_hold true t e = (refl, e)
both_hold false t e = (e, cc)

-- one that always holds adds nothing
pub and_true : (b : Bool) → (b && true) ≡ b
and_true true = refl
and_true false = refl
