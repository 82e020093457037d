-- A rounded fraction is on the side of its sign, a zero being on both sides of zero: `round` gives the sign that it is handed. Assumes nothing.
use Rattle.std.proofs.Common.{ℕ, zero, suc, ◌+◌, ◌*◌, ◌^◌, Bool, true, false, cond, T, ltb, sym, subst}
use lib.Ieee.{Float, inf, binary64, low, prec, emax, round, units, odd}
use lib.Ieee.Fits.{round_is}
use Rattle.number.proofs.SidesOfZero.{side}

-- a number of units with a sign is on its side
units_side : (s : Bool) (q k : ℕ) → T (side s (units binary64 s q k))
unfolding units odd
units_side s q k = go s (ltb (q * 2 ^ k) (2 ^ (low binary64 + suc (emax binary64)))) q
  where
    go : (s b : Bool) (q : ℕ) → T (side s (cond b (odd (suc (prec binary64)) s q k (low binary64)) (inf s)))
    go true true zero = tt
    go true true (suc q) = tt
    go true false q = tt
    go false true zero = tt
    go false true (suc q) = tt
    go false false q = tt

-- a fraction with a sign is rounded to that side
pub round_side : (s : Bool) (n c : ℕ) → T (side s (round binary64 s n c))
round_side s n c = subst (λ (x : Float). T (side s x)) (sym (round_is binary64 s n c)) (units_side s _ _)
