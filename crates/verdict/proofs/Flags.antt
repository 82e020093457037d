-- The number of a flag, and what the test of a box record's flag says of its definition. Assumes nothing.
use Rattle.std.proofs.Common.{◌≡◌, Bool, true, false, not, List, sym, refl, ap, ◌∙◌, true≢false, pos}
use mathlib.Core.Bool.{false≢true}
use lib.Count.{count_trailing_zeros}
use lib.Ieee.{Float, binary64, of_int, round, units, odd, size, span, climb}
use Rattle.std.specs.Int.{from_bool}
use Rattle.number.specs.Limits.{flag_place}
use Rattle.number.specs.Slice.{at}
use Rattle.verdict.specs.BBox.{flag_of, is_flag}
use Rattle.verdict.specs.BBoxCalls.{flagged}
use Rattle.verdict.specs.Ray.{front_flag}

-- 1 or 0, as the conversion gives them
pub flag_number : (b : Bool) → of_int binary64 (pos (from_bool b)) ≡ flag_of b
unfolding of_int round units odd size span climb count_trailing_zeros
flag_number true = refl
flag_number false = refl

pub front_number : (b : Bool) → of_int binary64 (pos (from_bool b)) ≡ front_flag b
unfolding of_int round units odd size span climb count_trailing_zeros
front_number true = refl
front_number false = refl

pub negated : (z b : Bool) → not z ≡ b → z ≡ not b
negated true true e = absurd (false≢true e)
negated true false e = refl
negated false true e = refl
negated false false e = absurd (true≢false e)

module _ (b : List Float) (x : Float) (z : Bool) (p : x ≡ at b flag_place) (q : z ≡ is_flag x) where
  pub no_flag : not z ≡ true → flagged b ≡ false
  no_flag e = ap is_flag (sym p) ∙ sym q ∙ negated z true e

  pub is_flag_lem : not z ≡ false → flagged b ≡ true
  is_flag_lem e = ap is_flag (sym p) ∙ sym q ∙ negated z false e
