-- `number::slice::all_finite` meets its contract: just the finite numbers times zero are a zero. Assumes nothing.
use Rattle.std.proofs.Common.{◌≡◌, ℕ, ◌+◌, ◌*◌, ◌<◌, Bool, true, false, ◌&&◌, List, length, get_or, drop, sym, refl, ap, ◌∙◌, mul-pos, mul-zero, add-one, lit<, arith, drop-cons, drop_of_length-le}
use Rattle.std.proofs.Math.Bool.{and_assoc, and-true}
use lib.Ieee.{Float, nan, inf, fin, binary64, up, unlike, mul, eq, of_bits}
use lib.Ieee.Scale.{finite}
use lib.Ieee.Fits.{down_pos}
use Rattle.number.specs.Arithmetic.{zero_of}
use Rattle.number.specs.Every.{every}
use Rattle.number.specs.Slice.{all_finite}
use Rattle.number.proofs.Zeros.{round_zero}
use Rattle.number.proofs.slice.all_finite.Goals as goal

is_zero : (s : Bool) → eq (zero_of s) (of_bits binary64 0) ≡ true
unfolding eq of_bits
is_zero true = refl
is_zero false = refl

times_zero : (x : Float) → eq (mul binary64 x (of_bits binary64 0)) (of_bits binary64 0) ≡ finite x
unfolding eq mul of_bits
times_zero nan = refl
times_zero (inf s) = refl
times_zero (fin s m e) =
    ap (λ (y : Float). eq y (of_bits binary64 0)) (round_zero binary64 (unlike s false) _ _ (mul-pos (down_pos e) (lit< tt)) (mul-zero (m * up e)))
    ∙ is_zero (unlike s false)

-- one number more, at i
more : (s : List Float) (i : ℕ) (all : Bool) → i < length s
    → ((all && eq (mul binary64 (get_or s i nan) (of_bits binary64 0)) (of_bits binary64 0)) && all_finite (drop (i + 1) s)) ≡ (all && all_finite (drop i s))
unfolding every
more s i all h =
    and_assoc all _ _
    ∙ (λ t. all && (times_zero (get_or s i nan) t && all_finite (drop (add-one i t) s)))
    ∙ sym (ap (λ (l : List Float). all && all_finite l) (drop-cons s i nan h))

pub loop-x-preserved : goal.loop-x-preserved
loop-x-preserved c = let l = c.loop-x in more c.args.s.now l.x-index l.all (omega arith) ∙ l.invariant

pub returns : goal.returns
unfolding every
returns c =
    let l = c.loop-x in
    sym (and-true l.all) ∙ sym (ap (λ (rest : List Float). l.all && all_finite rest) (drop_of_length-le c.args.s.now {i = l.x-index} (omega arith))) ∙ l.invariant
