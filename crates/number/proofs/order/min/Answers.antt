-- `number::order::min` meets its contract: `proofs/Extremes.antt` and `proofs/JoinedBits.antt` have the laws. Assumes nothing.
use Rattle.std.proofs.Common.{◌≡◌, Bool, true, false, not, T, sym, refl, ap, ◌∙◌, subst, rules}
use lib.Bits.{bit_or}
use lib.Ieee.{binary64, eq, nan_bits, to_bits, of_bits}
use Rattle.number.specs.Arithmetic.{min_of}
use Rattle.number.proofs.Extremes.{min_from}
use Rattle.number.proofs.JoinedBits.{min_joined, min_joined_number}
use Rattle.number.proofs.order.min.Goals as goal

pub chosen-requires-clause-number : goal.chosen-requires-clause-number
chosen-requires-clause-number c = λ bits e p.
    let a = c.args in
    let q : bits ≡ bit_or (to_bits binary64 a.x) (to_bits binary64 a.y) = search rules in
    subst (λ (b : _). T (not (nan_bits binary64 b))) (sym q) (min_joined_number a.x a.y (search rules) (search rules) e)

pub returns : goal.returns
returns c = go (eq c.args.x c.args.y) refl
  where
    go : (b : Bool) → eq c.args.x c.args.y ≡ b → c.chosen.result ≡ min_of c.args.x c.args.y
    go true e =
        let (bits, p, r) = c.chosen.ensures.equal e in
        let q : bits ≡ bit_or (to_bits binary64 c.args.x) (to_bits binary64 c.args.y) = search rules in
        r ∙ ap (of_bits binary64) q ∙ min_joined c.args.x c.args.y (search rules) (search rules) e
    go false e = c.chosen.ensures.other e ∙ min_from c.args.x c.args.y _ e refl
