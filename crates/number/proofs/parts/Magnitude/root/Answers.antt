-- `number::parts::Magnitude::root` meets its contract: the laws of `proofs/RootBits.antt`, at the rounded significand. Assumes nothing.
use Rattle.std.proofs.Common.{arith}
use lib.Ieee.{binary64}
use Rattle.number.specs.Steps.Magnitude.{units_of}
use Rattle.number.proofs.RootBits.{rounded_hi, joined}
use Rattle.number.proofs.parts.Magnitude.root.Goals as goal

pub overflow_add-result-2 : goal.overflow_add-result-2
overflow_add-result-2 c =
    let p = c.scaled-scaled.result in
    let h = c.scaled-scaled.ensures in
    let l = rounded_hi p.significand p.scale h.leading h.digits in
    let e = c.root_digits.ensures in
    let s = h.most in
    omega arith

pub returns : goal.returns
returns c =
    let p = c.scaled-scaled.result in
    let h = c.scaled-scaled.ensures in
    joined p.significand p.scale h.leading h.digits (units_of binary64 c.args.self.bits) h.value (let s = h.most in omega arith)
    c.root_digits.result c.root_digits.ensures
