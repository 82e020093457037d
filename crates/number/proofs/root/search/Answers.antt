-- `number::root::search` meets its contract: `AfterBit` of `specs/Search.antt` holds of the loop's variables after the first bit and after each that is tried, by
-- the contracts of `first` and `tried`. Assumes nothing.
use Rattle.std.proofs.Common.{◌^◌, ◌<◌, arith, lit≤, pow_pos}
use Rattle.number.proofs.Search.{exact, last, root_below}
use Rattle.number.proofs.root.search.Goals as goal

pub loop-bit-init : goal.loop-bit-init
loop-bit-init c = record { after = c.first-partial.ensures; bits = lit≤ tt; small = omega arith }

pub returns-then-partial-eq0 : goal.returns-then-partial-eq0
returns-then-partial-eq0 c =
    let l = c.loop-bit in
    let a = l.invariant.after in
    exact _ l.bit a.root a.remainder _ a.searched (omega (arith, a.trial)) (omega (arith, a.left, c.if-partial-eq0.true))

pub tried-partial-requires : goal.tried-partial-requires
tried-partial-requires c =
    let s = c.loop-bit.invariant in
    let a = s.after in
    let r : a.root < 2 ^ 54 = root_below _ _ a.root a.remainder (2 ^ 54) a.searched s.small in
    (omega (arith, a.trial), omega (arith, a.trial, r, s.bits), omega (arith, a.left, a.searched.most, r, s.bits))

pub loop-bit-preserved : goal.loop-bit-preserved
loop-bit-preserved c =
    let l = c.loop-bit in
    let s = l.invariant in
    record {
      after = c.tried-partial.ensures.next _ (omega (arith, c.loop-bit-test.true)) s.after;
      bits = omega (arith, s.bits);
      small = s.small;
    }

pub returns : goal.returns
returns c =
    let l = c.loop-bit in
    let a = l.invariant.after in
    last _ l.bit a.root a.remainder _ _ a.searched (omega (arith, a.trial)) (omega (arith, a.bit, pow_pos a.power, c.loop-bit-test.false)) a.left
