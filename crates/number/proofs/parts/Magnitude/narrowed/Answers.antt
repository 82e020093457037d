-- `number::parts::Magnitude::narrowed` meets its contract: by the scale the result is infinite, normal, zero or subnormal (`proofs/Narrowing.antt`).
-- Assumes nothing.
use Rattle.std.proofs.Common.{ℕ, sym, subst, arith}
use Rattle.number.specs.Steps.Magnitude.{Narrowed}
use Rattle.number.proofs.Narrowing.{narrow_zero, narrow_too_large, narrow_normal, narrow_nothing, narrow_subnormal}
use Rattle.number.proofs.parts.Magnitude.narrowed.Goals as goal

pub returns-then-self-eq0 : goal.returns-then-self-eq0
returns-then-self-eq0 c = subst (λ (i : ℕ). Narrowed i 0) (sym c.if-self-eq0.true) narrow_zero

pub returns-then-scale-ge1202 : goal.returns-then-scale-ge1202
returns-then-scale-ge1202 c = narrow_too_large _ _ c.scaled-scaled.ensures c.args.self.of_a_number c.if-scale-ge1202.true

pub returns-then-scale-ge948 : goal.returns-then-scale-ge948
returns-then-scale-ge948 c = narrow_normal _ _ c.scaled-scaled.ensures c.if-scale-ge948.true c.if-scale-ge1202.false c.nearest.result c.nearest.ensures

pub returns-then-scale-lt914 : goal.returns-then-scale-lt914
returns-then-scale-lt914 c = narrow_nothing _ _ c.scaled-scaled.ensures c.if-scale-lt914.true

pub overflow_cast-result-2 : goal.overflow_cast-result-2
overflow_cast-result-2 c =
    let n = narrow_subnormal _ _ c.scaled-scaled.ensures c.if-scale-ge948.false c.nearest-2.result c.nearest-2.ensures in
    omega (arith, n.most)

pub returns : goal.returns
returns c = narrow_subnormal _ _ c.scaled-scaled.ensures c.if-scale-ge948.false c.nearest-2.result c.nearest-2.ensures
