-- `sight_lines` meets its contract by its test. Assumes nothing.
use Rattle.std.proofs.Common.{Bool, cond, sym, ap, arith, eq-eqb, ne_eqb}
use Rattle.verdict.specs.View.{ray_count}
use Rattle.verdict.proofs.triangle.sight_lines.Goals as goal

pub returns-then-sides-eq3 : goal.returns-then-sides-eq3
returns-then-sides-eq3 c = (sym (ap (λ (z : Bool). cond z 1 ray_count) (eq-eqb _ _ c.if-sides-eq3.true)), omega arith)

pub returns : goal.returns
returns c = (sym (ap (λ (z : Bool). cond z 1 ray_count) (ne_eqb _ _ c.if-sides-eq3.false)), omega arith)
