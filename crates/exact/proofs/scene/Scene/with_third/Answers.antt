-- `with_third` meets its contract: none of those before is good. Assumes nothing.
use native.Mathlib.Omega.{arith}
use Rattle.exact.specs.Steps.{Good}
use Rattle.exact.proofs.Vertices.{vertex_small}
use Rattle.exact.proofs.Seeing.{up_to}
use Rattle.exact.proofs.Tried.{read_within, not_good, found_good}
use Rattle.exact.proofs.scene.Scene.with_third.Goals as goal

pub returns-in-Some : goal.returns-in-Some
returns-in-Some c =
    let s = c.args.self.now in
    let p = c.constraint-a in
    let q = c.constraint-b in
    let r = c.constraint-c in
    let l = c.requires.1 in
    found_good s.view.numbers.now s.bounds.now c.args.n c.args.second c.loop-i.i p.result q.result r.result p.ensures q.ensures r.ensures c.in-Some.p c.in-Some.ensures.0
    (vertex_small p.result q.result r.result
    (read_within s.constraints c.args.n (omega arith) p.result p.ensures)
    (read_within s.constraints c.args.second (omega arith) q.result q.ensures)
    (read_within s.constraints c.loop-i.i (omega arith) r.result r.ensures))
    c.in-Some.ensures.1

pub loop-i-preserved : goal.loop-i-preserved
loop-i-preserved c =
    let s = c.args.self.now in
    let p = c.constraint-a in
    let q = c.constraint-b in
    let r = c.constraint-c in
    up_to (λ i. ¬ Good s.view.numbers.now s.bounds.now c.args.n c.args.second i) c.loop-i.i c.loop-i.invariant
    (not_good s.view.numbers.now s.bounds.now c.args.n c.args.second c.loop-i.i p.result q.result r.result p.ensures q.ensures r.ensures c.in_default.ensures)
