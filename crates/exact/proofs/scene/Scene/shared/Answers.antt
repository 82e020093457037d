-- `shared` meets its contract: a point satisfies the constraints taken so far, or none does. Assumes nothing.
use mathlib.Core.Path.{sym, subst}
use Prim.Native.Nat.{◌+◌}
use native.Mathlib.Omega.{arith}
use Rattle.exact.specs.declared.plane.Point.{Point}
use Rattle.exact.specs.Steps.{faces, Satisfying}
use Rattle.exact.proofs.Taken.{first_found, fewer_shared}
use Rattle.exact.proofs.scene.Scene.shared.Goals as goal

pub loop-n-init : goal.loop-n-init
loop-n-init c =
    let s = c.args.self.now in
    subst (λ (p : Point). Satisfying s.view.numbers.now s.bounds.now faces p) (sym c.least_corner-p.ensures) (first_found s.view.numbers.now s.bounds.now s.box_on_grid)

pub returns-in_err-p : goal.returns-in_err-p
returns-in_err-p c = rw c.from_residual.ensures (λ s. c.in_err-p.ensures (fewer_shared (c.loop-n.n + 1) (omega arith) s))
