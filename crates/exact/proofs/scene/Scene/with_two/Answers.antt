-- `with_two` meets its contract: with none of those before it is there a good one. Assumes nothing.
use mathlib.Core.Path.{◌≡◌, subst}
use Prim.Native.Nat.{ℕ, ◌<◌}
use native.Mathlib.Omega.{arith}
use Rattle.exact.specs.Steps.{Good}
use Rattle.exact.proofs.Seeing.{up_to}
use Rattle.exact.proofs.scene.Scene.with_two.Goals as goal

-- what is known of the constraint that is tried, by its number
of_the_one : (P : ℕ → Type 0) (tried second : ℕ) → P tried → tried ≡ second → P second
of_the_one P tried second h e = subst P e h

pub loop-second-preserved : goal.loop-second-preserved
loop-second-preserved c =
    let s = c.args.self.now in
    let l = c.loop-second in
    let none = λ (b : ℕ). (d : ℕ) → d < b → ¬ Good s.view.numbers.now s.bounds.now c.args.n b d in
    up_to none l.second l.invariant (of_the_one none _ l.second c.in_default.ensures (omega arith))
