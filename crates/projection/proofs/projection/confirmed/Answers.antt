-- `projection::confirmed` meets its contract by its test. Assumes nothing.
use mathlib.Core.Path.{refl}
use mathlib.Core.Bool.{true, false}
use Rattle.projection.proofs.Confirmed.{by_tests}
use Rattle.projection.proofs.projection.confirmed.Goals as goal

pub returns-then-bounded-gives : goal.returns-then-bounded-gives
returns-then-bounded-gives g c = λ tells. by_tests _ _ _ _ _ true refl c.bounded.ensures (tells _ c.gives.ensures) c.if-bounded-gives.true

pub returns : goal.returns
returns g c = λ tells. by_tests _ _ _ _ _ false refl c.bounded.ensures (tells _ c.gives.ensures) c.if-bounded-gives.false
