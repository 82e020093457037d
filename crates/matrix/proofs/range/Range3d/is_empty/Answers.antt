-- `Range3d::is_empty` meets its contract by its tests, axis after axis. Assumes nothing.
use mathlib.Core.Path.{refl}
use mathlib.Core.Bool.{true, false}
use Rattle.matrix.proofs.Emptiness.{by_axes}
use Rattle.matrix.proofs.range.Range3d.is_empty.Goals as goal

pub returns-then-self : goal.returns-then-self
returns-then-self c = by_axes _ true _ _ c.if-self.true refl refl

pub returns-then-self-2 : goal.returns-then-self-2
returns-then-self-2 c = by_axes _ false true _ c.if-self.false c.if-self-2.true refl

pub returns : goal.returns
returns c = by_axes _ false false _ c.if-self.false c.if-self-2.false refl
