-- `Range3d::is_ordered` meets its contract by its tests, axis after axis. Assumes nothing.
use mathlib.Core.Path.{refl}
use mathlib.Core.Bool.{true, false}
use Rattle.matrix.proofs.Ordered.{ordered_by_axes}
use Rattle.matrix.proofs.range.Range3d.is_ordered.Goals as goal

pub returns-then-not-self : goal.returns-then-not-self
returns-then-not-self c = ordered_by_axes _ false _ _ c.if-not-self.true refl refl

pub returns-then-not-self-2 : goal.returns-then-not-self-2
returns-then-not-self-2 c = ordered_by_axes _ true false _ c.if-not-self.false c.if-not-self-2.true refl

pub returns : goal.returns
returns c = ordered_by_axes _ true true _ c.if-not-self.false c.if-not-self-2.false refl
