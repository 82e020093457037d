-- `push_decimal` meets its contract: digits are put at its end, by `put_decimal`. Assumes nothing.
use mathlib.Core.Path.{◌≡◌, subst}
use mathlib.Core.List.{List}
use Prim.Native.Nat.{ℕ}
use lib.ListN.{take}
use Rattle.farm.specs.Text.{decimal, Pushed}
use Rattle.farm.proofs.Texts.{pushed_by_put, kept_by_put}
use Rattle.farm.proofs.text.Text.push_decimal.Goals as goal

pub invariant_of-self : goal.invariant_of-self
invariant_of-self c = let i = c.self.inside in let v = c.self.invariant in kept_by_put i.bytes i.size v.0 v.1 v.2 _ _ _ c.put_decimal-self-inside.ensures

pub returns : goal.returns
returns c =
    let i = c.self.inside in
    let v = c.self.invariant in
    subst (λ (t : List ℕ). Pushed t (decimal c.args.n) (take c.put_decimal-self-inside.result c.put_decimal-self-inside.new.text)) c.self.view_is (pushed_by_put i.bytes i.size v.0 v.1 v.2 _ _ _ c.put_decimal-self-inside.ensures)
