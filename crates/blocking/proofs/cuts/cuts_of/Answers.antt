-- `cuts_of` meets its contract: the cuts are those of the planes passed. Assumes nothing.
use mathlib.Core.Path.{◌≡◌, sym, ap, ◌∙◌}
use Prim.Native.Nat.{ℕ, ◌+◌}
use native.Mathlib.Numerals.{add-one}
use native.Mathlib.Omega.{arith}
use Rattle.matrix.specs.declared.vec.Vec3d.{Vec3d}
use Rattle.verdict.specs.declared.plane.Plane.{Plane}
use Rattle.verdict.specs.View.{plane_at}
use Rattle.blocking.specs.declared.cuts.Cuts.{Cuts}
use Rattle.blocking.specs.Steps.{cut_below, cuts_with, cuts_below}
use Rattle.blocking.proofs.cuts.cuts_of.Goals as goal

one_more : (f : ℕ → Plane) (a b : Vec3d) (i : ℕ) (c d : Cuts) (p : Plane) → c ≡ cuts_below f a b i → p ≡ f i → d ≡ cuts_with c p a b i → d ≡ cuts_below f a b (i + 1)
unfolding cuts_with cut_below
one_more f a b i c d p e q r = r ∙ (λ t. cuts_with (e t) (q t) a b i) ∙ ap (cuts_below f a b) (sym (add-one i))

pub loop-i-init : goal.loop-i-init
unfolding cut_below
loop-i-init c = λ t. record { start = c.none.ensures t; end = c.none-2.ensures t }

pub loop-i-preserved : goal.loop-i-preserved
loop-i-preserved c =
    let l = c.loop-i in
    let g = c.args in
    one_more (plane_at g.planes.numbers.now) g.a g.b l.i l.cuts _ _ l.invariant c.plane.ensures c.with-cuts.ensures

pub returns : goal.returns
returns c =
    let l = c.loop-i in
    let g = c.args in
    let e : l.i ≡ g.planes.count = omega arith in
    l.invariant ∙ ap (cuts_below (plane_at g.planes.numbers.now) g.a g.b) e
