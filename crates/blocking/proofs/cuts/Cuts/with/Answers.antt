-- `Cuts::with` meets its contract by what it calls. Assumes nothing.
use mathlib.Core.Path.{◌≡◌, ap, ◌∙◌}
use Prim.Native.Nat.{ℕ}
use lib.Ieee.{Float, neg}
use Rattle.matrix.specs.declared.vec.Vec3d.{Vec3d}
use Rattle.matrix.proofs.Literals.{zero_bits, one_bits}
use Rattle.verdict.specs.declared.plane.Plane.{Plane}
use Rattle.blocking.specs.declared.cuts.Cut.{Cut}
use Rattle.blocking.specs.declared.cuts.Cuts.{Cuts}
use Rattle.blocking.specs.Steps.{cut_from, cut_at_start, cut_at_end, with_cut, cuts_with}
use Rattle.blocking.proofs.cuts.Cuts.with.Goals as goal

both : (s : Cuts) (p : Plane) (a b : Vec3d) (i : ℕ) (x y : Cut) → x ≡ with_cut s.start (cut_at_start a b p) i → y ≡ with_cut s.end (cut_at_end a b p) i
    → ◌≡◌ {A = Cuts} (record { start = x; end = y }) (cuts_with s p a b i)
unfolding cuts_with
both s p a b i x y e f = λ t. record { start = e t; end = f t }

pub returns : goal.returns
returns c =
    let g = c.args in
    let a = c.on_positive_side-in_a.ensures in
    let b = c.on_positive_side-in_b.ensures in
    let x = c.crossing-at.ensures in
    both g.self g.plane g.a g.b g.i _ _
    (c.with.ensures ∙ ap (λ (y : Float). with_cut g.self.start y g.i) (c.cut_from.ensures ∙ (λ t. cut_from (a t) (b t) (zero_bits t) (x t))))
    (c.with-2.ensures ∙ ap (λ (y : Float). with_cut g.self.end y g.i) (c.cut_from-2.ensures ∙ (λ t. cut_from (b t) (a t) (neg (one_bits t)) (neg (x t)))))
