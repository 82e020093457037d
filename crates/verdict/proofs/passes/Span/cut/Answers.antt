-- `Span::cut` meets its contract: by the sides that the ends are on. Assumes nothing.
use Rattle.std.proofs.Common.{◌≡◌, Bool, true, false, sym, ap, ◌∙◌}
use lib.Ieee.{Float}
use Rattle.number.specs.Arithmetic.{min_of, max_of}
use Rattle.verdict.specs.Frustum.{crossing, start_cut, end_cut}
use Rattle.verdict.proofs.passes.Span.cut.Goals as goal

-- the cuts, by what is known of the sides
cuts : (x y : Bool) (start end at : Float) {i j : Bool} → i ≡ x → j ≡ y → (start_cut x y start at ≡ start_cut i j start at) × (end_cut x y end at ≡ end_cut i j end at)
cuts x y start end at p q = (sym (λ t. start_cut (p t) (q t) start at), sym (λ t. end_cut (p t) (q t) end at))

pub returns-then-in_b : goal.returns-then-in_b
returns-then-in_b c =
    let g = c.args in
    cuts true true g.self.start g.self.end (crossing g.plane g.a g.b) c.if-in_a.true c.if-in_b.true

pub returns-then-in_a : goal.returns-then-in_a
returns-then-in_a c =
    let g = c.args in
    let k = cuts true false g.self.start g.self.end (crossing g.plane g.a g.b) c.if-in_a.true c.if-in_b.false in
    (k.0, c.min.ensures ∙ ap (λ (x : Float). min_of g.self.end x) c.crossing.ensures ∙ k.1)

pub returns-then-in_b-2 : goal.returns-then-in_b-2
returns-then-in_b-2 c =
    let g = c.args in
    let k = cuts false true g.self.start g.self.end (crossing g.plane g.a g.b) c.if-in_a.false c.if-in_b-2.true in
    (c.max.ensures ∙ ap (λ (x : Float). max_of g.self.start x) c.crossing-then-in_b-2.ensures ∙ k.0, k.1)

pub returns : goal.returns
returns c =
    let g = c.args in
    cuts false false g.self.start g.self.end (crossing g.plane g.a g.b) c.if-in_a.false c.if-in_b-2.false
