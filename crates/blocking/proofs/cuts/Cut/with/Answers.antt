-- `Cut::with` meets its contract: by its test whether the plane cuts further. Assumes nothing.
use Rattle.std.specs.Prelude.{Some}
use mathlib.Core.Path.{◌≡◌, sym, ap, ◌∙◌}
use mathlib.Core.Bool.{Bool, true, false, cond}
use Prim.Native.Nat.{ℕ}
use lib.Ieee.{Float, lt}
use Rattle.number.specs.Arithmetic.{upper_of}
use Rattle.blocking.specs.declared.cuts.Cut.{Cut}
use Rattle.blocking.specs.Steps.{with_cut}
use Rattle.blocking.proofs.cuts.Cut.with.Goals as goal

module _ (s : Cut) (x : Float) (i : ℕ) where
  abbrev further : Cut
  further = record { furthest = x; place = Some i; next = s.furthest }

  abbrev no_further : Float → Cut
  no_further y = record { furthest = s.furthest; place = s.place; next = y }

  by : (b : Bool) (y : Float) → lt s.furthest x ≡ b → y ≡ upper_of s.next x → cond b further (no_further y) ≡ with_cut s x i
  unfolding with_cut
  by b y e f = ap (λ (z : Float). cond b further (no_further z)) f ∙ sym (ap (λ (t : Bool). cond t further (no_further (upper_of s.next x))) e)

pub returns-then-self-cut : goal.returns-then-self-cut
returns-then-self-cut c = let a = c.args in by a.self a.cut a.i true (upper_of a.self.next a.cut) c.if-self-cut.true (λ k. upper_of a.self.next a.cut)

pub returns : goal.returns
returns c = let a = c.args in by a.self a.cut a.i false _ c.if-self-cut.false c.upper.ensures
