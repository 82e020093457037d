-- `ProjectionParams::load` meets its contract: by the kind that was told, if there is one, and number by number by that of `at`. Assumes nothing.
use Rattle.std.specs.Prelude.{None, Option, Some}
use mathlib.Core.Path.{◌≡◌, refl, sym, ap, ◌∙◌}
use mathlib.Core.Bool.{Bool, true, false, cond}
use mathlib.Core.List.{List}
use lib.Ieee.{Float, eq}
use Rattle.number.specs.Slice.{at}
use Rattle.matrix.specs.Constants.{positive_zero, one}
use Rattle.projection.specs.declared.projection.Projection.{Projection}
use Rattle.projection.specs.declared.projection.Projection.TheVariants.{Perspective, Orthographic}
use Rattle.projection.specs.declared.projection.ProjectionParams.{ProjectionParams}
use Rattle.projection.specs.Projection.{kind_of, params_of, params_loaded}
use Rattle.projection.proofs.projection.ProjectionParams.load.Goals as goal

-- the volume of a kind, if there is one
abbrev of_kind : List Float → Option Projection → Option ProjectionParams
of_kind s (Some k) = Some (params_of k s)
of_kind s None = None

by_kind : (s : List Float) (a b : Bool) → of_kind s (cond a (Some Perspective) (cond b (Some Orthographic) None))
    ≡ cond a (Some (params_of Perspective s)) (cond b (Some (params_of Orthographic s)) None)
by_kind s true b = refl
by_kind s false true = refl
by_kind s false false = refl

told : (s : List Float) (x : Float) (k w : Option Projection) → x ≡ at s 0 → k ≡ kind_of x → k ≡ w → of_kind s w ≡ params_loaded s
unfolding params_loaded
told s x k w e h i = ap (of_kind s) (sym i ∙ h ∙ ap kind_of e) ∙ by_kind s (eq (at s 0) positive_zero) (eq (at s 0) one)

pub returns-in_err-projection : goal.returns-in_err-projection
returns-in_err-projection c = rw c.from_residual.ensures (told c.args.s.now _ _ None c.at.ensures c.from_number.ensures c.in_err-projection.was)

pub returns : goal.returns
returns c =
    rw (c.at-2.ensures, c.at-3.ensures, c.at-4.ensures, c.at-5.ensures, c.at-6.ensures, c.at-7.ensures)
    (told c.args.s.now _ _ (Some _) c.at.ensures c.from_number.ensures c.in_ok-projection.was)
