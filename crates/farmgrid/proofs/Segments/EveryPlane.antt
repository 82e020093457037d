-- What is said of each plane is said of every plane of a list: of a test and its meaning, and of planes and their moved ones. Assumes nothing.
use mathlib.Core.Logic.{◌↔◌}
use mathlib.Core.Bool.{Bool}
use mathlib.Core.List.{List, [], ◌∷◌, map}
use lib.Dec.{T}
use lib.Ieee.Fits.{and_i, and_l, and_r}
use Rattle.number.specs.Every.{every}
use Rattle.verdict.specs.declared.plane.Plane.{Plane}
use Rattle.whole.specs.Plane.{WholePlane}
use Rattle.exact.specs.ExactPoint.{Every}
use Rattle.farmgrid.specs.FarmGrid.{IsPlane, ArePlanes, none, more}

-- where a test says K of each plane of a kind, the test of every plane says K of every one
module _ (Kind : WholePlane → Type 0) (test : Plane → Bool) (K : WholePlane → Type 0) (says : (p : Plane) (P : WholePlane) → IsPlane Kind p P → T (test p) ↔ K P) where
  pub every_is : {ps : List Plane} {Ps : List WholePlane} → ArePlanes Kind ps Ps → T (every test ps) ↔ Every K Ps
  unfolding every
  every_is none = (λ t. tt, λ h. tt)
  every_is (more {p} {P} {ps} h hs) =
      let r = says p P h in
      let rs = every_is hs in (
        λ t. (r.0 (and_l (test p) (every test ps) t), rs.0 (and_r (test p) (every test ps) t)),
        λ k. and_i (test p) (every test ps) (r.1 k.0) (rs.1 k.1),
      )

-- where one condition on a plane of a kind brings another, it does so for every plane
pub every_of : {Kind K L : WholePlane → Type 0} → ((P : WholePlane) → Kind P → K P → L P)
    → {ps : List Plane} {Ps : List WholePlane} → ArePlanes Kind ps Ps → Every K Ps → Every L Ps
every_of f none k = tt
every_of f (more {P = P} h hs) k = (f P h.kind k.0, every_of f hs k.1)

-- two conditions at once
pub every_both : (K L : WholePlane → Type 0) (Ps : List WholePlane) → Every K Ps → Every L Ps → Every (λ P. K P × L P) Ps
every_both K L [] k l = tt
every_both K L (P ∷ Ps) k l = ((k.0, l.0), every_both K L Ps k.1 l.1)

-- a condition on the moved planes is one on the planes
module _ (K L : WholePlane → Type 0) (f : WholePlane → WholePlane) (h : (P : WholePlane) → K (f P) ↔ L P) where
  pub every_moved : (Ps : List WholePlane) → Every K (map f Ps) ↔ Every L Ps
  every_moved [] = (λ t. t, λ t. t)
  every_moved (P ∷ Ps) =
      let rs = every_moved Ps in
      (λ t. ((h P).0 t.0, rs.0 t.1), λ t. ((h P).1 t.0, rs.1 t.1))
