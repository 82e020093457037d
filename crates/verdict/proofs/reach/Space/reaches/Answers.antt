-- `Space::reaches` meets its contract: by the filter where it tells, else by the plane that it makes. Assumes nothing.
use Rattle.std.proofs.Common.{◌≡◌, Bool, true, false, not, cond, ◌&&◌, T, None, Some, sym, refl, ap, ◌∙◌, subst, rules}
use Rattle.matrix.specs.Range.{is_empty}
use Rattle.matrix.specs.Transform.{homogeneous}
use Rattle.matrix.specs.declared.vec.Vec4d.{Vec4d}
use Rattle.matrix.specs.declared.matrix.Mat4d.{Mat4d}
use Rattle.matrix.specs.declared.range.Range3d.{Range3d}
use Rattle.verdict.specs.declared.plane.Plane.{Plane}
use Rattle.verdict.specs.Plane.{from_equation, equation, reaches_positive_side, under_inverse_transpose}
use Rattle.verdict.specs.Steps.Filter.{trusted, settled_of, Fits, RangeFits}
use Rattle.verdict.proofs.Filter.{filter_settles}
use Rattle.verdict.proofs.reach.Space.reaches.Goals as goal

module _ (e : Vec4d) (r : Range3d) (E : Fits e) (R : RangeFits r) where
  -- what the filter tells
  told : (b : Bool) → Some b ≡ settled_of e r → b ≡ reaches_positive_side (from_equation e) r
  unfolding settled_of
  told b h = go (trusted e r) _ _ refl (λ t q. sym ((filter_settles e r E R t).0 q)) (λ t q. sym ((filter_settles e r E R t).1 q)) h
    where
      go : (t x y : Bool) → trusted e r ≡ t → (T (trusted e r) → T x → not (is_empty r) ≡ reaches_positive_side (from_equation e) r) → (T (trusted e r) → T y → false ≡ reaches_positive_side (from_equation e) r)
          → Some b ≡ cond (t && x) (Some (not (is_empty r))) (cond (t && y) (Some false) None) → b ≡ reaches_positive_side (from_equation e) r
      go true true y p f g k = let q : b ≡ not (is_empty r) = cc in q ∙ f (subst T (sym p) tt) tt
      go true false true p f g k = let q : b ≡ false = cc in q ∙ g (subst T (sym p) tt) tt
      go true false false p f g k = cc
      go false x y p f g k = cc

made : (e : Vec4d) (r : Range3d) (z : Bool) (p : Plane) → z ≡ reaches_positive_side p r → p ≡ from_equation e → z ≡ reaches_positive_side (from_equation e) r
made e r z p i j = i ∙ ap (λ (s : Plane). reaches_positive_side s r) j

carried : (m : Mat4d) (p : Plane) (r : Range3d) (e f : Vec4d) (z : Bool) → z ≡ reaches_positive_side (from_equation f) r → f ≡ homogeneous m e → e ≡ equation p
    → z ≡ reaches_positive_side (under_inverse_transpose m p) r
carried m p r e f z i h g = i ∙ ap (λ (v : Vec4d). reaches_positive_side (from_equation v) r) (h ∙ ap (homogeneous m) g)

pub returns-in-Some : goal.returns-in-Some
returns-in-Some c = carried _ _ _ _ _ _ (told _ _ (search rules) c.args.self.now.fits _ c.in-Some.ensures) c.transform_homogeneous-equation.ensures c.equation.ensures

pub returns-in-None : goal.returns-in-None
returns-in-None c = carried _ _ _ _ _ _ (made _ _ _ _ c.reaches_positive_side.ensures c.from_equation.ensures) c.transform_homogeneous-equation.ensures c.equation.ensures
