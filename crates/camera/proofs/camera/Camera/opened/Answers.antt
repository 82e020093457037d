-- `Camera::opened` meets its contract: its ways out are the cases of the definition, in their order. Assumes nothing.
use Rattle.std.specs.Prelude.{Err, None, Ok, Option, Some}
use native.Mathlib.Omega.{arith}
use Rattle.std.proofs.lemmas.Result.{err_from_is_err_and}
use mathlib.Core.Path.{◌≡◌, refl, sym, ap, ap₂, ◌∙◌}
use mathlib.Core.Bool.{Bool, true, false}
use lib.Ieee.{Float}
use Rattle.number.specs.Answer.{unless}
use Rattle.number.specs.Slice.{all_finite}
use Rattle.number.specs.declared.answer.Refusal.TheVariants.{NotFinite, Singular, NotAProjection}
use Rattle.matrix.specs.declared.matrix.Mat4d.{Mat4d}
use Rattle.projection.specs.declared.projection.ProjectionParams.{ProjectionParams}
use Rattle.camera.specs.declared.camera.Camera.{Camera}
use Rattle.camera.specs.Camera.{numbers, camera_of, finite_only, opened}
use Rattle.camera.proofs.camera.Camera.opened.Goals as goal

module _ (i : Option Mat4d) (r : Option ProjectionParams) (f : Float) where
  -- by what both are
  by_both : {j : Option Mat4d} {s : Option ProjectionParams} → j ≡ i → s ≡ r → opened j s f ≡ opened i r f
  by_both p q = ap₂ (λ (j : Option Mat4d) (s : Option ProjectionParams). opened j s f) p q

  -- and by the test of the camera that they give
  by_test : (m : Mat4d) (p : ProjectionParams) (c : Camera) (z w : Bool) → Some m ≡ i → Some p ≡ r → c ≡ camera_of m p f
      → z ≡ all_finite (numbers c) → z ≡ w → unless w (Err NotFinite) (Ok c) ≡ opened i r f
  unfolding finite_only
  by_test m p c z w h k e q t =
      ap (λ (b : Bool). unless b (Err NotFinite) (Ok c)) (sym t ∙ q) ∙ ap finite_only e ∙ by_both h k

pub returns-in_err-transform : goal.returns-in_err-transform
returns-in_err-transform c =
    let a = c.args in
    let p = err_from_is_err_and c.from_residual.result c.from_residual.ensures.1 in
    let none : a.inverted ≡ None = grind arith in
    let singular : c.in_err-transform.field-0.0 ≡ Singular = grind arith in
    rw (p.1, p.2, singular) (by_both a.inverted a.recovered a.focal_length (sym none) refl)

pub returns-in_err-params : goal.returns-in_err-params
returns-in_err-params c =
    let a = c.args in
    let p = err_from_is_err_and c.from_residual-in_err-params.result c.from_residual-in_err-params.ensures.1 in
    let some : a.inverted ≡ Some c.in_ok-transform.transform = grind arith in
    let none : a.recovered ≡ None = grind arith in
    let refused : c.in_err-params.field-0.0 ≡ NotAProjection = grind arith in
    rw (p.1, p.2, refused) (by_both a.inverted a.recovered a.focal_length (sym some) (sym none))

pub returns-then-not-is_finite : goal.returns-then-not-is_finite
returns-then-not-is_finite c =
    let a = c.args in
    let some : a.inverted ≡ Some c.in_ok-transform.transform = grind arith in
    let seen : a.recovered ≡ Some c.in_ok-params.params = grind arith in
    by_test a.inverted a.recovered a.focal_length _ _ _ _ false (sym some) (sym seen) c.seeing-camera.ensures
    c.is_finite.ensures c.if-not-is_finite.true

pub returns : goal.returns
returns c =
    let a = c.args in
    let some : a.inverted ≡ Some c.in_ok-transform.transform = grind arith in
    let seen : a.recovered ≡ Some c.in_ok-params.params = grind arith in
    by_test a.inverted a.recovered a.focal_length _ _ _ _ true (sym some) (sym seen) c.seeing-camera.ensures
    c.is_finite.ensures c.if-not-is_finite.false
