-- `from_view_and_projection` meets its contract: the lengths by its tests, the result by what it calls. Assumes nothing.
use Rattle.std.specs.Prelude.{Option, Some}
use mathlib.Core.Path.{◌≡◌, sym, ap, ap₂, ◌∙◌}
use mathlib.Core.Bool.{Bool, true, false}
use mathlib.Core.List.{List}
use borrow.Author.Tests.{eq-eqb}
use lib.Ieee.{Float}
use Rattle.std.specs.Result.{result_ok}
use Rattle.number.proofs.Ways.{both, left, written}
use Rattle.number.specs.Answer.{Outcome, refused, outcome, unless, replied}
use Rattle.number.specs.Slice.{all_finite}
use Rattle.matrix.specs.Matrix.{product}
use Rattle.matrix.specs.Inverse.{inverse}
use Rattle.matrix.specs.declared.matrix.Mat4d.{Mat4d}
use Rattle.volume.specs.Volume.{numbers, finite_only, clip_volume_by, clip_volume, from_matrices_call}
use Rattle.volume.proofs.Counted.{count}
use Rattle.volume.proofs.volume.from_view_and_projection.Goals as goal

-- the reply by what was found: the product of what was read, and its inverse
module _ (out : List Float) {a b a' b' : Mat4d} (p : a ≡ a') (q : b ≡ b') (m : Mat4d) (r : m ≡ product a b) (i : Option Mat4d) (h : i ≡ inverse m) where
  found : {j : Option Mat4d} {o : Outcome (List Float)} → i ≡ j → o ≡ clip_volume_by m j → replied o out ≡ replied (clip_volume (product a' b')) out
  unfolding clip_volume
  found e s = ap (λ (o : Outcome (List Float)). replied o out) (s ∙ ap (clip_volume_by m) (sym e ∙ h) ∙ ap clip_volume (r ∙ ap₂ product p q))

-- and the test of its numbers
tested : (m n : Mat4d) (s : List Float) (z w : Bool) → s ≡ numbers m n → z ≡ all_finite s → z ≡ w → unless w (refused 8) (outcome s) ≡ clip_volume_by m (Some n)
unfolding finite_only
tested m n s z w e f g = ap (λ (b : Bool). unless b (refused 8) (outcome s)) (sym g ∙ f) ∙ ap finite_only e

pub returns-then-not-all_finite : goal.returns-then-not-all_finite
unfolding from_matrices_call
returns-then-not-all_finite c =
    found _ c.load.ensures c.load-2.ensures _ c.product-product.ensures _ c.inverse.ensures (c.ok_or.ensures.ok_part ∙ ap result_ok c.in_ok-inverse.was)
    (tested _ _ _ _ false c.numbers-all.ensures c.all_finite.ensures c.if-not-all_finite.true)
    ∙ left _ _ _ _ (both (eq-eqb _ _ c.if-view-ne-MATRIX_LENGTH.false) (eq-eqb _ _ c.if-projection-ne-MATRIX_LENGTH.false)) (c.if-out-volume_length.false ∙ c.volume_length.ensures)

pub returns : goal.returns
unfolding from_matrices_call
returns c =
    written _ 49 _ _ _ _ (both (eq-eqb _ _ c.if-view-ne-MATRIX_LENGTH.false) (eq-eqb _ _ c.if-projection-ne-MATRIX_LENGTH.false))
    (c.if-out-volume_length.false ∙ c.volume_length.ensures) (count _ _ _ c.numbers-all.ensures) c.store.ensures
    (found _ c.load.ensures c.load-2.ensures _ c.product-product.ensures _ c.inverse.ensures (c.ok_or.ensures.ok_part ∙ ap result_ok c.in_ok-inverse.was)
    (tested _ _ _ _ true c.numbers-all.ensures c.all_finite.ensures c.if-not-all_finite.false))
