-- `push_behind` meets its contract: by its tests, and by what it calls. Assumes nothing.
use mathlib.Core.Path.{◌≡◌, refl, sym, ap, ◌∙◌}
use mathlib.Core.Bool.{Bool, false}
use mathlib.Core.List.{List}
use Prim.Native.Nat.{ℕ}
use native.Mathlib.Omega.{arith}
use lib.Ieee.{Float}
use Rattle.number.specs.Limits.{most_planes}
use Rattle.number.specs.Answer.{Outcome, refused, outcome}
use Rattle.number.specs.Places.{places_below}
use Rattle.matrix.specs.Range.{is_empty}
use Rattle.verdict.specs.declared.bbox.BBox3d.{BBox3d}
use Rattle.verdict.specs.BBox.{box_of}
use Rattle.verdict.specs.View.{planes_of}
use Rattle.verdict.specs.FrustumCalls.{intersects_box_call}
use Rattle.verdict.specs.PlanesBehind.{places_behind, blocking_planes_call}
use Rattle.verdict.specs.PlanesMeaning.{is_set}
use Rattle.verdict.proofs.PlanesBehind.{planes_answered}
use Rattle.farm.specs.Text.{Added}
use Rattle.farm.proofs.Texts.{added_meant}
use Rattle.reason.specs.Lines.{place_words, behind_words}
use Rattle.reason.specs.Steps.{BehindAdded}
use Rattle.reason.proofs.Boxes.{places_are}
use Rattle.reason.proofs.explain.push_behind.Goals as goal

not_both : (k m : ℕ) (o : Outcome ℕ) → refused k ≡ o → outcome m ≡ o → ⊥
not_both k m o e f = let z : ◌≡◌ {A = ℕ} 0 1 = cc in omega (arith, z)

module _ (v x : List Float) (y : Bool) (e : outcome y ≡ intersects_box_call v x) (t l : List ℕ) where
  told : y ≡ false → is_empty (box_of x).range ≡ false → (m : ℕ) → outcome m ≡ blocking_planes_call v x → Added t (place_words (places_below most_planes (is_set m))) l → BehindAdded v x y t l
  told p q m c u n h =
      added_meant (place_words (places_below most_planes (is_set m))) _
      (ap place_words (places_are v n h x y e m c) ∙ sym (λ k. behind_words (p k) (q k) (places_behind (planes_of v n) (box_of x)))) u

  -- a box with a verdict has its planes told
  never : (k : ℕ) → refused k ≡ blocking_planes_call v x → BehindAdded v x y t l
  never k c n h = absurd (not_both k _ (blocking_planes_call v x) c (planes_answered v x y e n _ h refl))

abbrev is_empty_lem : BBox3d → Bool
is_empty_lem b = is_empty b.range

pub returns-in-Ok : goal.returns-in-Ok
returns-in-Ok c =
    let g = c.args in
    told g.volume.now g.bbox.now g.yes c.requires g.text.now _ c.if-yes.false
    (sym (c.is_empty.ensures ∙ ap is_empty_lem c.from_record.ensures) ∙ c.if-is_empty.false) _ c.in-Ok.ensures c.push_places.ensures

pub returns-in_default : goal.returns-in_default
returns-in_default c =
    let g = c.args in
    never g.volume.now g.bbox.now g.yes c.requires g.text.now _ _ c.in_default.ensures
