-- The ways out of the operation over lent slices: the verdict's refusals; 14 for a yes, and for a no the place among the planes that the volume holds. Assumes nothing.
use Rattle.std.specs.Prelude.{Option, ℕ}
use mathlib.Core.Path.{◌≡◌, refl, ◌∙◌}
use mathlib.Core.Bool.{Bool, true, false, not}
use mathlib.Core.List.{List}
use Prim.Native.Nat.{ℕ}
use lib.Ieee.{Float}
use Rattle.number.specs.Answer.{Outcome, refused, outcome, unless, and_then}
use Rattle.matrix.specs.Vec.{vec3_of}
use Rattle.verdict.specs.View.{planes_held, planes_of}
use Rattle.verdict.specs.FrustumCalls.{intersects_segment_call}
use Rattle.verdict.proofs.PlanesHeld.{goes_on, is_refused}
use Rattle.blocking.specs.Blocking.{blocking_plane}
use Rattle.blocking.specs.Calls.{blocking_plane_call}

module _ (v p0 p1 : List Float) where
  abbrev among : ℕ → Outcome (Option ℕ)
  among n = outcome (blocking_plane (planes_of v n) (vec3_of p0) (vec3_of p1))

  abbrev after : Bool → Outcome (Option ℕ)
  after seen = unless (not seen) (refused 14) (and_then (planes_held v) among)

  is : and_then (intersects_segment_call v p0 p1) after ≡ blocking_plane_call v p0 p1
  unfolding blocking_plane_call
  is = refl

  pub not_answered : (k : ℕ) → refused k ≡ intersects_segment_call v p0 p1 → refused k ≡ blocking_plane_call v p0 p1
  not_answered k e = is_refused after (intersects_segment_call v p0 p1) k e ∙ is

  pub in_view_lem : outcome true ≡ intersects_segment_call v p0 p1 → refused 14 ≡ blocking_plane_call v p0 p1
  in_view_lem e = goes_on after (intersects_segment_call v p0 p1) true (refused 14) e refl ∙ is

  module _ (e : outcome false ≡ intersects_segment_call v p0 p1) where
    pub not_held : (k : ℕ) → refused k ≡ planes_held v → refused k ≡ blocking_plane_call v p0 p1
    not_held k h = goes_on after (intersects_segment_call v p0 p1) false (refused k) e (is_refused among (planes_held v) k h) ∙ is

    pub answered : (n : ℕ) (x : Outcome (Option ℕ)) → outcome n ≡ planes_held v → x ≡ among n → x ≡ blocking_plane_call v p0 p1
    answered n x h q = goes_on after (intersects_segment_call v p0 p1) false x e (goes_on among (planes_held v) n x h q) ∙ is
