-- "A survey with NaN must go back to the farm office and never become a class": a verdict that is answered was given finite numbers alone. Definitions and
-- statements only. `T b` says that the test b holds.
use Rattle.std.specs.Prelude.{◌≡◌, Bool, T, List, [], ◌∷◌, Float}
use Rattle.number.specs.Every.{every}
use Rattle.number.specs.Answer.{Outcome, outcome}
use Rattle.number.specs.Slice.{all_finite}
use Rattle.verdict.specs.FrustumCalls.{intersects_point_call, intersects_segment_call, intersects_triangle_call, intersects_box_call, view_volume_call}

-- where there is an answer, yes or no, no number of the records lent is a NaN or an infinity
abbrev pub GivenFinite : Outcome Bool → List (List Float) → Type 0
GivenFinite answer lent = (verdict : Bool) → answer ≡ outcome verdict → T (every all_finite lent)

-- of each verdict, whatever it would look at: "corner rays included"
pub record AnsweredFinite : Type 0 where
  pub point : (v p : List Float) → GivenFinite (intersects_point_call v p) (v ∷ p ∷ [])
  pub segment : (v p0 p1 : List Float) → GivenFinite (intersects_segment_call v p0 p1) (v ∷ p0 ∷ p1 ∷ [])
  pub triangle : (v p0 p1 p2 : List Float) → GivenFinite (intersects_triangle_call v p0 p1 p2) (v ∷ p0 ∷ p1 ∷ p2 ∷ [])
  pub box : (v b : List Float) → GivenFinite (intersects_box_call v b) (v ∷ b ∷ [])
  pub clip : (b m : List Float) → GivenFinite (view_volume_call b m) (b ∷ m ∷ [])
