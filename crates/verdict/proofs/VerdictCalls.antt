-- Each verdict over lent slices is its checks in their order, then the verdict of the values; so that what is answered was given finite numbers. Assumes nothing.
use Rattle.std.proofs.Common.{◌≡◌, ℕ, true, List, [], ◌∷◌, length, sym, refl, ◌∙◌, eq-eqb}
use lib.Ieee.{Float}
use Rattle.number.specs.Limits.{point_length, matrix_length, box_length}
use Rattle.number.specs.Answer.{outcome}
use Rattle.number.specs.Slice.{all_finite}
use Rattle.number.proofs.Ways.{both}
use Rattle.matrix.specs.Vec.{vec3_of}
use Rattle.matrix.specs.Matrix.{matrix_of}
use Rattle.verdict.specs.BBox.{box_of}
use Rattle.verdict.specs.BBoxCalls.{flagged}
use Rattle.verdict.specs.View.{planes_held, planes_of, rays_of}
use Rattle.verdict.specs.Frustum.{point_in_view, segment_in_view, triangle_in_view, box_in_view, box_in_view_volume}
use Rattle.verdict.specs.FrustumCalls.{have_lengths, verdict_after, verdict_by, intersects_point_call, intersects_segment_call, intersects_triangle_call, intersects_box_call, view_volume_call}
use Rattle.verdict.specs.FiniteNumbers.{AnsweredFinite}
use Rattle.verdict.proofs.VerdictChecks.{one_input, two_inputs, last_record, next_record, by_tests, given_finite}

pub point_call_lem : (v p : List Float)
    → verdict_after (have_lengths ((point_length, p) ∷ [])) (planes_held v) true (v ∷ p ∷ []) (λ n. point_in_view (planes_of v n) (vec3_of p)) ≡ intersects_point_call v p
unfolding intersects_point_call verdict_by
point_call_lem v p = refl

pub segment_call : (v p0 p1 : List Float)
    → verdict_after (have_lengths ((point_length, p0) ∷ (point_length, p1) ∷ [])) (planes_held v) true (v ∷ p0 ∷ p1 ∷ [])
    (λ n. segment_in_view (planes_of v n) (vec3_of p0) (vec3_of p1)) ≡ intersects_segment_call v p0 p1
unfolding intersects_segment_call verdict_by
segment_call v p0 p1 = refl

pub triangle_call : (v p0 p1 p2 : List Float)
    → verdict_after (have_lengths ((point_length, p0) ∷ (point_length, p1) ∷ (point_length, p2) ∷ [])) (planes_held v) true (v ∷ p0 ∷ p1 ∷ p2 ∷ [])
    (λ n. triangle_in_view (planes_of v n) (rays_of v n) (vec3_of p0) (vec3_of p1) (vec3_of p2)) ≡ intersects_triangle_call v p0 p1 p2
unfolding intersects_triangle_call verdict_by
triangle_call v p0 p1 p2 = refl

pub box_call : (v b : List Float)
    → verdict_after (have_lengths ((box_length, b) ∷ [])) (planes_held v) (flagged b) (v ∷ b ∷ []) (λ n. box_in_view (planes_of v n) (box_of b)) ≡ intersects_box_call v b
unfolding intersects_box_call verdict_by
box_call v b = refl

pub clip_call : (b m : List Float)
    → verdict_after (have_lengths ((box_length, b) ∷ (matrix_length, m) ∷ [])) (outcome (box_of b)) (flagged b) (b ∷ m ∷ []) (λ x. box_in_view_volume x (matrix_of m)) ≡ view_volume_call b m
unfolding view_volume_call
clip_call b m = refl

-- ---- what is answered was given finite numbers alone

pub answered_finite : AnsweredFinite
answered_finite = record {
  point = λ v p y e. given_finite _ _ _ _ _ y (point_call_lem v p ∙ e);
  segment = λ v p0 p1 y e. given_finite _ _ _ _ _ y (segment_call v p0 p1 ∙ e);
  triangle = λ v p0 p1 p2 y e. given_finite _ _ _ _ _ y (triangle_call v p0 p1 p2 ∙ e);
  box = λ v b y e. given_finite _ _ _ _ _ y (box_call v b ∙ e);
  clip = λ b m y e. given_finite _ _ _ _ _ y (clip_call b m ∙ e);
}

-- ---- by a volume of finite numbers that holds n planes, where the other records have their lengths and finite numbers, and the flag is one

module _ (v : List Float) (n : ℕ) (e : outcome n ≡ planes_held v) (w : all_finite v ≡ true) where
  pub point_answered : (p : List Float) → length p ≡ point_length → all_finite p ≡ true → intersects_point_call v p ≡ outcome (point_in_view (planes_of v n) (vec3_of p))
  point_answered p h f =
      sym (by_tests _ _ _ _ _ (one_input point_length p ∙ eq-eqb _ _ h) e refl (sym (next_record v (sym w) _ (last_record p (sym f)))) ∙ point_call_lem v p)

  pub segment_answered : (p q : List Float) → length p ≡ point_length → length q ≡ point_length → all_finite p ≡ true → all_finite q ≡ true
      → intersects_segment_call v p q ≡ outcome (segment_in_view (planes_of v n) (vec3_of p) (vec3_of q))
  segment_answered p q h i f g =
      sym (by_tests _ _ _ _ _ (two_inputs point_length p point_length q ∙ both (eq-eqb _ _ h) (eq-eqb _ _ i)) e refl
      (sym (next_record v (sym w) _ (next_record p (sym f) _ (last_record q (sym g))))) ∙ segment_call v p q)

  pub box_answered : (b : List Float) → length b ≡ box_length → flagged b ≡ true → all_finite b ≡ true → intersects_box_call v b ≡ outcome (box_in_view (planes_of v n) (box_of b))
  box_answered b h g f =
      sym (by_tests _ _ _ _ _ (one_input box_length b ∙ eq-eqb _ _ h) e g (sym (next_record v (sym w) _ (last_record b (sym f)))) ∙ box_call v b)
