-- On the farm grid the blocking plane is the exact one. The idea: the segment verdict is exact over any list of planes, so over those without one as well. Assumes
-- nothing.
use Rattle.std.specs.Prelude.{None, Option, Some, ℕ}
use mathlib.Core.Path.{◌≡◌, refl, sym, ap, subst, ◌∙◌}
use mathlib.Core.Logic.{◌↔◌}
use mathlib.Core.Bool.{Bool, true, false}
use mathlib.Core.List.{List, [], ◌∷◌}
use Prim.Native.Nat.{ℕ, zero, suc, ◌<◌}
use native.Mathlib.Omega.{arith}
use lib.Dec.{T}
use lib.ListN.{length}
use lib.IntN.{ℤ}
use lib.Ieee.{Float}
use Rattle.number.specs.Answer.{Outcome, refused, outcome}
use Rattle.number.proofs.Tabulate.{as_many}
use Rattle.matrix.specs.Vec.{vec3_of}
use Rattle.matrix.specs.declared.vec.Vec3d.{Vec3d}
use Rattle.verdict.specs.declared.plane.Plane.{Plane}
use Rattle.verdict.specs.View.{plane_at, planes_of}
use Rattle.verdict.specs.Frustum.{segment_in_view}
use Rattle.verdict.specs.FrustumCalls.{intersects_segment_call}
use Rattle.blocking.specs.Blocking.{without, seen_without, blocking_plane}
use Rattle.blocking.specs.Calls.{blocking_plane_call}
use Rattle.blocking.specs.Meaning.{IsBlocking}
use Rattle.blocking.proofs.Calls as calls
use Rattle.blocking.proofs.Meaning.{blocking_means, none_means}
use Rattle.whole.specs.Plane.{WholePlane}
use Rattle.farmgrid.specs.FarmGrid.{SegmentPlane, IsPoint, ArePlanes, none, more, SegmentInView}
use Rattle.farmgrid.specs.Records.{PointRecord, ViewRecord}
use Rattle.farmgrid.specs.BlockingPlane.{FirstAbsent, BlockingAnswer, BlockingExact}
use Rattle.farmgrid.proofs.Records.FiniteNumbers.{point_finite, view_finite}
use Rattle.farmgrid.proofs.Records.Answers.{passed, segment_answer}
use Rattle.farmgrid.proofs.Segments.Segment.{segment_is}

-- ---- planes without one

planes_without : {Kind : WholePlane → Type 0} {ps : List Plane} {Ps : List WholePlane} → ArePlanes Kind ps Ps → (j : ℕ) → ArePlanes Kind (without j ps) (without j Ps)
planes_without none zero = none
planes_without none (suc j) = none
planes_without (more h hs) zero = hs
planes_without (more h hs) (suc j) = more h (planes_without hs j)

pub one_by_one : {Kind : WholePlane → Type 0} {ps : List Plane} {Ps : List WholePlane} → ArePlanes Kind ps Ps → length ps ≡ length Ps
one_by_one none = refl
one_by_one (more h hs) = ap suc (one_by_one hs)

-- what satisfies all planes satisfies those behind the first
still_seen : (Ps : List WholePlane) (A B : ℕ → ℤ) → 0 < length Ps → SegmentInView Ps A B → SegmentInView (without 0 Ps) A B
still_seen [] A B l s = absurd (omega arith)
still_seen (P ∷ Ps) A B l s = record { k = s.k; m = s.m; some = s.some; part = s.part; seen = s.seen.1 }

module _ {ps : List Plane} {Ps : List WholePlane} {a b : Vec3d} {A B : ℕ → ℤ} (hs : ArePlanes SegmentPlane ps Ps) (g : IsPoint a A) (g' : IsPoint b B) where
  without_is : (j : ℕ) → T (seen_without ps a b j) ↔ SegmentInView (without j Ps) A B
  unfolding seen_without
  without_is j = segment_is (planes_without hs j) g g'

  blocking_is : (i : ℕ) → IsBlocking ps a b i ↔ FirstAbsent Ps A B i
  blocking_is i = (
    λ h. record { place = let l = h.place in omega (arith, one_by_one hs); seen = (without_is i).0 h.seen; first = λ j l s. h.lowest j l ((without_is j).1 s) },
    λ h. record { place = let l = h.place in omega (arith, one_by_one hs); seen = (without_is i).1 h.seen; lowest = λ j l t. h.first j l ((without_is j).0 t) },
  )

  none_is : ((i : ℕ) → i < length ps → T (seen_without ps a b i) → ⊥) ↔ ((j : ℕ) → j < length Ps → SegmentInView (without j Ps) A B → ⊥)
  none_is = (λ h j l s. h j (omega (arith, one_by_one hs)) ((without_is j).1 s), λ h j l t. h j (omega (arith, one_by_one hs)) ((without_is j).0 t))

-- ---- answers

same_refusal : (j k : ℕ) → ◌≡◌ {A = Outcome (Option ℕ)} (refused j) (refused k) → k ≡ j
same_refusal j k e = cc

same_result : (f g : Option ℕ) → ◌≡◌ {A = Outcome (Option ℕ)} (outcome f) (outcome g) → f ≡ g
same_result f g e = cc

not_both : (k : ℕ) (f : Option ℕ) → refused k ≡ outcome f → ⊥
not_both k f e = let z : ◌≡◌ {A = ℕ} 0 1 = cc in omega arith

module _ (answer : Outcome (Option ℕ)) {ps : List Plane} {Ps : List WholePlane} {a b : Vec3d} {A B : ℕ → ℤ} (hs : ArePlanes SegmentPlane ps Ps) (g : IsPoint a A) (g' : IsPoint b B) where
  when_seen : 0 < length Ps → SegmentInView Ps A B → answer ≡ refused 14 → BlockingAnswer answer Ps A B
  when_seen l s e = record {
    in_view = (λ f. s, λ t. e);
    no_other = λ k f. same_refusal 14 k (sym e ∙ f);
    named = λ i. (λ f. absurd (not_both 14 (Some i) (sym e ∙ f)), λ h. absurd (h.0 s));
    none = (λ f. absurd (not_both 14 None (sym e ∙ f)), λ h. absurd (h 0 l (still_seen Ps A B l s)));
  }

  when_hidden : (SegmentInView Ps A B → ⊥) → answer ≡ outcome (blocking_plane ps a b) → BlockingAnswer answer Ps A B
  when_hidden u e = record {
    in_view = (λ f. absurd (not_both 14 (blocking_plane ps a b) (sym f ∙ e)), λ s. absurd (u s));
    no_other = λ k f. absurd (not_both k (blocking_plane ps a b) (sym f ∙ e));
    named = λ i. (
      λ f. (u, (blocking_is hs g g' i).0 ((blocking_means ps a b i).0 (same_result (blocking_plane ps a b) (Some i) (sym e ∙ f)))),
      λ h. e ∙ ap outcome ((blocking_means ps a b i).1 ((blocking_is hs g g' i).1 h.1)),
    );
    none = (
      λ f. (none_is hs g g').0 ((none_means ps a b).0 (same_result (blocking_plane ps a b) None (sym e ∙ f))),
      λ h. e ∙ ap outcome ((none_means ps a b).1 ((none_is hs g g').1 h)),
    );
  }

module _ (v p q : List Float) (Ps : List WholePlane) (A B : ℕ → ℤ) (W : ViewRecord SegmentPlane v Ps) (P : PointRecord p A) (Q : PointRecord q B) where
  abbrev seen : Bool
  seen = segment_in_view (planes_of v W.count) (vec3_of p) (vec3_of q)

  asked : intersects_segment_call v p q ≡ outcome seen
  asked = segment_answer v W.volume (view_finite W) p q P.numbers Q.numbers (point_finite P) (point_finite Q)

  seen_is : T seen ↔ SegmentInView Ps A B
  seen_is = segment_is W.planes P.point Q.point

  some : 0 < length Ps
  some = omega (arith, W.volume.counted.fewest, one_by_one W.planes, as_many (plane_at v) W.count)

  by_verdict : (s : Bool) → seen ≡ s → BlockingAnswer (blocking_plane_call v p q) Ps A B
  by_verdict true e =
      when_seen (blocking_plane_call v p q) W.planes P.point Q.point some (seen_is.0 (subst T (sym e) tt))
      (sym (calls.in_view_lem v p q (sym (asked ∙ ap outcome e))))
  by_verdict false e =
      when_hidden (blocking_plane_call v p q) W.planes P.point Q.point (λ s. subst T e (seen_is.1 s))
      (sym (calls.answered v p q (sym (asked ∙ ap outcome e)) W.count _ (passed v W.volume) refl))

pub blocking_exact : BlockingExact
blocking_exact v p q Ps A B W P Q = by_verdict v p q Ps A B W P Q (seen v p q Ps A B W P Q) refl
