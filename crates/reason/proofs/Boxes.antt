-- What is told of boxes by a volume's record: the planes that a box is behind by their bits, a line, and one more at a time. Assumes nothing.
use mathlib.Core.Path.{◌≡◌, refl, sym, ap, subst, ◌∙◌}
use mathlib.Core.Bool.{Bool}
use mathlib.Core.List.{List, [], ◌∷◌, ◌++◌}
use Prim.Native.Nat.{ℕ, zero, suc, ◌+◌, ◌-◌, ◌*◌, ◌≤◌}
use native.Mathlib.Numerals.{add-one}
use native.Mathlib.Omega.{arith}
use lib.ListN.{length, length-append, take, drop}
use lib.Ieee.{Float}
use Rattle.number.specs.Limits.{box_length, most_planes}
use Rattle.number.specs.Answer.{Outcome, outcome}
use Rattle.number.specs.Places.{places_below}
use Rattle.number.proofs.PlacesBelow.{next_fails}
use Rattle.verdict.specs.declared.plane.Plane.{Plane}
use Rattle.verdict.specs.declared.bbox.BBox3d.{BBox3d}
use Rattle.verdict.specs.BBox.{box_of}
use Rattle.verdict.specs.View.{plane_at, planes_held, planes_of}
use Rattle.verdict.specs.Frustum.{box_in_view}
use Rattle.verdict.specs.FrustumCalls.{intersects_box_call}
use Rattle.verdict.proofs.PlanesHeld.{held}
use Rattle.number.specs.Tabulate.{tabulate}
use Rattle.number.specs.Records.{record_at, records}
use Rattle.number.proofs.Tabulate.{as_many, last}
use Rattle.verdict.specs.PlanesBehind.{is_behind, places_behind, blocking_planes, blocking_planes_call}
use Rattle.verdict.specs.PlanesMeaning.{is_set}
use Rattle.verdict.proofs.PlanesBehind.{same_places, box_by, planes_answered}
use Rattle.verdict.proofs.PlanesMeaning.{bit_at, past_planes}
use Rattle.placed.specs.BBoxCall.{ExactBoxCall}
use Rattle.farm.specs.Text.{lines_from, Added}
use Rattle.farm.proofs.Texts.{none_added, added_then, added_meant, lines_more}
use Rattle.reason.specs.Lines.{Reason, place_words, reason_line}
use Rattle.reason.specs.Explained.{reason_of, Reasons, none, more}
use Rattle.reason.specs.Steps.{places_room, reason_room, LineAdded, LinesAdded}
use Rattle.reason.proofs.Texts.{short_words, short_line}

-- ---- the bits of the planes that a box is behind

module _ (ps : List Plane) (b : BBox3d) (few : length ps ≤ most_planes) where
  abbrev bits : ℕ
  bits = blocking_planes ps b

  -- no place past the last plane is told
  more_places : (k n : ℕ) → n ≡ length ps + k → places_below n (is_set bits) ≡ places_below (length ps) (is_set bits)
  more_places zero n e = ap (λ (m : ℕ). places_below m (is_set bits)) (omega (arith, e))
  more_places (suc k) n e =
      ap (λ (m : ℕ). places_below m (is_set bits)) (omega (arith, e)) ∙ next_fails (length ps + k) (is_set bits) (past_planes ps b (length ps + k) (omega arith))
      ∙ more_places k (length ps + k) refl

  places_by : places_below most_planes (is_set bits) ≡ places_behind ps b
  unfolding places_behind
  places_by = more_places (most_planes - length ps) most_planes (omega arith) ∙ same_places (length ps) (is_set bits) (is_behind ps b) (λ i l. bit_at ps b i l)

-- ---- a volume that holds n planes

module _ (v : List Float) (n : ℕ) (h : outcome n ≡ planes_held v) where
  abbrev ps : List Plane
  ps = planes_of v n

  few_planes : length ps ≤ most_planes
  few_planes = omega (arith, as_many (plane_at v) n, (held v n h).most)

  -- a box that has a verdict
  module _ (x : List Float) (y : Bool) (e : outcome y ≡ intersects_box_call v x) where
    pub verdict_is : y ≡ box_in_view ps (box_of x)
    verdict_is =
        let r = box_by v x y (sym e) in
        let f = r.holds in
        let m : r.by ≡ n = cc in
        sym r.is ∙ ap (λ (k : ℕ). box_in_view (planes_of v k) (box_of x)) m

    pub places_are : (m : ℕ) → outcome m ≡ blocking_planes_call v x → places_below most_planes (is_set m) ≡ places_behind ps (box_of x)
    places_are m f =
        let g = planes_answered v x y e n _ h refl in
        let z : m ≡ blocking_planes ps (box_of x) = cc in
        ap (λ (k : ℕ). places_below most_planes (is_set k)) z ∙ places_by ps (box_of x) few_planes

  -- ---- a line has room

  pub short_places : (x : List Float) → length (place_words (places_behind ps (box_of x))) ≤ places_room
  unfolding places_behind
  short_places x = let w = short_words (is_behind ps (box_of x)) (length ps) in omega (arith, w, few_planes)

  short_reason : (k : ℕ) (x : List Float) (answer : Outcome Bool) → length (reason_line k (reason_of ps x answer)) ≤ reason_room
  short_reason k x answer = short_line k (reason_of ps x answer) (short_places x)

  pub short_lines : (k : ℕ) {xs : List (List Float)} {rs : List Reason} → Reasons v ps xs rs → length (lines_from reason_line k rs) ≤ reason_room * length xs
  unfolding lines_from
  short_lines k none = omega arith
  short_lines k (more {x} {xs} {rs} answer c q) =
      omega (arith, length-append (reason_line k (reason_of ps x answer)) (lines_from reason_line (suc k) rs), short_reason k x answer, short_lines (suc k) q)

-- ---- one line more

as_many_reasons : {v : List Float} {ps : List Plane} {xs : List (List Float)} {rs : List Reason} → Reasons v ps xs rs → length rs ≡ length xs
as_many_reasons none = refl
as_many_reasons (more answer c q) = ap suc (as_many_reasons q)

reasons_more : {v : List Float} {ps : List Plane} {xs : List (List Float)} {rs : List Reason} → Reasons v ps xs rs → (x : List Float) (answer : Outcome Bool)
    → ExactBoxCall v x answer → Reasons v ps (xs ++ (x ∷ [])) (rs ++ (reason_of ps x answer ∷ []))
reasons_more none x answer c = more answer c none
reasons_more (more a d q) x answer c = more a d (reasons_more q x answer c)

module _ {v : List Float} {ps : List Plane} (s : List Float) where
  pub no_line : (t : List ℕ) → [] ≡ t → LinesAdded v ps (records box_length 0 s) t
  unfolding tabulate lines_from
  no_line t e = record { reasons = []; allowed = none; added = subst (λ (l : List ℕ). Added [] [] l) e (none_added []) }

  pub line_more : (i : ℕ) (t m : List ℕ) → LinesAdded v ps (records box_length i s) t → LineAdded v ps (take box_length (drop (i * box_length) s)) (i + 1) t m
      → LinesAdded v ps (records box_length (i + 1) s) m
  line_more i t m p q =
      let x = take box_length (drop (i * box_length) s) in
      let rs = p.reasons in
      let r = reason_of ps x q.answer in
      let e : 1 + length rs ≡ i + 1 = omega (arith, as_many_reasons p.allowed, as_many (record_at box_length s) i) in
      record {
        reasons = rs ++ (r ∷ []);
        allowed = subst (λ (xs : List (List Float)). Reasons v ps xs (rs ++ (r ∷ []))) (sym (ap (λ (k : ℕ). records box_length k s) (add-one i) ∙ last (record_at box_length s) i)) (reasons_more p.allowed x q.answer q.called);
        added = added_meant (lines_from reason_line 1 rs ++ reason_line (i + 1) r) _
            (sym (lines_more reason_line 1 rs r ∙ ap (λ (k : ℕ). lines_from reason_line 1 rs ++ reason_line k r) e)) (added_then p.added q.added);
      }
