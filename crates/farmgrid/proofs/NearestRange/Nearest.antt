-- The nearest range and those within a distance are the exact ones: squared distances of grid points are whole numbers, whose order floats keep. Assumes nothing.
use mathlib.Core.Path.{◌≡◌, refl, sym, ap, ◌∙◌, subst}
use mathlib.Core.Bool.{Bool, true, false, not, ◌&&◌}
use mathlib.Core.List.{List}
use mathlib.Core.Logic.Iff
use mathlib.Core.Logic.{◌↔◌}
use Prim.Native.Nat.{ℕ, ◌*◌, ◌%◌, ◌<◌}
use native.Mathlib.Omega.{arith}
use borrow.Author.Tests.{eq-eqb, lt-ltb}
use lib.Dec.{T, leb, le→leb}
use lib.ListN.{length}
use lib.IntN.{ℤ}
use lib.Signed.{◌≤ℤ◌}
use lib.Ieee.{Float, le, is_nan}
use lib.Ieee.Bits.{is_true}
use Rattle.number.specs.Limits.{point_length, range_length}
use Rattle.number.specs.Slots.{slots_of}
use Rattle.number.specs.Answer.{refused, outcome, unless, has, answering}
use Rattle.matrix.specs.Vec.{vec3_of}
use Rattle.matrix.specs.Range.{is_empty}
use Rattle.nearest.specs.Nearest.{most_ranges, range_count, range_at, are_ranges, distance_at, is_candidate, is_within, nearest_of, places_within}
use Rattle.nearest.specs.Calls.{nearest_call, listing, within_call}
use Rattle.nearest.specs.Meaning.{IsNearest, AreWithin}
use Rattle.nearest.proofs.Meaning.{nearest_means, none_means, within_means}
use Rattle.farmgrid.specs.Whole.{Whole}
use Rattle.farmgrid.specs.Placement.{NonEmpty}
use Rattle.farmgrid.specs.Records.{PointRecord}
use Rattle.farmgrid.specs.Nearest.{square_to, RangeRecords, ExactlyNearest, NearestExact, WithinExact}
use Rattle.farmgrid.proofs.Numbers.Exact.{lt_whole, le_whole, whole_not_nan}
use Rattle.farmgrid.proofs.Placements.WholeRanges.{empty_whole, nonempty_is}
use Rattle.farmgrid.proofs.NearestRange.RangeDistance.{range_distance_whole}

-- a test that does not hold is false, and the other way about
not_holds : (b : Bool) → T (not b) ↔ (b ≡ false)
not_holds true = (λ t. absurd t, λ e. absurd (subst T e tt))
not_holds false = (λ t. refl, λ e. tt)

both : (a b : Bool) → b ≡ true → T (a && b) ↔ T a
both true b e = (λ t. tt, λ t. subst T (sym e) tt)
both false b e = (λ t. t, λ t. t)

and_is : (a b : Bool) → T (a && b) ↔ (T a × T b)
and_is true b = (λ t. (tt, t), λ t. t.1)
and_is false b = (λ t. absurd t, λ t. t.0)

module _ {s p : List Float} {n : ℕ} {low high : ℕ → ℕ → ℤ} {A : ℕ → ℤ} (R : RangeRecords s n low high) (P : PointRecord p A) where
  count_is : range_count s ≡ n
  count_is = let e = R.numbers in omega arith

  distance_is : (i : ℕ) → i < n → Whole (distance_at s (vec3_of p) i) (square_to (low i) (high i) A)
  distance_is i l = range_distance_whole (R.range i l) (R.low_grid i l) (R.high_grid i l) P.point.numbers P.point.grid

  filled_is : (i : ℕ) → i < n → T (not (is_empty (range_at s i))) ↔ NonEmpty (low i) (high i)
  filled_is i l =
      Iff.trans (not_holds (is_empty (range_at s i)))
      (Iff.trans (λ e. sym (empty_whole (R.range i l)) ∙ e, λ e. empty_whole (R.range i l) ∙ e) (nonempty_is (low i) (high i)))

  candidate_is : (i : ℕ) → i < n → T (is_candidate s (vec3_of p) i) ↔ NonEmpty (low i) (high i)
  unfolding is_candidate
  candidate_is i l =
      Iff.trans (both (not (is_empty (range_at s i))) (not (is_nan (distance_at s (vec3_of p) i))) (ap not (whole_not_nan (distance_is i l)))) (filled_is i l)

  asked : (are_ranges s && has point_length p) ≡ true
  asked =
      let e = R.numbers in let a = R.some in let b = R.most in
      λ k. lt-ltb 0 (length s) (omega arith) k && eq-eqb (length s % range_length) 0 (omega arith) k
      && is_true (leb (length s) (most_ranges * range_length)) (le→leb (length s) (most_ranges * range_length) (omega arith)) k && eq-eqb (length p) point_length P.numbers k

  to_exact : (i : ℕ) → IsNearest s (vec3_of p) i → ExactlyNearest n low high A i
  to_exact i h = record {
    place = here;
    filled = (candidate_is i here).0 h.candidate;
    nothing_nearer = λ j l t. (le_whole (distance_is i here) (distance_is j l)).0 (h.nothing_nearer j (subst (λ (m : ℕ). j < m) (sym count_is) l) ((candidate_is j l).1 t));
    earlier_further = λ j l t.
        let k : j < n = omega arith in
        (lt_whole (distance_is i here) (distance_is j k)).0 (h.earlier_further j l ((candidate_is j k).1 t));
  }
    where
      here : i < n
      here = subst (λ (m : ℕ). i < m) count_is h.place

  from_exact : (i : ℕ) → ExactlyNearest n low high A i → IsNearest s (vec3_of p) i
  from_exact i h = record {
    place = subst (λ (m : ℕ). i < m) (sym count_is) h.place;
    candidate = (candidate_is i h.place).1 h.filled;
    nothing_nearer = λ j l t.
        let k = subst (λ (m : ℕ). j < m) count_is l in
        (le_whole (distance_is i h.place) (distance_is j k)).1 (h.nothing_nearer j k ((candidate_is j k).0 t));
    earlier_further = λ j l t.
        let k = before j l in
        (lt_whole (distance_is i h.place) (distance_is j k)).1 (h.earlier_further j l ((candidate_is j k).0 t));
  }
    where
      before : (j : ℕ) → j < i → j < n
      before j l = let m = h.place in omega arith

  answer_is : nearest_call s p ≡ outcome (nearest_of s (vec3_of p))
  unfolding nearest_call answering
  answer_is = ap (λ (b : Bool). unless b (refused 1) (outcome (nearest_of s (vec3_of p)))) asked

pub nearest_exact : NearestExact
nearest_exact s p n low high A R P = record {
  place = nearest_of s (vec3_of p);
  answered = answer_is R P;
  nearest = λ i. Iff.trans (nearest_means s (vec3_of p) i) (to_exact R P i, from_exact R P i);
  all_empty = Iff.trans (none_means s (vec3_of p)) (
    λ h i l t. h i (subst (λ (m : ℕ). i < m) (sym (count_is R P)) l) ((candidate_is R P i l).1 t),
    λ h i l t. let k = subst (λ (m : ℕ). i < m) (count_is R P) l in h i k ((candidate_is R P i k).0 t),
  );
}

-- ---- those within a distance

module _ {s p : List Float} {n : ℕ} {low high : ℕ → ℕ → ℤ} {A : ℕ → ℤ} (R : RangeRecords s n low high) (P : PointRecord p A) {limit : Float} {L : ℤ} (W : Whole limit L) where
  within_is : (i : ℕ) → i < n → T (is_within s (vec3_of p) limit i) ↔ (NonEmpty (low i) (high i) × (square_to (low i) (high i) A ≤ℤ L))
  unfolding is_within
  within_is i l =
      let a = and_is (not (is_empty (range_at s i))) (le (distance_at s (vec3_of p) i) limit) in
      let f = filled_is R P i l in
      let d = le_whole (distance_is R P i l) W in
      (λ t. let h = a.0 t in (f.0 h.0, d.0 h.1), λ t. a.1 (f.1 t.0, d.1 t.1))

  listing_is : (out : List ℕ) → length out ≡ n
      → within_call s p limit out ≡ listing (outcome (length (places_within s (vec3_of p) limit))) (slots_of n (places_within s (vec3_of p) limit))
  unfolding within_call
  listing_is out e =
      let places = places_within s (vec3_of p) limit in
      ap (λ (b : Bool). unless b (listing (refused 1) out) (unless (has (range_count s) out) (listing (refused 2) out) (listing (outcome (length places)) (slots_of (range_count s) places)))) (asked R P)
      ∙ ap (λ (b : Bool). unless b (listing (refused 2) out) (listing (outcome (length places)) (slots_of (range_count s) places))) (eq-eqb (length out) (range_count s) (e ∙ sym (count_is R P)))
      ∙ ap (λ (m : ℕ). listing (outcome (length places)) (slots_of m places)) (count_is R P)

pub within_exact : WithinExact
within_exact s p limit out n low high A L R P W e = record {
  places = places_within s (vec3_of p) limit;
  answered = listing_is R P W out e;
  within = record {
    listed = λ i. (
      λ m. let h = (means.listed i).0 m in
          let k = subst (λ (j : ℕ). i < j) (count_is R P) h.0 in
          let w = (within_is R P W i k).0 h.1 in (k, w.0, w.1),
      λ h. (means.listed i).1 (subst (λ (j : ℕ). i < j) (sym (count_is R P)) h.0, (within_is R P W i h.0).1 (h.1, h.2)),
    );
    rising = means.rising;
  };
}
  where
    means : AreWithin s (vec3_of p) limit (places_within s (vec3_of p) limit)
    means = within_means s (vec3_of p) limit
