-- Volumes on the grid, by the tests of the exact verdict: a view by segment planes passes them, with the whole numbers that it is of; and what passes them is a view by segment planes.
-- Assumes nothing.
use mathlib.Core.Path.{◌≡◌, refl, sym, ap, subst, ◌∙◌}
use mathlib.Core.Bool.{Bool, true, ◌&&◌}
use mathlib.Core.List.{List, [], ◌∷◌}
use Prim.Native.Nat.{ℕ, zero, suc, ◌+◌, ◌*◌, ◌≤◌, ◌<◌}
use native.Mathlib.Nat.{le_trans}
use native.Mathlib.Omega.{arith}
use lib.Dec.{T, lit<, lit≤}
use lib.ListN.{length, length-map, drop, get_or}
use lib.Seq.{length-take-le, get_or-take}
use lib.IntN.{ℤ, nat_abs}
use lib.Ieee.{Float, nan}
use lib.Ieee.Scale.{finite}
use Rattle.number.specs.Limits.{normal_limit, distance_limit}
use Rattle.number.specs.Every.{every}
use Rattle.number.specs.Slice.{at, all_finite}
use Rattle.number.proofs.Tests.{both_hold}
use Rattle.whole.specs.Plane.{WholePlane}
use Rattle.whole.specs.SegmentCall.{planes_of, view_length, plane_within}
use Rattle.verdict.specs.View.{plane_at, plane_start, ray_start}
use Rattle.placed.specs.Numbers.{truncated, is_whole_number, are_whole_numbers, whole_numbers}
use Rattle.placed.specs.BBoxCall.{count_in, view_numbers, planes_in}
use Rattle.placed.specs.Steps.{HoldsPlanes}
use Rattle.placed.proofs.Loading.{each}
use Rattle.placed.proofs.Calls.{number_of}
use Rattle.placed.proofs.Counted.{counted}
use Rattle.farmgrid.specs.Whole.{Whole}
use Rattle.farmgrid.specs.FarmGrid.{SegmentPlane, IsPlane}
use Rattle.farmgrid.specs.Records.{ViewRecord}
use Rattle.farmgrid.specs.WholeNumbers.{FloatsOf}
use Rattle.farmgrid.specs.ExactBoxes.{SamePlanes}
use Rattle.farmgrid.proofs.Placements.Singles.{three, four}
use Rattle.farmgrid.proofs.Numbers.WholeFloats.{number_whole, whole_number}
use Rattle.farmgrid.proofs.Records.FiniteNumbers.{joined, by_fours, each_plane}
use Rattle.farmgrid.proofs.Records.WholeRecords.{planes_pass}
use Rattle.farmgrid.proofs.Records.BothEngines.{planes_whole}
use Rattle.farmgrid.proofs.Records.Answers.{passed}
use Rattle.farmgrid.proofs.ExactVerdict.ExactRecords.{planes_same, kinds}

-- a test passes at every place
pub all_pass : {A : Type 0} (test : A → Bool) (d : A) (s : List A) → ((i : ℕ) → i < length s → test (get_or s i d) ≡ true) → every test s ≡ true
unfolding every
all_pass test d [] h = refl
all_pass test d (x ∷ s) h = λ t. h 0 (omega arith) t && all_pass test d s (λ i l. h (suc i) (omega arith)) t

-- ---- a view by segment planes

module _ {v : List Float} {Ps : List WholePlane} (R : ViewRecord SegmentPlane v Ps) where
  abbrev n : ℕ
  n = R.count

  pub view_counted : HoldsPlanes v n
  view_counted = counted v n (passed v R.volume)

  abbrev WholeAt : ℕ → Type 0
  WholeAt i = is_whole_number (at v i) ≡ true

  plane_numbers_lem : (k : ℕ) (P : WholePlane) → IsPlane SegmentPlane (plane_at v k) P → (j : ℕ) → j < 4 → WholeAt (plane_start k + j)
  plane_numbers_lem k P h =
      let s : (z : ℤ) → nat_abs z ≤ normal_limit → nat_abs z ≤ distance_limit = λ z l. le_trans l (lit≤ tt) in
      let N = h.normal in
      let E = h.kind.entries in
      four (λ j. WholeAt (plane_start k + j))
      (three (λ j. WholeAt (plane_start k + j))
      (whole_number (N.at 0 (lit< tt)) (s (P.normal 0) (E.size 0 (lit< tt))))
      (whole_number (N.at 1 (lit< tt)) (s (P.normal 1) (E.size 1 (lit< tt))))
      (whole_number (N.at 2 (lit< tt)) (s (P.normal 2) (E.size 2 (lit< tt)))))
      (whole_number h.distance h.kind.far)

  planes_numbers : (i : ℕ) → i < n * 4 → WholeAt (1 + i)
  planes_numbers = by_fours (λ i. WholeAt (1 + i)) n (λ k j h l.
      let e : plane_start k + j ≡ 1 + (k * 4 + j) = omega arith in
      subst WholeAt e (each_plane (λ k. (j : ℕ) → j < 4 → WholeAt (plane_start k + j)) (plane_at v) plane_numbers_lem n R.planes k h j l))

  count_number_lem : (i : ℕ) → i < 1 → WholeAt i
  count_number_lem zero l = let m = R.volume.counted.most in whole_number R.volume.counted.whole (omega arith)
  count_number_lem (suc i) l = absurd (omega arith)

  same_count : view_length (count_in v) ≡ view_length n
  same_count = ap view_length (sym view_counted.says)

  view_long : view_length (count_in v) ≤ length v
  view_long = omega (arith, same_count, R.volume.numbers)

  pub view_whole : are_whole_numbers (view_numbers v) ≡ true
  view_whole = all_pass is_whole_number nan (view_numbers v) (λ i l.
      let m : i < view_length (count_in v) = omega (arith, length-take-le (view_length (count_in v)) v view_long, l) in
      ap is_whole_number (get_or-take (view_length (count_in v)) v i nan m) ∙ joined WholeAt 1 (n * 4) count_number_lem planes_numbers i (omega (arith, m, same_count)))

-- ---- the whole numbers of a view that passes the test

module _ (v : List Float) (m : view_length (count_in v) ≤ length v) (w : are_whole_numbers (view_numbers v) ≡ true) where
  abbrev view : List ℤ
  view = whole_numbers (view_numbers v)

  pub view_length_lem : length view ≡ view_length (count_in v)
  view_length_lem = length-map (view_numbers v) truncated ∙ length-take-le (view_length (count_in v)) v m

  pub view_floats : FloatsOf view v
  view_floats = record {
    same = λ i l.
        let k : i < view_length (count_in v) = omega (arith, view_length_lem, l) in
        let t = get_or-take (view_length (count_in v)) v i nan k in
        let p = each is_whole_number (view_numbers v) i nan w (omega (arith, length-take-le (view_length (count_in v)) v m, k)) in
        subst (λ (z : ℤ). Whole (at v i) z) (sym (number_of (view_numbers v) i))
        (subst (λ (x : Float). Whole x (truncated (at (view_numbers v) i))) t (number_whole (at (view_numbers v) i) p));
  }

module _ {v : List Float} {Ps : List WholePlane} (R : ViewRecord SegmentPlane v Ps) where
  alike : SamePlanes (planes_of (whole_numbers (view_numbers v)) R.count) Ps
  alike =
      let l = view_length_lem v (view_long R) (view_whole R) in
      let c = same_count R in
      planes_same (view_floats v (view_long R) (view_whole R)) R.count (omega (arith, l, c)) R.planes

  pub planes_alike : SamePlanes (planes_in v) Ps
  planes_alike = subst (λ (k : ℕ). SamePlanes (planes_of (whole_numbers (view_numbers v)) k) Ps) (view_counted R).says alike

  pub planes_within : every plane_within (planes_in v) ≡ true
  planes_within = planes_pass (planes_in v) (kinds planes_alike R.planes)

-- ---- and what passes the test is one

drop_finite : (k : ℕ) (s : List Float) → all_finite s ≡ true → all_finite (drop k s) ≡ true
unfolding every
drop_finite zero s e = e
drop_finite (suc k) [] e = refl
drop_finite (suc k) (x ∷ s) e = drop_finite k s (both_hold (finite x) (all_finite s) e).1

pub view_record : (v : List Float) → HoldsPlanes v (count_in v) → all_finite v ≡ true → are_whole_numbers (view_numbers v) ≡ true → every plane_within (planes_in v) ≡ true
    → ViewRecord SegmentPlane v (planes_in v)
view_record v C f w g =
    let n = count_in v in
    let m : view_length n ≤ length v = omega (arith, C.numbers) in
    let l = view_length_lem v m w in
    let F = view_floats v m w in record {
      count = n;
      volume = record {
        counted = record {
          whole = subst (λ (z : ℤ). Whole (at v 0) z) (number_of (view_numbers v) 0 ∙ ap truncated (get_or-take (view_length n) v 0 nan (omega arith)) ∙ C.whole) (F.same 0 (omega (arith, l)));
          fewest = C.fewest;
          most = C.most;
        };
        numbers = C.numbers;
      };
      planes = planes_whole F n (omega (arith, l)) g;
      rays = subst T (sym (drop_finite (ray_start n 0) v f)) tt;
    }
