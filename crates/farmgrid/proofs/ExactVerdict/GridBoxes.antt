-- Boxes on the grid, by the tests of the exact verdict: a grid box passes them, with the whole numbers that it is of; and what passes them is a grid box. Assumes nothing.
use mathlib.Core.Path.{◌≡◌, sym, ap, subst, ◌∙◌}
use mathlib.Core.Logic.{inl, inr}
use mathlib.Core.Bool.{Bool, true, false, not, cond, ◌&&◌}
use mathlib.Core.List.{List}
use Prim.Native.Nat.{ℕ, ◌+◌, ◌*◌, ◌≤◌, ◌<◌}
use native.Mathlib.Nat.{le_trans}
use native.Mathlib.Omega.{arith}
use borrow.Author.Tests.{le-leb, eq-eqb}
use lib.Dec.{T, lit<, lit≤}
use lib.ListN.{length}
use lib.Seq.{length-take-le, get_or-take}
use lib.IntN.{ℤ, pos, nat_abs, ◌+ℤ◌, ◌*ℤ◌}
use lib.Signed.{le_z, lt_z, ◌≤ℤ◌, le_z_yes, lt_z_yes, lt_z_no, clash_ℤ}
use lib.Ieee.{Float, nan}
use lib.Ieee.Bits.{is_true}
use Rattle.number.specs.Limits.{flag_place, box_length, grid_limit, distance_limit}
use Rattle.number.specs.Slice.{at}
use Rattle.number.proofs.Tests.{both_hold}
use Rattle.whole.specs.Plane.{WholePlane}
use Rattle.whole.specs.SegmentCall.{number_at, point_within}
use Rattle.whole.proofs.Integer.{le_is, lt_is, eq_is}
use Rattle.verdict.specs.BBoxCalls.{flagged}
use Rattle.placed.specs.Numbers.{truncated, is_whole_number, are_whole_numbers, whole_numbers}
use Rattle.placed.specs.Placement.{WholeBox, columnℤ, movedℤ, sizes, smaller, larger, placed_least, placed_greatest, same_number, grid_along, quarter_turned, is_grid_box}
use Rattle.placed.specs.BBoxCall.{box_numbers, box_in, on_grid}
use Rattle.placed.proofs.Loading.{each}
use Rattle.placed.proofs.Calls.{number_of}
use Rattle.placed.proofs.Moved.{Along, quarter}
use Rattle.farmgrid.specs.Whole.{Whole}
use Rattle.farmgrid.specs.Placement.{Placement}
use Rattle.farmgrid.specs.FarmGrid.{SegmentPlane, GridBox, low_of, high_of}
use Rattle.farmgrid.specs.Records.{ViewRecord, BoxRecord}
use Rattle.farmgrid.proofs.Placements.Singles.{three, four}
use Rattle.farmgrid.proofs.Numbers.WholeFloats.{number_whole, cut_whole, whole_number}
use Rattle.farmgrid.proofs.Records.FiniteNumbers.{joined, by_fours}
use Rattle.farmgrid.proofs.Records.WholeRecords.{grid_point, point_passes}
use Rattle.farmgrid.proofs.Placements.QuarterTurns.{upper_size}
use Rattle.farmgrid.proofs.Placements.PlacedRanges.{placed_is}
use Rattle.farmgrid.proofs.ExactVerdict.ExactRecords.{placed_grid}
use Rattle.farmgrid.proofs.Placements.WholeRanges.{placed_either}
use Rattle.farmgrid.proofs.Numbers.WholeSums.{whole_vec3, whole_matrix, entry_matrix}
use Rattle.farmgrid.proofs.ExactVerdict.GridViews.{all_pass, view_whole, planes_within}

-- ---- boxes of the same whole numbers

record SameBox (A B : WholeBox) : Type 0 where
  low : (j : ℕ) → j < 3 → A.low j ≡ B.low j
  high : (j : ℕ) → j < 3 → A.high j ≡ B.high j
  matrix : (i j : ℕ) → i < 4 → j < 4 → A.matrix i j ≡ B.matrix i j

module _ {A B : WholeBox} (S : SameBox A B) (G : GridBox B) where
  module _ (j : ℕ) (h : j < 3) where
    column : (i : ℕ) → i < 4 → A.matrix i j ≡ B.matrix i j
    column i l = S.matrix i j l (omega arith)

    low_moved : movedℤ A.matrix A.low j ≡ movedℤ B.matrix B.low j
    low_moved t =
        S.low 0 (lit< tt) t *ℤ column 0 (lit< tt) t +ℤ S.low 1 (lit< tt) t *ℤ column 1 (lit< tt) t +ℤ S.low 2 (lit< tt) t *ℤ column 2 (lit< tt) t +ℤ column 3 (lit< tt) t

    high_moved : movedℤ A.matrix A.high j ≡ movedℤ B.matrix B.high j
    high_moved t =
        S.high 0 (lit< tt) t *ℤ column 0 (lit< tt) t +ℤ S.high 1 (lit< tt) t *ℤ column 1 (lit< tt) t +ℤ S.high 2 (lit< tt) t *ℤ column 2 (lit< tt) t +ℤ column 3 (lit< tt) t

    least_alike : placed_least A j ≡ low_of B j
    least_alike = (λ t. smaller (low_moved t) (high_moved t)) ∙ sym (placed_is G.placement false B.low B.high j h)

    greatest_alike : placed_greatest A j ≡ high_of B j
    greatest_alike = (λ t. larger (low_moved t) (high_moved t)) ∙ sym (placed_is G.placement true B.low B.high j h)

    small : {z y : ℤ} → z ≡ y → nat_abs y ≤ grid_limit → nat_abs z ≤ grid_limit
    small e l = subst (λ (w : ℤ). nat_abs w ≤ grid_limit) (sym e) l

    along_passes : grid_along A j ≡ true
    along_passes =
        let m = S.matrix in
        let k : j < 4 = omega arith in
        let F = G.placement in
        let a = le-leb _ _ (small (S.low j h) (G.low.size j h)) in
        let b = le-leb _ _ (small (S.high j h) (G.high.size j h)) in
        let c = (λ t. le_z (S.low j h t) (S.high j h t)) ∙ is_true _ (G.some.ordered j h).le in
        let d = eq-eqb _ _ ((λ t. nat_abs (m j 0 k (lit< tt) t) + nat_abs (m j 1 k (lit< tt) t) + nat_abs (m j 2 k (lit< tt) t)) ∙ F.turn.rows j h) in
        let e = eq-eqb _ _ ((λ t. nat_abs (column 0 (lit< tt) t) + nat_abs (column 1 (lit< tt) t) + nat_abs (column 2 (lit< tt) t)) ∙ F.turn.columns j h) in
        let f = le-leb _ _ (small (column 3 (lit< tt)) (F.translation.size j h)) in
        let g = ap (λ (z : ℤ). same_number z (pos 0)) (m j 3 k (lit< tt) ∙ F.zeros j h) in
        λ t. a t && b t && c t && d t && e t && f t && g t

  grid_passes : is_grid_box A ≡ true
  grid_passes =
      let l = ap (λ (z : ℤ). same_number z (pos 1)) (S.matrix 3 3 (lit< tt) (lit< tt) ∙ G.placement.last) in
      let p = point_passes (placed_least A) (record { size = λ j h. small j h (least_alike j h) ((placed_grid G false).size j h) }) in
      let q = point_passes (placed_greatest A) (record { size = λ j h. small j h (greatest_alike j h) ((placed_grid G true).size j h) }) in
      λ t. along_passes 0 (lit< tt) t && along_passes 1 (lit< tt) t && along_passes 2 (lit< tt) t && l t && p t && q t

-- ---- the whole numbers of a box that passes the test

module _ (b : List Float) (l : length b ≡ box_length) where
  number_at_lem : (i : ℕ) → i < flag_place → number_at (whole_numbers (box_numbers b)) i ≡ truncated (at b i)
  number_at_lem i h = number_of (box_numbers b) i ∙ ap truncated (get_or-take flag_place b i nan h)

  module _ (w : are_whole_numbers (box_numbers b) ≡ true) where
    box_float : (i : ℕ) → i < flag_place → Whole (at b i) (number_at (whole_numbers (box_numbers b)) i)
    box_float i h =
        let p = each is_whole_number (box_numbers b) i nan w (omega (arith, length-take-le flag_place b (omega (arith, l)), h)) in
        let t = get_or-take flag_place b i nan h in
        subst (λ (z : ℤ). Whole (at b i) z) (sym (number_of (box_numbers b) i))
        (subst (λ (x : Float). Whole x (truncated (at (box_numbers b) i))) t (number_whole (at (box_numbers b) i) p))

-- ---- a grid box

module _ {b : List Float} {B : WholeBox} (R : BoxRecord b B) where
  abbrev G : GridBox B
  G = R.box.grid

  low_at : (j : ℕ) → j < 3 → Whole (at b j) (B.low j)
  low_at = let m = R.box.range.min in three (λ j. Whole (at b j) (B.low j)) (m.at 0 (lit< tt)) (m.at 1 (lit< tt)) (m.at 2 (lit< tt))

  high_at : (j : ℕ) → j < 3 → Whole (at b (3 + j)) (B.high j)
  high_at = let m = R.box.range.max in three (λ j. Whole (at b (3 + j)) (B.high j)) (m.at 0 (lit< tt)) (m.at 1 (lit< tt)) (m.at 2 (lit< tt))

  entry_at : (i j : ℕ) → i < 4 → j < 4 → Whole (at b (6 + i * 4 + j)) (B.matrix i j)
  entry_at i j h k = subst (λ (x : Float). Whole x (B.matrix i j)) (entry_matrix (λ i j. at b (6 + i * 4 + j)) i j h k) (R.box.matrix.at i j h k)

  grid_small : (z : ℤ) → nat_abs z ≤ grid_limit → nat_abs z ≤ distance_limit
  grid_small z l = le_trans l (lit≤ tt)

  entry_small : (i j : ℕ) → i < 4 → j < 4 → nat_abs (B.matrix i j) ≤ distance_limit
  entry_small i j h k = four (λ i. nat_abs (B.matrix i j) ≤ distance_limit)
      (λ i l. le_trans (upper_size G.placement i j l k) (lit≤ tt))
      (four (λ j. nat_abs (B.matrix 3 j) ≤ distance_limit) (λ j l. grid_small (B.matrix 3 j) (G.placement.translation.size j l))
      (subst (λ (z : ℤ). nat_abs z ≤ distance_limit) (sym G.placement.last) (lit≤ tt)) j k) i h

  abbrev NumberAt : ℕ → Type 0
  NumberAt i = is_whole_number (at b i) ≡ true

  pub box_whole : are_whole_numbers (box_numbers b) ≡ true
  box_whole =
      let lows : (j : ℕ) → j < 3 → NumberAt j = λ j h. whole_number (low_at j h) (grid_small (B.low j) (G.low.size j h)) in
      let highs : (j : ℕ) → j < 3 → NumberAt (3 + j) = λ j h. whole_number (high_at j h) (grid_small (B.high j) (G.high.size j h)) in
      let entries : (k : ℕ) → k < 16 → NumberAt (3 + (3 + k)) = by_fours (λ k. NumberAt (3 + (3 + k))) 4 (λ i j h k.
      let e : 6 + i * 4 + j ≡ 3 + (3 + (i * 4 + j)) = omega arith in
      subst NumberAt e (whole_number (entry_at i j h k) (entry_small i j h k))) in
      all_pass is_whole_number nan (box_numbers b) (λ i l.
      let m : i < flag_place = omega (arith, length-take-le flag_place b (omega (arith, R.numbers)), l) in
      ap is_whole_number (get_or-take flag_place b i nan m)
      ∙ joined NumberAt 3 19 lows (joined (λ i. NumberAt (3 + i)) 3 16 highs entries) i m)

  same_box : SameBox (box_in b) B
  same_box = record {
    low = λ j h. number_at_lem b R.numbers j (omega arith) ∙ cut_whole (low_at j h) (grid_small (B.low j) (G.low.size j h));
    high = λ j h. number_at_lem b R.numbers (3 + j) (omega arith) ∙ cut_whole (high_at j h) (grid_small (B.high j) (G.high.size j h));
    matrix = λ i j h k. number_at_lem b R.numbers (6 + i * 4 + j) (omega arith) ∙ cut_whole (entry_at i j h k) (entry_small i j h k);
  }

  pub box_passes : is_grid_box (box_in b) ≡ true
  box_passes = grid_passes same_box G

  pub least_is : (j : ℕ) → j < 3 → placed_least (box_in b) j ≡ low_of B j
  least_is = least_alike same_box G

  pub greatest_is : (j : ℕ) → j < 3 → placed_greatest (box_in b) j ≡ high_of B j
  greatest_is = greatest_alike same_box G

-- ---- and what passes the test is one

-- the two opposite corners are on the grid where the least and the greatest corner are
both_small : (n : ℕ) (a b : ℤ) → nat_abs (smaller a b) ≤ n → nat_abs (larger a b) ≤ n → (nat_abs a ≤ n) × (nat_abs b ≤ n)
both_small n a b = go (lt_z b a) (lt_z a b) (λ t u. clash_ℤ (lt_z_yes t) (le_of u)) (λ t u. eq_is a b (omega (arith, (le_is a b).0 (lt_z_no t), (le_is b a).0 (lt_z_no u))))
  where
    le_of : T (lt_z a b) → a ≤ℤ b
    le_of u = (le_is a b).1 (omega (arith, (lt_is a b).0 (lt_z_yes u)))

    go : (u w : Bool) → (T u → T w → ⊥) → (T (not u) → T (not w) → a ≡ b) → nat_abs (cond u b a) ≤ n → nat_abs (cond w b a) ≤ n → (nat_abs a ≤ n) × (nat_abs b ≤ n)
    go true true f g p q = absurd (f tt tt)
    go true false f g p q = (q, p)
    go false true f g p q = (p, q)
    go false false f g p q = (p, subst (λ (z : ℤ). nat_abs z ≤ n) (g tt tt) p)

same_is : (a b : ℤ) → same_number a b ≡ true → a ≡ b
same_is a b e =
    let h = both_hold (le_z a b) (le_z b a) e in
    eq_is a b (omega (arith, (le_is a b).0 (le_z_yes (subst T (sym h.0) tt)), (le_is b a).0 (le_z_yes (subst T (sym h.1) tt))))

is_grid_box_lem : (A : WholeBox) → is_grid_box A ≡ true → GridBox A
is_grid_box_lem A e = record {
  low = record { size = along (λ j. nat_abs (A.low j) ≤ grid_limit) (λ j a. a.low) };
  high = record { size = along (λ j. nat_abs (A.high j) ≤ grid_limit) (λ j a. a.high) };
  some = record { ordered = along (λ j. A.low j ≤ℤ A.high j) (λ j a. le_z_yes (subst T (sym a.ordered) tt)) };
  placement = F;
  placed = λ k h. record {
    size = λ j l. elim (placed_either F A.low A.high j l k) [
      | inl p ↦ subst (λ (z : ℤ). nat_abs z ≤ grid_limit) (sym p) (ends j l).0
      | inr p ↦ subst (λ (z : ℤ). nat_abs z ≤ grid_limit) (sym p) (ends j l).1
    ];
  };
}
  where
    parts : (quarter_turned A && point_within (placed_least A) ≡ true) × (point_within (placed_greatest A) ≡ true)
    parts = both_hold (quarter_turned A && point_within (placed_least A)) (point_within (placed_greatest A)) e

    firsts : (quarter_turned A ≡ true) × (point_within (placed_least A) ≡ true)
    firsts = both_hold (quarter_turned A) (point_within (placed_least A)) parts.0

    along : (P : ℕ → Type 0) → ((j : ℕ) → Along A j → P j) → (j : ℕ) → j < 3 → P j
    along P f = let q = quarter A firsts.0 in three P (f 0 q.along_x) (f 1 q.along_y) (f 2 q.along_z)

    F : Placement A.matrix
    F = record {
      turn = record { rows = along (λ j. sizes (A.matrix j) ≡ 1) (λ j a. a.row); columns = along (λ j. sizes (columnℤ A.matrix j) ≡ 1) (λ j a. a.column) };
      translation = record { size = along (λ j. nat_abs (A.matrix 3 j) ≤ grid_limit) (λ j a. a.translation) };
      zeros = along (λ j. A.matrix j 3 ≡ pos 0) (λ j a. same_is (A.matrix j 3) (pos 0) a.last);
      last = same_is (A.matrix 3 3) (pos 1) (quarter A firsts.0).last;
    }

    ends : (j : ℕ) → j < 3 → (nat_abs (movedℤ A.matrix A.low j) ≤ grid_limit) × (nat_abs (movedℤ A.matrix A.high j) ≤ grid_limit)
    ends j l = both_small grid_limit (movedℤ A.matrix A.low j) (movedℤ A.matrix A.high j)
        ((grid_point (placed_least A) firsts.1).size j l) ((grid_point (placed_greatest A) parts.1).size j l)

pub box_record_lem : (b : List Float) → length b ≡ box_length → flagged b ≡ true → are_whole_numbers (box_numbers b) ≡ true → is_grid_box (box_in b) ≡ true → BoxRecord b (box_in b)
box_record_lem b l f w g = record {
  numbers = l;
  flag = subst T (sym f) tt;
  box = record {
    range = record {
      min = whole_vec3 (at b) (λ j h. box_float b l w j (omega arith));
      max = whole_vec3 (λ j. at b (3 + j)) (λ j h. box_float b l w (3 + j) (omega arith));
    };
    matrix = whole_matrix (λ i j. at b (6 + i * 4 + j)) (λ i j h k. box_float b l w (6 + i * 4 + j) (omega arith));
    grid = is_grid_box_lem (box_in b) g;
  };
}

-- ---- both records

pub both_pass : {v b : List Float} {Ps : List WholePlane} {B : WholeBox} → ViewRecord SegmentPlane v Ps → BoxRecord b B → on_grid v b ≡ true
unfolding on_grid
both_pass R C = λ t. view_whole R t && planes_within R t && box_whole C t && box_passes C t
