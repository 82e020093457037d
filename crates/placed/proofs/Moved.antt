-- The placed box of a record on the grid: its numbers as the code reads them are those of its definition, and they are small. Assumes nothing.
use mathlib.Core.Path.{◌≡◌, ap, subst, sym, ◌∙◌}
use mathlib.Core.Bool.{true, ◌&&◌}
use mathlib.Core.List.{List}
use Prim.Native.Nat.{ℕ, zero, suc, ◌+◌, ◌*◌, ◌≤◌, ◌<◌}
use native.Mathlib.Omega.{arith}
use borrow.Author.Tests.{leb-true, eqb-true}
use lib.Dec.{eqb}
use lib.IntN.{ℤ, pos, nat_abs, ◌+ℤ◌, ◌*ℤ◌}
use lib.Signed.{le_z}
use Rattle.number.specs.Limits.{grid_limit, distance_limit}
use Rattle.number.proofs.Tests.{both_hold}
use Rattle.whole.specs.Plane.{dotℤ}
use Rattle.whole.specs.SegmentCall.{number_at, within}
use Rattle.whole.proofs.Integer.{min_ind, max_ind}
use Rattle.placed.specs.Placement.{WholeBox, box_of, movedℤ, columnℤ, sizes, placed_least, placed_greatest, same_number, grid_along, quarter_turned}
use Rattle.exact.specs.Steps.{Vec3i, vec_of, Sized}
use Rattle.placed.specs.Steps.{corner_at, column_at, BoxNumbers, Placing}
use Rattle.placed.proofs.Registers.{R, kept_as, moved_small}

-- ---- a column, as the code finds it
column_is : (s : List ℤ) (j k : ℕ) → number_at s (6 + j + k * 4) ≡ (box_of s).matrix k j
column_is s j k = ap (number_at s) (omega arith)

pub column_sizes : (s : List ℤ) (j : ℕ) → sizes (vec_of (column_at s j)) ≡ sizes (columnℤ (box_of s).matrix j)
column_sizes s j = λ t. nat_abs (column_is s j 0 t) + nat_abs (column_is s j 1 t) + nat_abs (column_is s j 2 t)

pub translation_is : (s : List ℤ) (j : ℕ) → number_at s (18 + j) ≡ (box_of s).matrix 3 j
translation_is s j = ap (number_at s) (omega arith)

-- ---- a moved corner
module _ (s : List ℤ) (from j : ℕ) where
  pub moved_is : dotℤ (vec_of (corner_at s from)) (vec_of (column_at s j)) +ℤ number_at s (18 + j) ≡ movedℤ (box_of s).matrix (λ k. number_at s (from + k)) j
  moved_is = λ t. number_at s (from + 0) *ℤ column_is s j 0 t +ℤ number_at s (from + 1) *ℤ column_is s j 1 t +ℤ number_at s (from + 2) *ℤ column_is s j 2 t
      +ℤ translation_is s j t

  -- from what its parts are read as
  pub moved_read : (u v : Vec3i) (w t : ℤ) → u ≡ corner_at s from → v ≡ column_at s j → w ≡ number_at s (18 + j) → nat_abs (number_at s (18 + j)) ≤ distance_limit
      → t ≡ dotℤ (vec_of u) (vec_of v) +ℤ R w → t ≡ movedℤ (box_of s).matrix (λ k. number_at s (from + k)) j
  moved_read u v w t e f g h m = m ∙ (λ i. dotℤ (vec_of (e i)) (vec_of (f i)) +ℤ kept_as w (number_at s (18 + j)) g h i) ∙ moved_is

-- ---- sizes of what is read
pub sized_read : {b : ℕ} {u v : Vec3i} → u ≡ v → Sized b v → Sized b u
sized_read {b} e h = subst (Sized b) (sym e) h

module _ {s : List ℤ} (P : Placing s) (j : ℕ) (h : j < 3) where
  pub low_small : nat_abs (movedℤ (box_of s).matrix (box_of s).low j) ≤ distance_limit
  low_small = subst (λ (z : ℤ). nat_abs z ≤ distance_limit) (moved_is s 0 j) (moved_small (number_at s (18 + j)) P.low (P.turn j h) (P.translation j h))

  pub high_small : nat_abs (movedℤ (box_of s).matrix (box_of s).high j) ≤ distance_limit
  high_small = subst (λ (z : ℤ). nat_abs z ≤ distance_limit) (moved_is s 3 j) (moved_small (number_at s (18 + j)) P.high (P.turn j h) (P.translation j h))

  pub least_small : nat_abs (placed_least (box_of s) j) ≤ distance_limit
  least_small = min_ind (λ z. nat_abs z ≤ distance_limit) (movedℤ (box_of s).matrix (box_of s).low j) (movedℤ (box_of s).matrix (box_of s).high j) (λ l. high_small) (λ l. low_small)

  pub greatest_small : nat_abs (placed_greatest (box_of s) j) ≤ distance_limit
  greatest_small = max_ind (λ z. nat_abs z ≤ distance_limit) (movedℤ (box_of s).matrix (box_of s).low j) (movedℤ (box_of s).matrix (box_of s).high j) (λ l. high_small) (λ l. low_small)

-- ---- what the tests say
pub record Along (B : WholeBox) (i : ℕ) : Type 0 where
  pub low : nat_abs (B.low i) ≤ grid_limit
  pub high : nat_abs (B.high i) ≤ grid_limit
  pub ordered : le_z (B.low i) (B.high i) ≡ true
  pub row : sizes (B.matrix i) ≡ 1
  pub column : sizes (columnℤ B.matrix i) ≡ 1
  pub translation : nat_abs (B.matrix 3 i) ≤ grid_limit
  pub last : same_number (B.matrix i 3) (pos 0) ≡ true

pub along : (B : WholeBox) (i : ℕ) → grid_along B i ≡ true → Along B i
along B i e =
    let a = within grid_limit (B.low i) in
    let b = within grid_limit (B.high i) in
    let c = le_z (B.low i) (B.high i) in
    let d = eqb (sizes (B.matrix i)) 1 in
    let f = eqb (sizes (columnℤ B.matrix i)) 1 in
    let g = within grid_limit (B.matrix 3 i) in
    let h = both_hold (a && b && c && d && f && g) (same_number (B.matrix i 3) (pos 0)) e in
    let h5 = both_hold (a && b && c && d && f) g h.0 in
    let h4 = both_hold (a && b && c && d) f h5.0 in
    let h3 = both_hold (a && b && c) d h4.0 in
    let h2 = both_hold (a && b) c h3.0 in
    let h1 = both_hold a b h2.0 in record {
      low = leb-true _ _ h1.0;
      high = leb-true _ _ h1.1;
      ordered = h2.1;
      row = eqb-true _ _ h3.1;
      column = eqb-true _ _ h4.1;
      translation = leb-true _ _ h5.1;
      last = h.1;
    }

pub record Quarter (B : WholeBox) : Type 0 where
  pub along_x : Along B 0
  pub along_y : Along B 1
  pub along_z : Along B 2
  pub last : same_number (B.matrix 3 3) (pos 1) ≡ true

pub quarter : (B : WholeBox) → quarter_turned B ≡ true → Quarter B
quarter B e =
    let a = grid_along B 0 in
    let b = grid_along B 1 in
    let c = grid_along B 2 in
    let h = both_hold (a && b && c) (same_number (B.matrix 3 3) (pos 1)) e in
    let g = both_hold (a && b) c h.0 in
    let f = both_hold a b g.0 in
    record { along_x = along B 0 f.0; along_y = along B 1 f.1; along_z = along B 2 g.1; last = h.1 }

pub placing : {s : List ℤ} → BoxNumbers s → quarter_turned (box_of s) ≡ true → Placing s
placing {s} b e =
    let B = box_of s in
    let q = quarter B e in
    let x = q.along_x in
    let y = q.along_y in
    let z = q.along_z in record {
      numbers = b;
      low = record { x = x.low; y = y.low; z = z.low };
      high = record { x = x.high; y = y.high; z = z.high };
      turn = three (λ j. Sized 1 (column_at s j)) (sized 0 x.column) (sized 1 y.column) (sized 2 z.column);
      translation = three (λ j. nat_abs (number_at s (18 + j)) ≤ grid_limit) x.translation y.translation z.translation;
    }
  where
    three : (P : ℕ → Type 0) → P 0 → P 1 → P 2 → (i : ℕ) → i < 3 → P i
    three P a b c zero h = a
    three P a b c (suc zero) h = b
    three P a b c (suc (suc zero)) h = c
    three P a b c (suc (suc (suc i))) h = absurd (omega arith)

    sized : (j : ℕ) → sizes (columnℤ (box_of s).matrix j) ≡ 1 → Sized 1 (column_at s j)
    sized j e =
        let f : nat_abs (number_at s (6 + j + 0 * 4)) + nat_abs (number_at s (6 + j + 1 * 4)) + nat_abs (number_at s (6 + j + 2 * 4)) ≡ 1 = column_sizes s j ∙ e in
        record { x = omega arith; y = omega arith; z = omega arith }
