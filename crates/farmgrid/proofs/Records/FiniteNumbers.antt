-- Records of whole numbers hold no NaN and no infinity, so that no verdict on them is refused for a missing number. The idea: a slice is finite where the number at
-- each place is, and the places of a record are taken apart by what stands there. Assumes nothing.
use mathlib.Core.Path.{◌≡◌, refl, sym, ap, subst, ◌∙◌}
use mathlib.Core.Bool.{true, ◌&&◌, false≢true}
use mathlib.Core.List.{List, [], ◌∷◌}
use Prim.Native.Nat.{ℕ, zero, suc, ◌+◌, ◌-◌, ◌*◌, ◌/◌, ◌%◌, ◌<◌}
use native.Mathlib.Nat.{mod-lt, div-add-mod'}
use native.Mathlib.Omega.{arith}
use lib.Dec.{T, leb, leb→le, nleb→lt, lit<}
use lib.ListN.{length, drop, length-drop}
use lib.Seq.{get_or-drop}
use lib.IntN.{ℤ}
use lib.Ieee.{Float, nan, inf, fin, eq, round}
use lib.Ieee.Scale.{finite}
use lib.Ieee.Bits.{is_true}
use Rattle.number.specs.Limits.{box_length, matrix_length, flag_place}
use Rattle.number.specs.Every.{every}
use Rattle.number.specs.Slice.{at, all_finite}
use Rattle.number.specs.Tabulate.{tabulate}
use Rattle.number.proofs.Tests.{both_hold}
use Rattle.matrix.specs.Vec.{vec3}
use Rattle.matrix.specs.Matrix.{matrix, matrix_of}
use Rattle.verdict.specs.declared.plane.Plane.{Plane}
use Rattle.verdict.specs.BBox.{box_of, is_flag}
use Rattle.verdict.specs.BBoxCalls.{flagged}
use Rattle.verdict.specs.View.{plane_start, ray_start, plane_at}
use Rattle.whole.specs.Plane.{WholePlane}
use Rattle.whole.proofs.Integer.{by_test}
use Rattle.farmgrid.specs.Whole.{Whole}
use Rattle.farmgrid.specs.Placement.{WholeVec, WholeRange, WholeMatrix}
use Rattle.placed.specs.Placement.{WholeBox}
use Rattle.farmgrid.specs.FarmGrid.{IsPlane, ArePlanes, more}
use Rattle.farmgrid.specs.Records.{PointRecord, ViewRecord, BoxRecord}
use Rattle.farmgrid.specs.WholeNumbers.{SameEnd, SameView}
use Rattle.farmgrid.proofs.Placements.Singles.{three, four}
use Rattle.farmgrid.proofs.Numbers.WholeSums.{entry_matrix}

-- ---- a slice, place by place

each_finite : (s : List Float) → ((i : ℕ) → i < length s → finite (at s i) ≡ true) → all_finite s ≡ true
unfolding every
each_finite [] h = refl
each_finite (x ∷ s) h = λ t. h 0 (omega arith) t && each_finite s (λ i l. h (suc i) (omega arith)) t

finite_at : (s : List Float) → all_finite s ≡ true → (i : ℕ) → i < length s → finite (at s i) ≡ true
unfolding every
finite_at [] f i l = absurd (omega arith)
finite_at (x ∷ s) f zero l = (both_hold (finite x) (all_finite s) f).0
finite_at (x ∷ s) f (suc i) l = finite_at s (both_hold (finite x) (all_finite s) f).1 i (omega arith)

-- what holds below m, and of the n places from m on, holds below m + n
pub joined : (P : ℕ → Type 0) (m n : ℕ) → ((i : ℕ) → i < m → P i) → ((i : ℕ) → i < n → P (m + i)) → (i : ℕ) → i < m + n → P i
joined P m n f g i l = by_test (λ t. P i) (leb m i)
    (λ t. let h = leb→le m i t in let e : m + (i - m) ≡ i = omega (arith, h) in subst P e (g (i - m) (omega (arith, h, l))))
    (λ t. f i (nleb→lt m i t))

-- fours of places, one behind another
pub by_fours : (P : ℕ → Type 0) (n : ℕ) → ((i j : ℕ) → i < n → j < 4 → P (i * 4 + j)) → (k : ℕ) → k < n * 4 → P k
by_fours P n f k l =
    let e = div-add-mod' k 4 in
    let m = mod-lt k (lit< tt) in
    subst P e (f (k / 4) (k % 4) (omega (arith, e, l)) m)

-- the numbers in front, and finite ones behind them
with_rays : (v : List Float) (m : ℕ) → ((i : ℕ) → i < m → finite (at v i) ≡ true) → T (all_finite (drop m v)) → all_finite v ≡ true
with_rays v m front rays =
    let n = length-drop m v in
    each_finite v (λ i l. joined (λ i. finite (at v i) ≡ true) m (length v - m) front
    (λ i k. ap finite (sym (get_or-drop m v i nan)) ∙ finite_at (drop m v) (is_true (all_finite (drop m v)) rays) i (omega (arith, n, k))) i (omega (arith, l)))

-- ---- whole numbers

whole_finite : {x : Float} {z : ℤ} → Whole x z → finite x ≡ true
whole_finite {x = nan} w = absurd w.is
whole_finite {x = inf s} w = absurd w.is
whole_finite {x = fin s m e} w = refl

vec_finite : (f : ℕ → Float) {p : ℕ → ℤ} → WholeVec (vec3 f) p → (i : ℕ) → i < 3 → finite (f i) ≡ true
vec_finite f W =
    three (λ i. finite (f i) ≡ true) (whole_finite (W.at 0 (lit< tt))) (whole_finite (W.at 1 (lit< tt))) (whole_finite (W.at 2 (lit< tt)))

rows_finite : (f : ℕ → Float) {g : ℕ → ℕ → ℤ} → WholeMatrix (matrix (λ i j. f (i * 4 + j))) g → (k : ℕ) → k < 16 → finite (f k) ≡ true
rows_finite f M = by_fours (λ k. finite (f k) ≡ true) 4
    (λ i j h l. ap finite (sym (entry_matrix (λ i j. f (i * 4 + j)) i j h l)) ∙ whole_finite (M.at i j h l))

flag_finite : (x : Float) → is_flag x ≡ true → finite x ≡ true
unfolding eq round
flag_finite nan e = absurd (false≢true e)
flag_finite (inf s) e = absurd (false≢true e)
flag_finite (fin s m e') e = refl

-- ---- records

pub point_finite : {p : List Float} {A : ℕ → ℤ} → PointRecord p A → all_finite p ≡ true
point_finite {p} R =
    let n = R.numbers in
    each_finite p (λ i l. vec_finite (at p) R.point.numbers i (omega (arith, n, l)))

pub matrix_finite : (m : List Float) {g : ℕ → ℕ → ℤ} → length m ≡ matrix_length → WholeMatrix (matrix_of m) g → all_finite m ≡ true
matrix_finite m n M = each_finite m (λ i l. rows_finite (at m) M i (omega (arith, n, l)))

module _ (b : List Float) (n : length b ≡ box_length) (f : flagged b ≡ true) {low high : ℕ → ℤ} {g : ℕ → ℕ → ℤ}
    (R : WholeRange (box_of b).range low high) (M : WholeMatrix (box_of b).matrix g) where
  abbrev Finite : ℕ → Type 0
  Finite i = finite (at b i) ≡ true

  flag : (i : ℕ) → i < 1 → Finite (3 + (3 + (16 + i)))
  flag zero l = flag_finite (at b flag_place) f
  flag (suc i) l = absurd (omega arith)

  pub box_finite : all_finite b ≡ true
  box_finite = each_finite b (λ i l. joined Finite 3 20 (vec_finite (at b) R.min)
      (joined (λ i. Finite (3 + i)) 3 17 (vec_finite (λ i. at b (3 + i)) R.max)
      (joined (λ i. Finite (3 + (3 + i))) 16 1 (rows_finite (λ i. at b (3 + (3 + i))) M) flag)) i (omega (arith, n, l)))

pub box_record_finite : {b : List Float} {B : WholeBox} → BoxRecord b B → all_finite b ≡ true
box_record_finite {b} R = box_finite b R.numbers (is_true (flagged b) R.flag) R.box.range R.box.matrix

-- ---- views

module _ {Kind : WholePlane → Type 0} where
  pub each_plane : (K : ℕ → Type 0) (f : ℕ → Plane) → ((k : ℕ) (P : WholePlane) → IsPlane Kind (f k) P → K k) → (n : ℕ) {Ps : List WholePlane}
      → ArePlanes Kind (tabulate f n) Ps → (k : ℕ) → k < n → K k
  unfolding tabulate
  each_plane K f g zero hs k l = absurd (omega arith)
  each_plane K f g (suc n) (more {P = P} h hs) zero l = g 0 P h
  each_plane K f g (suc n) (more h hs) (suc k) l = each_plane (λ i. K (suc i)) (λ i. f (suc i)) (λ i. g (suc i)) n hs k (omega arith)

  module _ {v : List Float} {Ps : List WholePlane} (W : ViewRecord Kind v Ps) where
    abbrev FiniteAt : ℕ → Type 0
    FiniteAt i = finite (at v i) ≡ true

    plane_finite : (k : ℕ) (P : WholePlane) → IsPlane Kind (plane_at v k) P → (j : ℕ) → j < 4 → FiniteAt (plane_start k + j)
    plane_finite k P h = four (λ j. FiniteAt (plane_start k + j)) (vec_finite (λ j. at v (plane_start k + j)) h.normal) (whole_finite h.distance)

    planes_finite : (i : ℕ) → i < W.count * 4 → FiniteAt (1 + i)
    planes_finite = by_fours (λ i. FiniteAt (1 + i)) W.count (λ k j h l.
        let e : plane_start k + j ≡ 1 + (k * 4 + j) = omega arith in
        subst FiniteAt e (each_plane (λ k. (j : ℕ) → j < 4 → FiniteAt (plane_start k + j)) (plane_at v) plane_finite W.count W.planes k h j l))

    count_finite : (i : ℕ) → i < 1 → FiniteAt i
    count_finite zero l = whole_finite W.volume.counted.whole
    count_finite (suc i) l = absurd (omega arith)

    pub view_finite : all_finite v ≡ true
    view_finite = with_rays v (ray_start W.count 0) (λ i l. joined FiniteAt 1 (W.count * 4) count_finite planes_finite i (omega (arith, l))) W.rays

-- ---- records of the same whole numbers

pub end_finite : {p : List ℤ} {q : List Float} → SameEnd p q → all_finite q ≡ true
end_finite {q = q} E = let n = E.numbers in each_finite q (λ i l. whole_finite (E.floats.same i (omega (arith, n, l))))

pub same_view_finite : {view : List ℤ} {v : List Float} → SameView view v → all_finite v ≡ true
same_view_finite {view} {v} S = with_rays v (length view) (λ i l. whole_finite (S.floats.same i l)) S.rays
