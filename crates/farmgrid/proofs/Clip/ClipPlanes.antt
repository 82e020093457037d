-- The planes of two matrices with a whole product are exact, and so is the point verdict by them. The idea: a sum or a difference of two numbers of at most 4,096 is a whole
-- number of at most 8,192, and a plane's distance from a grid point stays far below 2 ^ 53; and in whole numbers w + x and w − x at a point are the planes' own sums.
-- Assumes nothing.
use mathlib.Core.Path.{◌≡◌, refl, sym, ap, subst, ◌∙◌}
use mathlib.Core.Logic.Iff
use mathlib.Core.Logic.{◌↔◌}
use mathlib.Core.Bool.{Bool, true, false, ◌&&◌}
use mathlib.Core.List.{List, [], ◌∷◌, flat_map}
use Prim.Native.Nat.{ℕ, zero, suc, ◌≤◌, ◌<◌}
use native.Mathlib.Omega.{arith}
use lib.Dec.{T, lit<, lit≤}
use lib.ListN.{length, drop, replicate}
use lib.IntN.{ℤ, pos, neg_ℤ, nat_abs, ◌+ℤ◌, ◌-ℤ◌, ◌*ℤ◌}
use lib.Signed.{◌≤ℤ◌, ◌<ℤ◌}
use lib.Count.{count_trailing_zeros}
use lib.Ieee.{Float, binary64, of_int, add, mul, neg, round, sum, units, odd, size, span, climb}
use lib.Ieee.Scale.{finite}
use lib.Ieee.Fits.{and_r}
use Rattle.number.specs.Tabulate.{tabulate}
use Rattle.number.specs.Every.{every}
use Rattle.number.specs.Answer.{refuse, write, unless, has, leaving}
use Rattle.number.specs.Slice.{at, all_finite}
use Rattle.matrix.specs.declared.vec.Vec3d.{Vec3d}
use Rattle.matrix.specs.declared.matrix.Mat4d.{Mat4d}
use Rattle.matrix.specs.Constants.{rounded, positive_zero}
use Rattle.matrix.specs.Vec.{axis, axis4, vec3_of}
use Rattle.matrix.specs.Matrix.{matrix_of, entries, entry, product}
use Rattle.matrix.specs.Inverse.{signed_sum}
use Rattle.matrix.specs.MatrixCalls.{product_call}
use Rattle.verdict.specs.declared.plane.Plane.{Plane}
use Rattle.verdict.specs.Plane.{distance_to, on_positive_side}
use Rattle.verdict.specs.View.{planes_of}
use Rattle.verdict.specs.Frustum.{point_in_view}
use Rattle.verdict.specs.Marked.{identity_rows}
use Rattle.volume.specs.Volume.{clip_column, side, numbers, from_matrices_call}
use Rattle.volume.specs.Accepted.{endless_rows}
use Rattle.volume.proofs.Counted.{count}
use Rattle.volume.proofs.Accepted.{made, first}
use Rattle.volume.proofs.WithoutFarEnd.{without_far_end}
use Rattle.whole.specs.Plane.{WholePlane, dotℤ, gap}
use Rattle.whole.proofs.Integer.{of_self as self, of_pos, of_neg, of_le, of_lt, ◌⊞◌, ◌⊟◌, ◌⊠◌}
use Rattle.whole.proofs.Dot.{dot_comm, dot_sum}
use Rattle.placed.specs.Placement.{columnℤ}
use Rattle.exact.specs.ExactPoint.{ExactPoint, Satisfies, InView}
use Rattle.farmgrid.specs.Whole.{Equals, Whole}
use Rattle.farmgrid.specs.Placement.{WholeMatrix, MatrixWithin}
use Rattle.farmgrid.specs.FarmGrid.{IsPoint, IsPlane, ArePlanes, none, more, exactly}
use Rattle.farmgrid.specs.Records.{ViewRecord}
use Rattle.farmgrid.specs.ClipSpace.{view_projection_limit, throughℤ, placed_point}
use Rattle.farmgrid.specs.ClipPlanes.{besideℤ, sideℤ, sidesℤ, ClipSide, InClosedVolume, PlanesExact, PointByMatrices, OneViewOfEach, endlessℤ, EndlessMade}
use Rattle.farmgrid.proofs.Numbers.Exact.{neg_whole, le_whole, of_whole}
use Rattle.farmgrid.proofs.Numbers.Fit.{Fit, fit_sum, fit_minus, fit_neg}
use Rattle.farmgrid.proofs.Numbers.WholeSigns.{dot_flip}
use Rattle.farmgrid.proofs.Placements.Singles.{three, four}
use Rattle.farmgrid.proofs.Numbers.WholeSums.{zero_whole, axis_fit, dot_fit, whole_vec3}
use Rattle.farmgrid.proofs.Placements.WholeMatrices.{sized_fit}
use Rattle.farmgrid.proofs.Segments.EveryPlane.{every_is}
use Rattle.farmgrid.proofs.Segments.ExactPoints.{point_gap}
use Rattle.farmgrid.proofs.Records.FiniteNumbers.{point_finite, view_finite}
use Rattle.farmgrid.proofs.Records.Answers.{point_answer}

-- ---- in whole numbers

-- within a side: from −w on, and, where s is true, up to w
abbrev Inside : Bool → ℤ → ℤ → Type 0
Inside false x w = neg_ℤ w ≤ℤ x
Inside true x w = x ≤ℤ w

beside_dot : (s : Bool) (x u v : ℕ → ℤ) → dotℤ (λ i. besideℤ s (u i) (v i)) x ≡ besideℤ s (dotℤ x u) (dotℤ x v)
beside_dot false x u v = dot_comm (λ i. u i +ℤ v i) x ∙ dot_sum x u v
beside_dot true x u v = dot_comm (λ i. u i -ℤ v i) x ∙ dot_sum x u (λ i. neg_ℤ (v i)) ∙ ap (◌+ℤ◌ (dotℤ x u)) (dot_flip true x v)

-- what a plane asks for, by the sums of w and of the coordinate over the point, a and b, and their last numbers, c and d
asked : (s : Bool) (k a b c d : ℤ) → (pos 0 ≤ℤ (besideℤ s a b -ℤ k *ℤ neg_ℤ (besideℤ s c d))) ↔ Inside s (b +ℤ k *ℤ d) (a +ℤ k *ℤ c)
asked false k a b c d =
    let l = of_le (of_pos 0) (self a ⊞ self b ⊟ self k ⊠ of_neg (self c ⊞ self d)) in
    let r = of_le (of_neg (self a ⊞ self k ⊠ self c)) (self b ⊞ self k ⊠ self d) in
    (λ h. r.1 (omega (arith, l.0 h)), λ h. l.1 (omega (arith, r.0 h)))
asked true k a b c d =
    let l = of_le (of_pos 0) (self a ⊟ self b ⊟ self k ⊠ of_neg (self c ⊟ self d)) in
    let r = of_le (self b ⊞ self k ⊠ self d) (self a ⊞ self k ⊠ self c) in
    (λ h. r.1 (omega (arith, l.0 h)), λ h. l.1 (omega (arith, r.0 h)))

module _ (g : ℕ → ℕ → ℤ) (X : ExactPoint) where
  abbrev inside : Bool → ℕ → Type 0
  inside s k = Inside s (throughℤ g X k) (throughℤ g X 3)

  side_is : (s : Bool) (k : ℕ) → Satisfies (sideℤ g s k) X ↔ inside s k
  side_is s k =
      let e = beside_dot s X.numbers (columnℤ g 3) (columnℤ g k) in
      let r = asked s (pos X.k) (dotℤ X.numbers (columnℤ g 3)) (dotℤ X.numbers (columnℤ g k)) (g 3 3) (g 3 k) in
      let P : ℤ → Type 0 = λ z. pos 0 ≤ℤ (z -ℤ pos X.k *ℤ neg_ℤ (besideℤ s (g 3 3) (g 3 k))) in
      (λ h. r.0 (subst P e h.side), λ h. record { side = subst P (sym e) (r.1 h) })

  pub sides_are : InView (sidesℤ g) X ↔ InClosedVolume (throughℤ g X)
  unfolding tabulate
  sides_are = (
    λ t. record {
      above = three (inside false) ((side_is false 0).0 t.0) ((side_is false 1).0 t.1.1.0) ((side_is false 2).0 t.1.1.1.1.0);
      below = three (inside true) ((side_is true 0).0 t.1.0) ((side_is true 1).0 t.1.1.1.0) ((side_is true 2).0 t.1.1.1.1.1.0);
    },
    λ c. let low : (k : ℕ) → k < 3 → Satisfies (sideℤ g false k) X = λ k l. (side_is false k).1 (c.above k l) in
        let high : (k : ℕ) → k < 3 → Satisfies (sideℤ g true k) X = λ k l. (side_is true k).1 (c.below k l) in
        (low 0 (lit< tt), (high 0 (lit< tt), (low 1 (lit< tt), (high 1 (lit< tt), (low 2 (lit< tt), (high 2 (lit< tt), tt)))))),
  )

less : (a b : ℤ) → a <ℤ b → a ≤ℤ b
less a b h = (of_le (self a) (self b)).1 (omega (arith, (of_lt (self a) (self b)).0 h))

pub one_view : OneViewOfEach
one_view g = record {
  point = sides_are g;
  block = λ B X C. (sides_are g (placed_point B.matrix X)).1
      (record { above = λ i l. less _ _ (C.above i l); below = λ i l. less _ _ (C.below i l) });
}

-- ---- the planes in floats

module _ {m : Mat4d} {g : ℕ → ℕ → ℤ} (M : WholeMatrix m g) (G : MatrixWithin view_projection_limit g) where
  number : (s : Bool) (k i : ℕ) → k < 4 → i < 4 → Fit (signed_sum s (entry m i 3) (entry m i k)) (besideℤ s (g i 3) (g i k)) 8192
  number false k i l h = fit_sum (sized_fit M G i 3 h (lit< tt)) (sized_fit M G i k h l) (lit≤ tt)
  number true k i l h = fit_minus (sized_fit M G i 3 h (lit< tt)) (sized_fit M G i k h l) (lit≤ tt)

  plane_is : (s : Bool) (k : ℕ) → k < 4 → IsPlane ClipSide (side s (clip_column m 3) (clip_column m k)) (sideℤ g s k)
  plane_is s k l = record {
    normal = let n : (i : ℕ) → Float = λ i. signed_sum s (axis4 (clip_column m 3) i) (axis4 (clip_column m k) i) in
        whole_vec3 n (three (λ i. Whole (n i) (besideℤ s (g i 3) (g i k))) (number s k 0 l (lit< tt)).whole (number s k 1 l (lit< tt)).whole (number s k 2 l (lit< tt)).whole);
    distance = neg_whole (number s k 3 l (lit< tt)).whole;
    kind = record { entries = record { size = λ i h. (number s k i l (omega arith)).size }; far = (fit_neg (number s k 3 l (lit< tt))).size };
  }

  planes_are : (i : Mat4d) → ArePlanes ClipSide (planes_of (numbers m i) 6) (sidesℤ g)
  unfolding tabulate numbers flat_map
  planes_are i =
      more (plane_is false 0 (lit< tt)) (more (plane_is true 0 (lit< tt)) (more (plane_is false 1 (lit< tt)) (more (plane_is true 1 (lit< tt))
      (more (plane_is false 2 (lit< tt)) (more (plane_is true 2 (lit< tt)) none)))))

-- ---- the calls

-- what a product that is not refused leaves
multiplied : (inputs room : Bool) (v out : List Float) → (unless inputs (refuse 1 out) (unless room (refuse 2 out) (write v))).status ≡ 0
    → (unless inputs (refuse 1 out) (unless room (refuse 2 out) (write v))).out ≡ v
multiplied false room v out e = absurd (omega (arith, e))
multiplied true false v out e = absurd (omega (arith, e))
multiplied true true v out e = refl

product_left : (a b out : List Float) → (product_call a b out).status ≡ 0 → (product_call a b out).out ≡ entries (product (matrix_of a) (matrix_of b))
unfolding product_call leaving
product_left a b out e = multiplied (has 16 a && has 16 b) (has 16 out) (entries (product (matrix_of a) (matrix_of b))) out e

finite_behind : (n : ℕ) (s : List Float) → T (all_finite s) → T (all_finite (drop n s))
unfolding every
finite_behind zero s t = t
finite_behind (suc n) [] t = t
finite_behind (suc n) (x ∷ s) t = finite_behind n s (and_r (finite x) (all_finite s) t)

six : Whole (rounded 6 1) (pos 6)
unfolding of_int
six = of_whole binary64 (pos 6) (lit≤ tt)

pub planes_exact : PlanesExact
planes_exact view projection g v W =
    let m = product (matrix_of view) (matrix_of projection) in
    let s = (from_matrices_call view projection W.out).out in
    let d = made view projection W.out W.made in
    let M : WholeMatrix m g = subst (λ (l : List Float). WholeMatrix (matrix_of l) g) (product_left view projection W.room W.multiplied) W.product.matrix in
    let front : at s 0 ≡ rounded 6 1 = ap (λ (l : List Float). at l 0) d.is ∙ first m d.inverse in
    subst (λ (l : List Float). ViewRecord ClipSide l (sidesℤ g)) W.volume (record {
      count = 6;
      volume = record {
        counted = record { whole = subst (λ (x : Float). Whole x (pos 6)) (sym front) six; fewest = lit≤ tt; most = lit≤ tt };
        numbers = count m d.inverse s d.is;
      };
      planes = subst (λ (l : List Float). ArePlanes ClipSide (planes_of l 6) (sidesℤ g)) (sym d.is) (planes_are M W.product.entries d.inverse);
      rays = finite_behind 25 s (subst T (sym d.finite) tt);
    })

-- ---- the point verdict

module _ {a : Vec3d} {A : ℕ → ℤ} (h : IsPoint a A) where
  distance_whole : {p : Plane} {P : WholePlane} → IsPlane ClipSide p P → Whole (distance_to p a) (gap P A)
  distance_whole {p} {P} q =
      let d = dot_fit (lit≤ tt) (axis a) (axis p.normal) A P.normal (axis_fit h.numbers h.grid) (axis_fit q.normal q.kind.entries) in
      rw (dot_comm P.normal A) (fit_minus d (record { whole = q.distance; size = q.kind.far }) (lit≤ tt)).whole

  point_is : {ps : List Plane} {Ps : List WholePlane} → ArePlanes ClipSide ps Ps → T (point_in_view ps a) ↔ InView Ps (exactly A)
  unfolding point_in_view
  point_is hs = every_is ClipSide (λ p. on_positive_side p a) (λ P. Satisfies P (exactly A))
      (λ p P q. Iff.trans (le_whole zero_whole (distance_whole q)) (Iff.symm (point_gap P A))) hs

pub point_by_matrices : PointByMatrices
point_by_matrices view projection g v p A W P =
    let seen = planes_exact view projection g v W in record {
      verdict = point_in_view (planes_of v seen.count) (vec3_of p);
      answered = point_answer v seen.volume (view_finite seen) p P.numbers (point_finite P);
      exact = Iff.trans (point_is P.point seen.planes) (sides_are g (exactly A));
    }

-- ---- the matrices of an endless view, by computation

is : {x : Float} {z : ℤ} → Equals x z → Whole x z
is e = record { is = e }

row : (P : ℕ → Type 0) → P 0 → P 1 → P 2 → P 3 → (j : ℕ) → j < 4 → P j
row P a b c = four P (three P a b c)

abbrev room : List Float
room = replicate 16 positive_zero

endless_product : WholeMatrix (matrix_of (product_call identity_rows endless_rows room).out) endlessℤ
unfolding product_call leaving product add mul neg round sum units odd size span climb count_trailing_zeros
endless_product = let P : ℕ → ℕ → Type 0 = λ i j. Whole (entry (matrix_of (product_call identity_rows endless_rows room).out) i j) (endlessℤ i j) in record {
  at = λ i j h. row (λ i. (j : ℕ) → j < 4 → P i j)
      (row (P 0) (is refl) (is refl) (is refl) (is refl))
      (row (P 1) (is refl) (is refl) (is refl) (is refl))
      (row (P 2) (is refl) (is refl) (is refl) (is refl))
      (row (P 3) (is refl) (is refl) (is refl) (is refl)) i h j;
}

endless_sized : MatrixWithin view_projection_limit endlessℤ
endless_sized = let P : ℕ → ℕ → Type 0 = λ i j. nat_abs (endlessℤ i j) ≤ view_projection_limit in record {
  size = λ i j h. row (λ i. (j : ℕ) → j < 4 → P i j)
      (row (P 0) (lit≤ tt) (lit≤ tt) (lit≤ tt) (lit≤ tt))
      (row (P 1) (lit≤ tt) (lit≤ tt) (lit≤ tt) (lit≤ tt))
      (row (P 2) (lit≤ tt) (lit≤ tt) (lit≤ tt) (lit≤ tt))
      (row (P 3) (lit≤ tt) (lit≤ tt) (lit≤ tt) (lit≤ tt)) i h j;
}

endless_multiplied : (product_call identity_rows endless_rows room).status ≡ 0
unfolding product_call leaving
endless_multiplied = refl

endless_numbers : length (product_call identity_rows endless_rows room).out ≡ 16
unfolding product_call leaving
endless_numbers = refl

pub endless_made : EndlessMade
endless_made = record {
  room = room;
  multiplied = endless_multiplied;
  product = record { numbers = endless_numbers; matrix = endless_product; entries = endless_sized };
  out = replicate 49 positive_zero;
  made = without_far_end.taken;
  volume = refl;
}
