-- What the planes of a view ask of a grid point, and of the exact points of a segment, told by the distances of grid points alone.
-- The idea: a plane's distance is linear, so that at (k − m) times A plus m times B, over k, it is (k − m) times the distance of A
-- plus m times that of B, multiplied through by k.
use mathlib.Core.Path.{◌≡◌}
use mathlib.Core.Logic.{◌↔◌}
use mathlib.Core.List.{List, [], ◌∷◌}
use Prim.Native.Nat.{ℕ, ◌+◌, ◌-◌, ◌≤◌}
use native.Mathlib.Omega.{arith}
use lib.IntN.{ℤ, pos, ◌+ℤ◌, ◌-ℤ◌, ◌*ℤ◌}
use lib.Signed.{◌≤ℤ◌}
use Rattle.whole.proofs.Integer.{of_self, of_pos, of_sum, of_minus, of_times, of_eq, of_le, le_is}
use Rattle.whole.specs.Plane.{WholePlane, dotℤ, gap}
use Rattle.exact.specs.ExactPoint.{Satisfies, Every, InView}
use Rattle.farmgrid.specs.FarmGrid.{exactly, between, SegmentInView}
use Rattle.whole.proofs.Dot.{dot_sum, dot_times}
use Rattle.farmgrid.proofs.Segments.Span.{Keeps, Place}

-- ---- every plane of a list
pub every_map : {K L : WholePlane → Type 0} → ((P : WholePlane) → K P → L P) → (Ps : List WholePlane) → Every K Ps → Every L Ps
every_map f [] h = tt
every_map f (P ∷ Ps) h = (f P h.0, every_map f Ps h.1)

-- ---- a grid point
pub point_gap : (P : WholePlane) (A : ℕ → ℤ) → Satisfies P (exactly A) ↔ (pos 0 ≤ℤ gap P A)
point_gap P A =
    let e : pos 1 *ℤ P.distance ≡ P.distance = of_eq (of_times (of_pos 1) (of_self P.distance)) (of_self P.distance) (omega arith) in
    (λ h. rw e at h.side, λ h. record { side = rw e h })

-- ---- an exact point of the segment from A to B
linear : (P : WholePlane) (A B : ℕ → ℤ) (u m : ℕ)
    → dotℤ P.normal (λ i. pos u *ℤ A i +ℤ pos m *ℤ B i) -ℤ pos (u + m) *ℤ P.distance ≡ pos u *ℤ gap P A +ℤ pos m *ℤ gap P B
linear P A B u m =
    let n = P.normal in
    rw (dot_sum n (λ i. pos u *ℤ A i) (λ i. pos m *ℤ B i), dot_times n A (pos u), dot_times n B (pos m)) (shared (dotℤ n A) (dotℤ n B) P.distance)
  where
    shared : (a b d : ℤ) → pos u *ℤ a +ℤ pos m *ℤ b -ℤ pos (u + m) *ℤ d ≡ pos u *ℤ (a -ℤ d) +ℤ pos m *ℤ (b -ℤ d)
    shared a b d =
        let A = of_self a in
        let B = of_self b in
        let D = of_self d in
        let U = of_pos u in
        let M = of_pos m in
        of_eq (of_minus (of_sum (of_times U A) (of_times M B)) (of_times (of_pos (u + m)) D))
        (of_sum (of_times U (of_minus A D)) (of_times M (of_minus B D))) (omega arith)

-- u * D + m * D' ≥ 0, in ℕ
keeps_is : (D D' : ℤ) (u m : ℕ) → (pos 0 ≤ℤ (pos u *ℤ D +ℤ pos m *ℤ D')) ↔ Keeps D D' u m
keeps_is D D' u m =
    let l = of_le (of_pos 0) (of_sum (of_times (of_pos u) (of_self D)) (of_times (of_pos m) (of_self D'))) in
    (λ h. omega (arith, l.0 h), λ h. l.1 (omega arith))

-- the exact points m / k of a segment are its places m / (u + m), with u = k - m
pub segment_gap : (P : WholePlane) (A B : ℕ → ℤ) (k m : ℕ) (h : 1 ≤ k) → m ≤ k
    → Satisfies P (between A B k m h) ↔ Keeps (gap P A) (gap P B) (k - m) m
segment_gap P A B k m h l =
    let e : k - m + m ≡ k = omega arith in
    let f = rw e at (linear P A B (k - m) m) in
    let g = keeps_is (gap P A) (gap P B) (k - m) m in
    (λ t. g.0 (rw f at t.side), λ t. record { side = rw f (g.1 t) })

-- every plane of a view keeps the place
abbrev pub Kept : List WholePlane → (ℕ → ℤ) → (ℕ → ℤ) → ℕ → ℕ → Type 0
Kept Ps A B u m = Every (λ P. Keeps (gap P A) (gap P B) u m) Ps

-- an end in the view is such a place
module _ (Ps : List WholePlane) (A B : ℕ → ℤ) where
  pub first_kept : InView Ps (exactly A) → Kept Ps A B 1 0
  first_kept = every_map (λ P h. omega (arith, (le_is (pos 0) (gap P A)).0 ((point_gap P A).0 h))) Ps

  pub second_kept : InView Ps (exactly B) → Kept Ps A B 0 1
  second_kept = every_map (λ P h. omega (arith, (le_is (pos 0) (gap P B)).0 ((point_gap P B).0 h))) Ps

pub segment_place : (Ps : List WholePlane) (A B : ℕ → ℤ) → SegmentInView Ps A B ↔ Place (Kept Ps A B)
segment_place Ps A B = (
  λ s. let l = s.part in let h = s.some in record {
    u = s.k - s.m;
    m = s.m;
    some = omega arith;
    holds = every_map (λ P. (segment_gap P A B s.k s.m s.some s.part).0) Ps s.seen;
  },
  λ w. let e : w.u + w.m - w.m ≡ w.u = omega arith in record {
    k = w.u + w.m;
    m = w.m;
    some = w.some;
    part = omega arith;
    seen = every_map (λ P t. (segment_gap P A B (w.u + w.m) w.m w.some (omega arith)).1 (rw e t)) Ps w.holds;
  },
)
