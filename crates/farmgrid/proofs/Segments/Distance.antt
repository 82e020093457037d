-- A segment plane's distance from a grid point is exact, and so is how much it grows along a segment; so the side of the plane is exact.
-- The idea: every sum and product on the way is a whole number far below 2 ^ 53.
use mathlib.Core.Path.{◌≡◌, refl, sym, ◌∙◌}
use mathlib.Core.Logic.Iff
use mathlib.Core.Logic.{◌↔◌}
use mathlib.Core.Bool.{Bool, true, false}
use Prim.Native.Nat.{ℕ, ◌<◌, zero-le}
use native.Mathlib.Omega.{arith}
use lib.Dec.{T, lit≤, le→leb}
use lib.IntN.{ℤ, pos, negsuc, ◌+ℤ◌, ◌-ℤ◌, ◌*ℤ◌, -ℤ-+ℤ_cancel}
use lib.Signed.{non_neg, ◌≤ℤ◌}
use Rattle.number.specs.Arithmetic.{◌⊖◌}
use Rattle.whole.specs.Plane.{WholePlane, dotℤ, gap}
use Rattle.farmgrid.specs.Whole.{Whole}
use Rattle.whole.proofs.Integer.{of_self, of_sum, of_minus, of_eq, eq_of}
use Rattle.farmgrid.proofs.Numbers.Exact.{le_whole}
use Rattle.farmgrid.proofs.Numbers.Fit.{Fit, fit_minus}
use Rattle.matrix.specs.Vec.{axis, dot, difference}
use Rattle.matrix.specs.declared.vec.Vec3d.{Vec3d}
use Rattle.verdict.specs.declared.plane.Plane.{Plane}
use Rattle.verdict.specs.Plane.{distance_to, on_positive_side}
use Rattle.farmgrid.specs.FarmGrid.{SegmentPlane, IsPoint, IsPlane}
use Rattle.farmgrid.proofs.Numbers.WholeSums.{zero_whole, axis_fit, dot_fit}
use Rattle.whole.proofs.Dot.{dot_comm, dot_sum}

-- ---- tests
-- two tests that pass in the same cases are equal
pub same_test : (u v : Bool) → T u ↔ T v → u ≡ v
same_test true true h = refl
same_test true false h = absurd (h.0 tt)
same_test false true h = absurd (h.1 tt)
same_test false false h = refl

pub non_negative : (z : ℤ) → T (non_neg z) ↔ (pos 0 ≤ℤ z)
non_negative (pos n) = (λ t. record { le = le→leb 0 n zero-le }, λ h. tt)
non_negative (negsuc n) = (λ t. absurd t, λ h. h.le)

-- ---- the exact distance is `gap`

-- from A to B
abbrev way : (ℕ → ℤ) → (ℕ → ℤ) → ℕ → ℤ
way A B i = B i -ℤ A i

-- the dot product of a normal and the way from A to B is the difference of the two distances
slope : (P : WholePlane) (A B : ℕ → ℤ) → dotℤ P.normal (way A B) ≡ gap P B -ℤ gap P A
slope P A B = less (dotℤ n (way A B)) (dotℤ n A) (dotℤ n B) P.distance
    (sym (dot_sum n (way A B) A) ∙ (λ t. n 0 *ℤ arrive 0 t +ℤ n 1 *ℤ arrive 1 t +ℤ n 2 *ℤ arrive 2 t))
  where
    n : ℕ → ℤ
    n = P.normal

    arrive : (i : ℕ) → way A B i +ℤ A i ≡ B i
    arrive i = -ℤ-+ℤ_cancel (B i) (A i)

    less : (w a b d : ℤ) → w +ℤ a ≡ b → w ≡ b -ℤ d -ℤ (a -ℤ d)
    less w a b d e =
        let W = of_self w in
        let A = of_self a in
        let B = of_self b in
        let D = of_self d in
        of_eq W (of_minus (of_minus B D) (of_minus A D)) (omega (arith, eq_of (of_sum W A) B e))

-- ---- the floats of a plane, at one end of a segment and along it
module _ {p : Plane} {P : WholePlane} (h : IsPlane SegmentPlane p P) where
  normal_fit : (i : ℕ) → i < 3 → Fit (axis p.normal i) (P.normal i) 128
  normal_fit = axis_fit h.normal h.kind.entries

  module _ {a : Vec3d} {A : ℕ → ℤ} (g : IsPoint a A) where
    pub distance_whole : Whole (distance_to p a) (gap P A)
    distance_whole =
        let d = dot_fit (lit≤ tt) (axis a) (axis p.normal) A P.normal (axis_fit g.numbers g.grid) normal_fit in
        rw (dot_comm P.normal A) (fit_minus d (record { whole = h.distance; size = h.kind.far }) (lit≤ tt)).whole

    -- the plane has the point on its positive side where the exact distance is not negative
    pub side : on_positive_side p a ≡ non_neg (gap P A)
    side = same_test (on_positive_side p a) (non_neg (gap P A)) (Iff.trans (le_whole zero_whole distance_whole) (Iff.symm (non_negative (gap P A))))

  module _ {a b : Vec3d} {A B : ℕ → ℤ} (g : IsPoint a A) (g' : IsPoint b B) where
    pub slope_fit : Fit (dot p.normal (difference b a)) (gap P B -ℤ gap P A) 50_331_648
    slope_fit =
        rw (← (slope P A B)) (dot_fit (lit≤ tt) (axis p.normal) (λ i. axis b i ⊖ axis a i) P.normal (way A B) normal_fit way_fit)
      where
        way_fit : (i : ℕ) → i < 3 → Fit (axis b i ⊖ axis a i) (way A B i) 131_072
        way_fit i l = fit_minus (axis_fit g'.numbers g'.grid i l) (axis_fit g.numbers g.grid i l) (lit≤ tt)
