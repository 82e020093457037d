-- The reach of a range may be added up from either zero, or from its first product as the code does: the test of a plane is the same. The idea: a zero added to a value of the format leaves it as it is,
-- unless it is a zero too; what is added to two zeros differs in the sign of a zero at most, which no comparison sees; and a NaN stays a NaN. Assumes nothing.
use Rattle.std.proofs.Common.{◌≡◌, zero, suc, Bool, true, false, not, ◌&&◌, T, ℤ, pos, sym, refl, ap, ◌∙◌}
use lib.Ieee.{Float, nan, inf, fin, binary64, fits, le, add}
use lib.Ieee.Fits.{mul-fits}
use Rattle.number.specs.Arithmetic.{◌⊕◌, ◌⊗◌, zero_of}
use Rattle.number.proofs.Formats.{round_self}
use Rattle.number.proofs.Places.{same_test}
use Rattle.number.proofs.Zeros.{number_after, both_zeros}
use Rattle.number.proofs.NearZeros.{Near, equal, zeros, nothing, near_add}
use Rattle.number.proofs.Comparisons.{le_through}
use Rattle.number.proofs.SidesOfZero.{side, sides_le}
use Rattle.matrix.specs.Vec.{dot}
use Rattle.matrix.specs.Range.{is_empty}
use Rattle.matrix.specs.declared.range.Range3d.{Range3d}
use Rattle.verdict.specs.declared.plane.Plane.{Plane}
use Rattle.verdict.specs.Plane.{furthest, reaches_positive_side, ReachFromEitherZero}

-- the same but for the sign of a zero; both are NaN if one is
abbrev Alike : Float → Float → Type 0
Alike x y = Near x y × Near y x

-- a zero before a value leaves it as it is, but for the sign of a zero
zero_first : (s : Bool) (x : Float) → T (fits binary64 x) → Alike (zero_of s ⊕ x) x
unfolding add
zero_first s nan f = (nothing refl, nothing refl)
zero_first s (inf t) f = (equal refl, equal refl)
zero_first s (fin t zero e) f =
    let h = both_zeros binary64 s t (pos 0) e in
    (zeros (s && t) t (pos 0) e h refl, zeros t (s && t) e (pos 0) refl h)
zero_first s (fin t (suc m) e) f =
    let h = number_after binary64 t s m e (pos 0) ∙ round_self binary64 t (suc m) e f in
    (equal h, equal (sym h))

-- one number more is added to both
one_more : (x x' y : Float) → Alike x x' → Alike (x ⊕ y) (x' ⊕ y)
one_more x x' y h = (near_add binary64 {y = y} h.0 (equal refl), near_add binary64 {y = y} h.1 (equal refl))

-- a zero is at most any other
zeros_le : (s t : Bool) (e d : ℤ) → T (le (fin s zero e) (fin t zero d))
zeros_le s t e d = sides_le (fin s zero e) (fin t zero d) (on true s e) (on false t d)
  where
    on : (r s : Bool) (e : ℤ) → T (side r (fin s zero e))
    on true true e = tt
    on true false e = tt
    on false true e = tt
    on false false e = tt

-- what is at most one of two such numbers is at most the other
le_alike : (d x y : Float) → Alike x y → T (le d x) → T (le d y)
le_alike d x y (equal p, k) h = rw p at h
le_alike d x y (zeros s t e i p q, k) h = rw q (le_through d (fin s zero e) (fin t zero i) (rw p at h) (zeros_le s t e i))
le_alike d x y (nothing p, equal q) h = rw q h
le_alike d x y (nothing p, zeros s t e i q r) h = rw q (le_through d (fin t zero i) (fin s zero e) (rw r at h) (zeros_le t s i e))
le_alike d x y (nothing p, nothing q) h = rw (q, ← p) h

-- three numbers, the first a value of the format, added up from a zero of either sign
sum_from_zero : (s : Bool) (d a b c : Float) → T (fits binary64 a) → le d (zero_of s ⊕ a ⊕ b ⊕ c) ≡ le d (a ⊕ b ⊕ c)
sum_from_zero s d a b c f =
    let h = one_more (zero_of s ⊕ a ⊕ b) (a ⊕ b) c (one_more (zero_of s ⊕ a) a b (zero_first s a f)) in
    same_test (le d (zero_of s ⊕ a ⊕ b ⊕ c)) (le d (a ⊕ b ⊕ c)) (le_alike d (zero_of s ⊕ a ⊕ b ⊕ c) (a ⊕ b ⊕ c) h) (le_alike d (a ⊕ b ⊕ c) (zero_of s ⊕ a ⊕ b ⊕ c) (h.1, h.0))

pub reach_from_either_zero : ReachFromEitherZero
reach_from_either_zero s d n c = sum_from_zero s d (n.x ⊗ c.x) (n.y ⊗ c.y) (n.z ⊗ c.z) (mul-fits binary64 n.x c.x)

-- the test by the dot product of the normal and the furthest corner
pub reach_by_dot : (p : Plane) (r : Range3d) → reaches_positive_side p r ≡ (not (is_empty r) && le p.distance (dot p.normal (furthest p.normal r)))
unfolding reaches_positive_side
reach_by_dot p r = ap (λ (b : Bool). not (is_empty r) && b) (reach_from_either_zero true p.distance p.normal (furthest p.normal r))
