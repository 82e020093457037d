-- Whether some of a segment is in a view, told in whole numbers: why a line that grazes a corner counts. Definitions only.
-- A line from its first end to its second comes in through some planes of the view and goes out through others. Each such plane is crossed at a fraction of the
-- way, and the line is in view from the latest fraction at which it comes in to the earliest at which it goes out. Where these are the same fraction it touches
-- the view at that one point, a corner or an edge, and that counts.
-- `non_neg D` says that D is at least 0, and `nat_abs D` is the size of D. `cond t a b` is a where the test t passes, and b elsewhere.
use Rattle.std.specs.Prelude.{ℕ, ◌+◌, ◌*◌, Bool, not, cond, ◌&&◌, ◌||◌, List, [], ◌∷◌, ltb, ℤ, nat_abs}
use Rattle.std.specs.Int.Signed.{non_neg}
use Rattle.whole.specs.declared.fraction.Fraction.{Fraction}
use Rattle.whole.specs.Plane.{WholePlane, gap}

-- ---- fractions of the way, compared by cross products

abbrev pub fraction : ℕ → ℕ → Fraction
fraction a b = record { top = a; bottom = b }

-- the ends of the segment
abbrev pub first_end : Fraction
first_end = fraction 0 1

abbrev pub second_end : Fraction
second_end = fraction 1 1

-- f < g
abbrev pub less : Fraction → Fraction → Bool
less f g = ltb (f.top * g.bottom) (g.top * f.bottom)

abbrev pub later : Fraction → Fraction → Fraction
later f g = cond (less f g) g f

abbrev pub earlier : Fraction → Fraction → Fraction
earlier f g = cond (less g f) g f

-- ---- a plane with the first end at the distance D from it, and the second at D'

-- not both are behind it
abbrev pub has_end : ℤ → ℤ → Bool
has_end D D' = non_neg D || non_neg D'

-- |D| of |D| + |D'|: how far along the line crosses the plane, where one end alone is behind it
abbrev pub crossing_at : ℤ → ℤ → Fraction
crossing_at D D' = fraction (nat_abs D) (nat_abs D + nat_abs D')

-- where the first end alone is behind it, the line comes in there
abbrev pub start_by : ℤ → ℤ → Fraction → Fraction
start_by D D' start = cond (not (non_neg D) && non_neg D') (later start (crossing_at D D')) start

-- where the second end alone is, it goes out there
abbrev pub end_by : ℤ → ℤ → Fraction → Fraction
end_by D D' end = cond (non_neg D && not (non_neg D')) (earlier end (crossing_at D D')) end

-- ---- the verdict, plane by plane

-- A plane that both ends are behind makes it no. With no plane left the start must not be past the end: the same fraction is a yes.
unfoldable pub leaves : List WholePlane → (ℕ → ℤ) → (ℕ → ℤ) → Fraction → Fraction → Bool
leaves [] A B start end = not (less end start)
leaves (P ∷ Ps) A B start end =
    let D = gap P A in
    let D' = gap P B in
    has_end D D' && leaves Ps A B (start_by D D' start) (end_by D D' end)

-- some of the segment from A to B is in front of all planes
unfoldable pub segment_in_view : List WholePlane → (ℕ → ℤ) → (ℕ → ℤ) → Bool
unfolding leaves
segment_in_view Ps A B = leaves Ps A B first_end second_end
