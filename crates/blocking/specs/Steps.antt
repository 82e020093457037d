-- What the private functions of this crate promise one another. Definitions only; no contract of a public function speaks of them.
-- A plane cuts off part of a segment, from an end that it does not have on its positive side. How far it cuts is told by the number that is 0 at the end a and 1 at the
-- end b, and at b by this number with its sign turned, so that further is larger at both ends. Some of the segment is left where the two cuts do not pass each other.
use Rattle.std.specs.Prelude.{ℕ, zero, suc, Bool, true, false, not, cond, eqb, Option, None, Some, Float}
use Rattle.std.specs.Float.{inf}
use Rattle.std.specs.Float.Ieee.{lt, neg}
use Rattle.number.specs.Arithmetic.{upper_of}
use Rattle.matrix.specs.Constants.{positive_zero, one}
use Rattle.matrix.specs.declared.vec.Vec3d.{Vec3d}
use Rattle.verdict.specs.declared.plane.Plane.{Plane}
use Rattle.verdict.specs.Plane.{on_positive_side}
use Rattle.verdict.specs.Frustum.{crossing}
use Rattle.blocking.specs.declared.cuts.Cut.{Cut}
use Rattle.blocking.specs.declared.cuts.Cuts.{Cuts}

-- ---- one plane

-- How far it cuts from an end, by whether it has this end and the other one on its positive side: not at all, up to the crossing, or past everything. Up to the crossing
-- is no less than the end itself, also where the crossing comes out a NaN or before the end.
abbrev pub cut_from : Bool → Bool → Float → Float → Float
cut_from here there end at = cond here (inf true) (cond there (upper_of end at) (inf false))

abbrev pub cut_at_start : Vec3d → Vec3d → Plane → Float
cut_at_start a b p = cut_from (on_positive_side p a) (on_positive_side p b) positive_zero (crossing p a b)

abbrev pub cut_at_end : Vec3d → Vec3d → Plane → Float
cut_at_end a b p = cut_from (on_positive_side p b) (on_positive_side p a) (neg one) (neg (crossing p a b))

-- ---- several planes, at one end

-- no plane has passed
abbrev pub no_cut : Cut
no_cut = record { furthest = inf true; place = None; next = inf true }

-- with one more, that at i, which cuts as far as x
unfoldable pub with_cut : Cut → Float → ℕ → Cut
with_cut c x i =
    cond (lt c.furthest x)
    (record { furthest = x; place = Some i; next = c.furthest })
    (record { furthest = c.furthest; place = c.place; next = upper_of c.next x })

-- with the first n, of which that at i cuts as far as f i
unfoldable pub cut_below : (ℕ → Float) → ℕ → Cut
unfolding with_cut
cut_below f zero = no_cut
cut_below f (suc n) = with_cut (cut_below f n) (f n) n

-- a place is that at i
abbrev pub is_at : Option ℕ → ℕ → Bool
is_at None i = false
is_at (Some p) i = eqb i p

-- how far they cut without that at i
abbrev pub furthest_without : Cut → ℕ → Float
furthest_without c i = cond (is_at c.place i) c.next c.furthest

-- ---- at both ends

unfoldable pub cuts_with : Cuts → Plane → Vec3d → Vec3d → ℕ → Cuts
unfolding with_cut
cuts_with c p a b i = record { start = with_cut c.start (cut_at_start a b p) i; end = with_cut c.end (cut_at_end a b p) i }

-- the first n of the planes f
abbrev pub cuts_below : (ℕ → Plane) → Vec3d → Vec3d → ℕ → Cuts
cuts_below f a b n = record { start = cut_below (λ i. cut_at_start a b (f i)) n; end = cut_below (λ i. cut_at_end a b (f i)) n }

-- without that at i they leave some of the segment
abbrev pub leave_without : Cuts → ℕ → Bool
leave_without c i = not (lt (neg (furthest_without c.start i)) (furthest_without c.end i))
