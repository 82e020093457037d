-- What the private functions are given: records that are on the grid, and fractions that are small enough to multiply. They serve the contracts of private
-- functions; the verdict's definition does not speak of them. Definitions only.
use Rattle.std.specs.Prelude.{ℕ, ◌*◌, ◌^◌, ◌≤◌, ◌<◌, ◌≡◌, ℤ, nat_abs, ◌-ℤ◌}
use Rattle.whole.specs.declared.fraction.Fraction.{Fraction}
use Rattle.whole.specs.Segment.{start_by, end_by}
use Rattle.whole.specs.declared.fraction.Span.{Span}

-- A distance is at most 3 * 128 * 65,536 + 16,777,216 in size.
abbrev pub gap_limit : ℕ
gap_limit = 41_943_040

-- Along a segment it changes by at most 3 * 128 * 131,072.
abbrev pub widest : ℕ
widest = 50_331_648

-- What a crossing is made of: its top is a distance, and its bottom what the distance changes by. So a cross product is below 2 ^ 51, and 64 bits carry it.
pub record Small (f : Fraction) : Type 0 where
  pub top : f.top ≤ gap_limit
  pub bottom : f.bottom ≤ widest

abbrev pub CrossProducts : Type 0
CrossProducts = (f g : Fraction) → Small f → Small g → f.top * g.bottom < 2 ^ 51

-- the two ends' distances from a plane
pub record Ends (D D' : ℤ) : Type 0 where
  pub first : nat_abs D ≤ gap_limit
  pub second : nat_abs D' ≤ gap_limit
  pub apart : nat_abs (D' -ℤ D) ≤ widest

pub record SmallSpan (s : Span) : Type 0 where
  pub start : Small s.start
  pub end : Small s.end

-- what a plane leaves of a span
pub record CutBy (D D' : ℤ) (s r : Span) : Type 0 where
  pub start : r.start ≡ start_by D D' s.start
  pub end : r.end ≡ end_by D D' s.end
  pub small : SmallSpan r
