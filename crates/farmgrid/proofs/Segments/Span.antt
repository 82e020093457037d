-- What planes leave of a segment, by whole numbers alone: the latest fraction at which it comes in against the earliest at which it goes out. Something is left
-- just where some exact point of the closed segment satisfies every plane. No float occurs (of the kit's `Ieee.Fits` only the laws of `&&`).
-- A place of the segment is m / (u + m) of the way from its first end to its second. A plane is known by its exact distances D and D' from the ends, and keeps the
-- place if u * D + m * D' ≥ 0.
-- The idea: where the ends lie on different sides, the plane keeps the places up to, or from, its crossing. So one induction over the planes, in which the span has
-- just those places that the planes so far keep: when no plane is left any place of it will do, and a span whose start is past its end has none. Assumes nothing.
use mathlib.Core.Path.{◌≡◌}
use mathlib.Core.Logic.{◌↔◌}
use mathlib.Core.Bool.{Bool, true, not, cond, ◌&&◌, ◌||◌, beq}
use mathlib.Core.List.{List, [], ◌∷◌}
use Prim.Native.Nat.{ℕ, ◌+◌, ◌-◌, ◌*◌, ◌≤◌, ◌<◌}
use native.Mathlib.Nat.{le_refl}
use native.Mathlib.Omega.{arith}
use lib.Dec.{T, not_T, lit<, lit≤}
use lib.IntN.{ℤ, pos, negsuc}
use lib.Ieee.Fits.{and_i, and_l, and_r}
use lib.Signed.{non_neg}
use Rattle.whole.proofs.Integer.{by_test, hi, lo}
use Rattle.whole.specs.declared.fraction.Fraction.{Fraction}
use Rattle.whole.specs.Segment.{less, later, earlier, first_end, second_end, start_by, end_by}
use Rattle.farmgrid.proofs.Segments.Fractions.{Proper, AtMost}
use Rattle.farmgrid.proofs.Segments.Fractions.{at_most_less, at_most_other, not_at_most, at_most_trans}

-- ---- places

-- u * D + m * D' ≥ 0
abbrev pub Keeps : ℤ → ℤ → ℕ → ℕ → Type 0
Keeps D D' u m = u * lo D + m * lo D' ≤ u * hi D + m * hi D'

-- what two conditions on a place hold of
abbrev pub Both : (ℕ → ℕ → Type 0) → (ℕ → ℕ → Type 0) → ℕ → ℕ → Type 0
Both R K u m = R u m × K u m

-- a place where R holds
pub record Place (R : ℕ → ℕ → Type 0) : Type 0 where
  pub u : ℕ
  pub m : ℕ
  pub some : 0 < u + m
  pub holds : R u m

pub place_map : {R R' : ℕ → ℕ → Type 0} → ((u m : ℕ) → R u m → R' u m) → Place R → Place R'
place_map f w = record { u = w.u; m = w.m; some = w.some; holds = f w.u w.m w.holds }

-- the place as a fraction
abbrev place_at : ℕ → ℕ → Fraction
place_at u m = record { top = m; bottom = u + m }

-- R holds of the places from start to end
pub record Span (start end : Fraction) (R : ℕ → ℕ → Type 0) : Type 0 where
  pub first : Proper start
  pub last : Proper end
  pub places : (u m : ℕ) → R u m ↔ (AtMost start (place_at u m) × AtMost (place_at u m) end)

-- the whole segment
pub whole_span : Span first_end second_end (λ u m. Unit {0})
whole_span = record {
  first = record { some = lit< tt; part = lit≤ tt };
  last = record { some = lit< tt; part = lit≤ tt };
  places = λ u m. (λ t. (omega arith, omega arith), λ t. tt);
}

-- ---- a span has a place exactly where its start is not past its end
module _ {start end : Fraction} {R : ℕ → ℕ → Type 0} (s : Span start end R) where
  pub has_place : T (not (less end start)) → Place R
  has_place t =
      let e : start.bottom - start.top + start.top ≡ start.bottom = omega (arith, s.first.part) in
      let h = at_most_other end start t in
      record {
        u = start.bottom - start.top;
        m = start.top;
        some = rw e s.first.some;
        holds = (s.places (start.bottom - start.top) start.top).1 (rw e (le_refl (start.top * start.bottom), h));
      }

  pub not_past : Place R → T (not (less end start))
  not_past w = not_T (less end start) (λ t.
      let r = (s.places w.u w.m).0 w.holds in
      not_at_most end start t (at_most_trans start (place_at w.u w.m) end w.some r.0 r.1))

-- ---- a cut at a fraction takes the places away that lie beyond it
module _ {start end at : Fraction} {R K : ℕ → ℕ → Type 0} (s : Span start end R) (q : Proper at) where
  cut_end : ((u m : ℕ) → K u m ↔ AtMost (place_at u m) at) → Span start (earlier end at) (Both R K)
  cut_end k = by_test (λ z. Span start (cond z at end) (Both R K)) (less at end)
      (λ t. record {
        first = s.first;
        last = q;
        places = λ u m. (
          λ r. (((s.places u m).0 r.0).0, (k u m).0 r.1),
          λ i. let h = at_most_trans (place_at u m) at end q.some i.1 (at_most_less at end t) in
              ((s.places u m).1 (i.0, h), (k u m).1 i.1),
        );
      })
      (λ t. record {
        first = s.first;
        last = s.last;
        places = λ u m. (
          λ r. (s.places u m).0 r.0,
          λ i. let h = at_most_trans (place_at u m) end at s.last.some i.1 (at_most_other at end t) in
              ((s.places u m).1 i, (k u m).1 h),
        );
      })

  cut_start : ((u m : ℕ) → K u m ↔ AtMost at (place_at u m)) → Span (later start at) end (Both R K)
  cut_start k = by_test (λ z. Span (cond z at start) end (Both R K)) (less start at)
      (λ t. record {
        first = q;
        last = s.last;
        places = λ u m. (
          λ r. ((k u m).0 r.1, ((s.places u m).0 r.0).1),
          λ i. let h = at_most_trans start at (place_at u m) q.some (at_most_less start at t) i.0 in
              ((s.places u m).1 (h, i.1), (k u m).1 i.0),
        );
      })
      (λ t. record {
        first = s.first;
        last = s.last;
        places = λ u m. (
          λ r. (s.places u m).0 r.0,
          λ i. let h = at_most_trans at start (place_at u m) s.first.some (at_most_other start at t) i.0 in
              ((s.places u m).1 i, (k u m).1 h),
        );
      })

-- what a plane leaves of a span that has an end on its positive side
pub cut : {start end : Fraction} {R : ℕ → ℕ → Type 0} (D D' : ℤ) → T (non_neg D || non_neg D') → Span start end R
    → Span (start_by D D' start) (end_by D D' end) (Both R (Keeps D D'))
cut (pos x) (pos y) t s = record {
  first = s.first;
  last = s.last;
  places = λ u m. (λ r. (s.places u m).0 r.0, λ i. ((s.places u m).1 i, omega arith));
}
cut (pos x) (negsuc y) t s = cut_end s (record { some = omega arith; part = omega arith }) (λ u m. (λ h. omega arith, λ h. omega arith))
cut (negsuc x) (pos y) t s = cut_start s (record { some = omega arith; part = omega arith }) (λ u m. (λ h. omega arith, λ h. omega arith))
cut (negsuc x) (negsuc y) t s = absurd t

-- ---- plane by plane

-- a plane that keeps a place has an end on its positive side
pub kept_end : (D D' : ℤ) (u m : ℕ) → 0 < u + m → Keeps D D' u m → T (non_neg D || non_neg D')
kept_end (pos x) D' u m h k = tt
kept_end (negsuc x) (pos y) u m h k = tt
kept_end (negsuc x) (negsuc y) u m h k = absurd (omega arith)

-- each plane has an end on its positive side
unfoldable pub each_has_end : {X : Type 0} → (X → ℤ) → (X → ℤ) → List X → Bool
each_has_end D D' [] = true
each_has_end D D' (x ∷ xs) = (non_neg (D x) || non_neg (D' x)) && each_has_end D D' xs

-- plane by plane, those that have both ends on one side passed over, the start does not come to lie past the end
unfoldable pub span_by : {X : Type 0} → (X → ℤ) → (X → ℤ) → List X → Fraction → Fraction → Bool
span_by D D' [] start end = true
span_by D D' (x ∷ xs) start end =
    let start' = start_by (D x) (D' x) start in
    let end' = end_by (D x) (D' x) end in
    (beq (non_neg (D x)) (non_neg (D' x)) || not (less end' start')) && span_by D D' xs start' end'

-- every plane keeps the place
abbrev pub KeptBy : {X : Type 0} → (X → ℤ) → (X → ℤ) → List X → ℕ → ℕ → Type 0
KeptBy D D' [] u m = Unit {0}
KeptBy D D' (x ∷ xs) u m = Keeps (D x) (D' x) u m × KeptBy D D' xs u m

-- a plane that does not cut a span that is there leaves it there, so that the test may be made for it too
tested : (D D' : ℤ) (start end : Fraction) → T (not (less end start))
    → T (beq (non_neg D) (non_neg D') || not (less (end_by D D' end) (start_by D D' start))) ↔ T (not (less (end_by D D' end) (start_by D D' start)))
tested (pos x) (pos y) start end n = (λ t. n, λ t. tt)
tested (pos x) (negsuc y) start end n = (λ t. t, λ t. t)
tested (negsuc x) (pos y) start end n = (λ t. t, λ t. t)
tested (negsuc x) (negsuc y) start end n = (λ t. n, λ t. tt)

module _ {X : Type 0} (D D' : X → ℤ) where
  -- where the planes so far leave a span, the rest of them decides
  pub span_by_lem : {start end : Fraction} {R : ℕ → ℕ → Type 0} (xs : List X) → T (each_has_end D D' xs) → Span start end R → T (not (less end start))
      → T (span_by D D' xs start end) ↔ Place (Both R (KeptBy D D' xs))
  unfolding each_has_end span_by
  span_by_lem [] t s n = (λ t. place_map (λ u m r. (r, tt)) (has_place s n), λ w. tt)
  span_by_lem {start} {end} {R} (x ∷ xs) t s n =
      let start' = start_by (D x) (D' x) start in
      let end' = end_by (D x) (D' x) end in
      let here = non_neg (D x) || non_neg (D' x) in
      let each = each_has_end D D' xs in
      let s' = cut (D x) (D' x) (and_l here each t) s in
      let e = tested (D x) (D' x) start end n in
      let test = beq (non_neg (D x)) (non_neg (D' x)) || not (less end' start') in
      let rest = span_by D D' xs start' end' in (
        λ v. let w = (span_by_lem {start = start'} {end = end'} {R = Both R (Keeps (D x) (D' x))} xs (and_r here each t) s' (e.0 (and_l test rest v))).0 (and_r test rest v) in
            place_map {R' = Both R (KeptBy D D' (x ∷ xs))} (λ u m r. (r.0.0, (r.0.1, r.1))) w,
        λ w. let w' = place_map {R' = Both (Both R (Keeps (D x) (D' x))) (KeptBy D D' xs)} (λ u m r. ((r.0, r.1.0), r.1.1)) w in
            let n' = not_past s' (place_map (λ u m r. r.0) w') in
            and_i test rest (e.1 n') ((span_by_lem {start = start'} {end = end'} {R = Both R (Keeps (D x) (D' x))} xs (and_r here each t) s' n').1 w'),
      )

  -- every plane that keeps some place has an end on its positive side
  covered : (xs : List X) → Place (KeptBy D D' xs) → T (each_has_end D D' xs)
  unfolding each_has_end
  covered [] w = tt
  covered (x ∷ xs) w =
      and_i (non_neg (D x) || non_neg (D' x)) (each_has_end D D' xs) (kept_end (D x) (D' x) w.u w.m w.some w.holds.0)
      (covered xs (place_map (λ u m r. r.1) w))

  -- The planes leave some of the segment, from its first end to its second, exactly where some place of it is kept by every plane.
  pub span_is : (xs : List X) → T (each_has_end D D' xs && span_by D D' xs first_end second_end) ↔ Place (KeptBy D D' xs)
  span_is xs =
      let each = each_has_end D D' xs in
      let left = span_by D D' xs first_end second_end in (
        λ t. place_map (λ u m r. r.1) ((span_by_lem xs (and_l each left t) whole_span tt).0 (and_r each left t)),
        λ w. let c = covered xs w in and_i each left c ((span_by_lem xs c whole_span tt).1 (place_map (λ u m r. (tt, r)) w)),
      )
