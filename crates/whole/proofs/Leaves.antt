-- What planes leave of a segment: the planes left and the span so far decide. Assumes nothing.
use mathlib.Core.Path.{◌≡◌, refl, sym, ap, ◌∙◌}
use mathlib.Core.Bool.{Bool, true, false, not, ◌&&◌, ◌||◌}
use mathlib.Core.List.{List, [], ◌∷◌}
use Prim.Native.Nat.{ℕ}
use borrow.Author.Tests.{not-true, not-false}
use lib.IntN.{ℤ}
use lib.Signed.{non_neg}
use Rattle.whole.specs.declared.fraction.Fraction.{Fraction}
use Rattle.whole.specs.declared.fraction.Span.{Span}
use Rattle.whole.specs.Plane.{WholePlane, gap}
use Rattle.whole.specs.Segment.{first_end, second_end, less, has_end, start_by, end_by, leaves, segment_in_view}
use Rattle.whole.specs.Steps.{CutBy}

-- at first the span is the whole segment
pub from_the_ends : (Ps : List WholePlane) (A B : ℕ → ℤ) → leaves Ps A B first_end second_end ≡ segment_in_view Ps A B
unfolding segment_in_view
from_the_ends Ps A B = refl

-- of the planes left the first is P, at the distances D and D' from the ends
module _ (A B : ℕ → ℤ) (left rest : List WholePlane) (P : WholePlane) (next : left ≡ P ∷ rest) (D D' : ℤ) (e : D ≡ gap P A) (e' : D' ≡ gap P B)
    (s : Span) (x y : Bool) (p : x ≡ non_neg D) (q : y ≡ non_neg D') where
  cut : leaves left A B s.start s.end ≡ ((x || y) && leaves rest A B (start_by D D' s.start) (end_by D D' s.end))
  unfolding leaves
  cut =
      ap (λ (Ps : List WholePlane). leaves Ps A B s.start s.end) next
      ∙ sym (λ t. has_end (e t) (e' t) && leaves rest A B (start_by (e t) (e' t) s.start) (end_by (e t) (e' t) s.end))
      ∙ sym (λ t. (p t || q t) && leaves rest A B (start_by D D' s.start) (end_by D D' s.end))

  pub both_behind : not (x || y) ≡ true → false ≡ leaves left A B s.start s.end
  both_behind t = sym (cut ∙ ap (λ (z : Bool). z && leaves rest A B (start_by D D' s.start) (end_by D D' s.end)) (not-true (x || y) t))

  pub goes_on : not (x || y) ≡ false → (r : Span) → CutBy D D' s r → leaves rest A B r.start r.end ≡ leaves left A B s.start s.end
  goes_on t r c =
      (λ i. leaves rest A B (c.start i) (c.end i))
      ∙ sym (cut ∙ ap (λ (z : Bool). z && leaves rest A B (start_by D D' s.start) (end_by D D' s.end)) (not-false (x || y) t))

pub none_left : (A B : ℕ → ℤ) (left : List WholePlane) → left ≡ [] → (start end : Fraction) (z : Bool) → z ≡ less end start → not z ≡ leaves left A B start end
unfolding leaves
none_left A B left next start end z e = ap not e ∙ sym (ap (λ (Ps : List WholePlane). leaves Ps A B start end) next)
