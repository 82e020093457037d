-- What the planes of a view leave of a segment: the planes left and the span so far decide. The sides that the ends are on are read from their bits. Assumes
-- nothing.
use Rattle.std.proofs.Common.{◌≡◌, ℕ, ◌+◌, ◌*◌, ◌/◌, ◌%◌, Bool, true, false, not, ◌&&◌, ◌||◌, eqb, List, [], ◌∷◌, sym, refl, ap, ◌∙◌}
use mathlib.Core.Bool.{beq}
use lib.Ieee.{Float, lt}
use Rattle.matrix.specs.declared.vec.Vec3d.{Vec3d}
use Rattle.verdict.specs.declared.plane.Plane.{Plane}
use Rattle.verdict.specs.Plane.{on_positive_side}
use Rattle.verdict.specs.Frustum.{crossing, start_cut, end_cut, span_left}
use Rattle.verdict.specs.Steps.Passes.{bit, mask_of, sides_of}
use Rattle.verdict.proofs.Masks.{lowest, others}

-- A plane that does not cut a span that is there leaves it there, so that the test may be made for it too.
pub tested : (i j : Bool) (start end at : Float) → lt end start ≡ false
    → (beq i j || not (lt (end_cut i j end at) (start_cut i j start at))) ≡ not (lt (end_cut i j end at) (start_cut i j start at))
tested true true start end at n = sym (ap not n)
tested true false start end at n = refl
tested false true start end at n = refl
tested false false start end at n = sym (ap not n)

-- the bit of the first plane
abbrev pub first : ℕ → Bool
first m = eqb (m % 2) 1

-- of the planes left the first is p
module _ (left rest : List Plane) (p : Plane) (next : left ≡ p ∷ rest) where
  module _ (x : Vec3d) (m : ℕ) (e : m ≡ sides_of left x) where
    split : m ≡ sides_of rest x * 2 + bit (on_positive_side p x)
    unfolding mask_of
    split = e ∙ ap (λ (ps : List Plane). sides_of ps x) next

    first_side : first m ≡ on_positive_side p x
    first_side = ap first split ∙ lowest (sides_of rest x) (on_positive_side p x)

    pub other_sides : m / 2 ≡ sides_of rest x
    other_sides = ap (λ (n : ℕ). n / 2) split ∙ others (sides_of rest x) (on_positive_side p x)

  module _ (a b : Vec3d) (m n : ℕ) (u : m ≡ sides_of left a) (v : n ≡ sides_of left b)
      (start end start' end' : Float) (z : lt end start ≡ false) (q : start' ≡ start_cut (first m) (first n) start (crossing p a b))
      (r : end' ≡ end_cut (first m) (first n) end (crossing p a b)) where
    -- the planes left after a cut by a plane that the ends are on these sides of
    abbrev after : Bool → Bool → Bool
    after x y = span_left rest a b (start_cut x y start (crossing p a b)) (end_cut x y end (crossing p a b))

    abbrev there : Bool → Bool → Bool
    there x y = not (lt (end_cut x y end (crossing p a b)) (start_cut x y start (crossing p a b)))

    cut : span_left left a b start end ≡ (not (lt end' start') && span_left rest a b start' end')
    unfolding span_left
    cut =
        let f = first_side a m u in
        let g = first_side b n v in
        ap (λ (ps : List Plane). span_left ps a b start end) next
        ∙ sym (λ t. (beq (f t) (g t) || there (f t) (g t)) && after (f t) (g t))
        ∙ ap (λ (w : Bool). w && after (first m) (first n)) (tested (first m) (first n) start end (crossing p a b) z)
        ∙ sym (λ t. not (lt (r t) (q t)) && span_left rest a b (q t) (r t))

    pub nothing_left : lt end' start' ≡ true → false ≡ span_left left a b start end
    nothing_left w = sym (cut ∙ ap (λ (t : Bool). not t && span_left rest a b start' end') w)

    pub some_left : lt end' start' ≡ false → span_left rest a b start' end' ≡ span_left left a b start end
    some_left w = sym (cut ∙ ap (λ (t : Bool). not t && span_left rest a b start' end') w)

pub all_passed : (left : List Plane) (a b : Vec3d) (start end : Float) → left ≡ [] → true ≡ span_left left a b start end
unfolding span_left
all_passed left a b start end e = sym (ap (λ (ps : List Plane). span_left ps a b start end) e)
