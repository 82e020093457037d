-- Some of a segment is in a view just where what the planes cut at its start, at most, does not reach past what they leave at its end. The idea: the verdict goes from
-- plane to plane with the greatest start and the least end so far, and what reaches the greatest is what reaches each. A plane that hides both ends cuts past
-- everything, and where one end is inside every plane nothing is cut there. Assumes nothing.
use mathlib.Core.Path.{◌≡◌, refl, sym, ap, ◌∙◌, subst}
use mathlib.Core.Bool.{Bool, true, false, not, cond, ◌&&◌, ◌||◌, beq, and_comm, and_assoc, and-false, or-true}
use mathlib.Core.List.{List, [], ◌∷◌}
use lib.Count.{count_trailing_zeros}
use lib.Dec.{T}
use lib.Ieee.{Float, nan, inf, fin, lt, neg, is_nan, round, units, odd, size, span, climb}
use Rattle.number.specs.Arithmetic.{min_of, max_of}
use Rattle.number.specs.Every.{every}
use Rattle.number.proofs.Comparisons.{less_is_number, neg_lt}
use Rattle.number.proofs.Tests.{both_hold}
use Rattle.matrix.specs.Constants.{positive_zero, one}
use Rattle.matrix.specs.declared.vec.Vec3d.{Vec3d}
use Rattle.verdict.specs.declared.plane.Plane.{Plane}
use Rattle.verdict.specs.Plane.{on_positive_side}
use Rattle.verdict.specs.Frustum.{point_in_view, has_end, crossing, start_cut, end_cut, span_left, segment_in_view}
use Rattle.blocking.specs.Steps.{cut_from, cut_at_start, cut_at_end}
use Rattle.blocking.proofs.Reached.{reaches, nothing_before, nothing_behind, not_past, a_number, upper_reached, max_reached, min_reaches}

-- ---- the span that the verdict cuts

-- how far a plane cuts from an end, from any start on
abbrev cut_to : Bool → Bool → Float → Float
cut_to here there at = cond here (inf true) (cond there at (inf false))

-- what is below infinity, or above its negation, is a number
below_infinity : (e : Float) → lt e (inf false) ≡ true → is_nan e ≡ false
below_infinity e h = (less_is_number e (inf false) (subst T (sym h) tt)).0

not_reached : (b : Bool) → not b ≡ false → b ≡ true
not_reached true h = refl
not_reached false h = sym h

module _ (a b : Vec3d) where
  abbrev from_start : Plane → Float
  from_start p = cut_to (on_positive_side p a) (on_positive_side p b) (crossing p a b)

  abbrev from_end : Plane → Float
  from_end p = cut_to (on_positive_side p b) (on_positive_side p a) (neg (crossing p a b))

  -- s is the furthest start of a span that begins at x, and e the furthest end, its sign turned, of one that ends at y
  abbrev Starts : List Plane → Float → Float → Type 0
  Starts ps x s = (z : Float) → reaches z s ≡ (reaches z x && every (λ p. reaches z (from_start p)) ps)

  abbrev Ends : List Plane → Float → Float → Type 0
  Ends ps y e = (z : Float) → reaches (neg z) e ≡ (reaches y z && every (λ p. reaches (neg z) (from_end p)) ps)

  -- what the verdict asks of the planes: each has an end, and they leave some of the span
  abbrev left_of : List Plane → Float → Float → Bool
  left_of ps x y = every (has_end a b) ps && span_left ps a b x y

  module _ (p : Plane) (ps : List Plane) (s e : Float)
      (rest : (x y : Float) → lt (inf true) x ≡ true → lt y (inf false) ≡ true → lt y x ≡ false → Starts ps x s → Ends ps y e → left_of ps x y ≡ reaches (neg s) e) where
    abbrev at : Float
    at = crossing p a b

    abbrev behind : Float → Bool
    behind z = every (λ q. reaches z (from_start q)) ps

    abbrev ahead : Float → Bool
    ahead z = every (λ q. reaches (neg z) (from_end q)) ps

    -- the plane cuts the span to that from x to y, which is there or not
    cut : (x y : Float) → lt (inf true) x ≡ true → lt y (inf false) ≡ true → Starts ps x s → Ends ps y e
        → (every (has_end a b) ps && (not (lt y x) && span_left ps a b x y)) ≡ reaches (neg s) e
    cut x y X Y S E = go (lt y x) refl
      where
        go : (t : Bool) → lt y x ≡ t → (every (has_end a b) ps && (not t && span_left ps a b x y)) ≡ reaches (neg s) e
        go false h = rest x y X Y h S E
        go true h = and-false (every (has_end a b) ps) ∙ sym (E s ∙ ap (λ (t : Bool). t && ahead s) (S y ∙ ap (λ (t : Bool). not t && behind y) h))

    module _ (x y : Float) (X : lt (inf true) x ≡ true) (Y : lt y (inf false) ≡ true) (O : lt y x ≡ false) where
      uncut_start : ((z : Float) → reaches z s ≡ (reaches z x && (reaches z (inf true) && behind z))) → Starts ps x s
      uncut_start S z = S z ∙ ap (λ (t : Bool). reaches z x && (not t && behind z)) (nothing_before z)

      uncut_end : ((z : Float) → reaches (neg z) e ≡ (reaches y z && (reaches (neg z) (inf true) && ahead z))) → Ends ps y e
      uncut_end E z = E z ∙ ap (λ (t : Bool). reaches y z && (not t && ahead z)) (nothing_before (neg z))

      cut_start : ((z : Float) → reaches z s ≡ (reaches z x && (reaches z at && behind z))) → Starts ps (max_of x at) s
      cut_start S z =
          S z ∙ sym (and_assoc (reaches z x) (reaches z at) (behind z))
          ∙ ap (λ (t : Bool). t && behind z) (sym (max_reached z x at (a_number (inf true) x X)))

      cut_end : ((z : Float) → reaches (neg z) e ≡ (reaches y z && (reaches (neg z) (neg at) && ahead z))) → Ends ps (min_of y at) e
      cut_end E z =
          E z ∙ ap (λ (t : Bool). reaches y z && (not t && ahead z)) (neg_lt z at) ∙ sym (and_assoc (reaches y z) (reaches at z) (ahead z))
          ∙ ap (λ (t : Bool). t && ahead z) (sym (min_reaches y at z (below_infinity y Y)))

      still_above : lt (inf true) (max_of x at) ≡ true
      still_above = not_reached _ (max_reached (inf true) x at (a_number (inf true) x X) ∙ ap (λ (t : Bool). not t && reaches (inf true) at) X)

      still_below : lt (min_of y at) (inf false) ≡ true
      still_below = not_reached _ (min_reaches y at (inf false) (below_infinity y Y) ∙ ap (λ (t : Bool). not t && reaches at (inf false)) Y)

      by_sides : (i j : Bool) → ((z : Float) → reaches z s ≡ (reaches z x && (reaches z (cut_to i j at) && behind z)))
          → ((z : Float) → reaches (neg z) e ≡ (reaches y z && (reaches (neg z) (cut_to j i (neg at)) && ahead z)))
          → ((i || j) && every (has_end a b) ps
          && ((beq i j || not (lt (end_cut i j y at) (start_cut i j x at))) && span_left ps a b (start_cut i j x at) (end_cut i j y at))) ≡ reaches (neg s) e
      by_sides true true S E = rest x y X Y O (uncut_start S) (uncut_end E)
      by_sides true false S E = cut x (min_of y at) X still_below (uncut_start S) (cut_end E)
      by_sides false true S E = cut (max_of x at) y still_above Y (cut_start S) (uncut_end E)
      by_sides false false S E =
          sym (E s ∙ ap (λ (t : Bool). t && (reaches (neg s) (inf false) && ahead s)) (S y ∙ (λ k. not (O k) && (not (Y k) && behind y))))

  span_by_cuts : (ps : List Plane) (s e x y : Float) → lt (inf true) x ≡ true → lt y (inf false) ≡ true → lt y x ≡ false
      → Starts ps x s → Ends ps y e → left_of ps x y ≡ reaches (neg s) e
  unfolding every span_left
  span_by_cuts [] s e x y X Y O S E = sym (E s ∙ ap (λ (t : Bool). t && true) (S y ∙ ap (λ (t : Bool). not t && true) O))
  span_by_cuts (p ∷ ps) s e x y X Y O S E =
      by_sides p ps s e (λ x' y'. span_by_cuts ps s e x' y') x y X Y O (on_positive_side p a) (on_positive_side p b) S E

-- ---- cuts that begin at the ends

module _ (here there : Plane → Bool) (at : Plane → Float) (end : Float) (N : is_nan end ≡ false) (z : Float) where
  one_plane : (i j : Bool) (x : Float) → reaches z (cut_from i j end x) ≡ ((i || reaches z end) && reaches z (cut_to i j x))
  unfolding is_nan
  one_plane true j x = refl
  one_plane false true x = upper_reached z end x N
  one_plane false false x = not_past z (inf false) end refl (nothing_behind end) ∙ and_comm (reaches z (inf false)) (reaches z end)

  regroup : (i i' r u u' : Bool) → (((i || r) && u) && ((i' || r) && u')) ≡ (((i && i') || r) && (u && u'))
  regroup true true r u u' = refl
  regroup true false true u u' = refl
  regroup true false false true u' = refl
  regroup true false false false u' = refl
  regroup false true true u u' = refl
  regroup false false true u u' = refl
  regroup false i' false u u' = refl

  -- the end itself is cut off where some plane does not have it on its positive side
  with_end : (ps : List Plane) → every (λ p. reaches z (cut_from (here p) (there p) end (at p))) ps
      ≡ ((every here ps || reaches z end) && every (λ p. reaches z (cut_to (here p) (there p) (at p))) ps)
  unfolding every
  with_end [] = refl
  with_end (p ∷ ps) =
      (λ k. one_plane (here p) (there p) (at p) k && with_end ps k)
      ∙ regroup (here p) (every here ps) (reaches z end) (reaches z (cut_to (here p) (there p) (at p))) (every (λ q. reaches z (cut_to (here q) (there q) (at q))) ps)

-- ---- the verdict

neg_neg : (x : Float) → neg (neg x) ≡ x
unfolding neg
neg_neg nan = refl
neg_neg (inf true) = refl
neg_neg (inf false) = refl
neg_neg (fin true m e) = refl
neg_neg (fin false m e) = refl

across : (x y : Float) → lt (neg x) y ≡ lt (neg y) x
across x y = ap (lt (neg x)) (sym (neg_neg y)) ∙ neg_lt x (neg y)

-- what follows from a test, plane by plane
weaker : (f g : Plane → Bool) → ((p : Plane) → f p ≡ true → g p ≡ true) → (ps : List Plane) → every f ps ≡ true → every g ps ≡ true
unfolding every
weaker f g w [] h = refl
weaker f g w (p ∷ ps) h = let k = both_hold (f p) (every f ps) h in λ i. w p k.0 i && weaker f g w ps k.1 i

-- a plane that has an end on its positive side cuts nothing there
uncut : (i j : Bool) (end x z : Float) → i ≡ true → reaches z (cut_from i j end x) ≡ true
uncut i j end x z e = ap (λ (t : Bool). reaches z (cut_from t j end x)) e ∙ ap not (nothing_before z)

either_first : (i j : Bool) → i ≡ true → (i || j) ≡ true
either_first i j e = ap (λ (t : Bool). t || j) e

either_second : (i j : Bool) → j ≡ true → (i || j) ≡ true
either_second i j e = ap (λ (t : Bool). i || t) e ∙ or-true i

module _ (a b : Vec3d) (ps : List Plane) (s e : Float) (S : (z : Float) → reaches z s ≡ every (λ p. reaches z (cut_at_start a b p)) ps)
    (E : (z : Float) → reaches z e ≡ every (λ p. reaches z (cut_at_end a b p)) ps) where
  abbrev in_a_lem : Plane → Bool
  in_a_lem p = on_positive_side p a

  abbrev in_b : Plane → Bool
  in_b p = on_positive_side p b

  first_inside : point_in_view ps a ≡ true → (every (has_end a b) ps && true) ≡ reaches (neg s) e
  unfolding point_in_view
  first_inside h =
      ap (λ (t : Bool). t && true) (weaker in_a_lem (has_end a b) (λ p. either_first (in_a_lem p) (in_b p)) ps h)
      ∙ sym (ap not (across s e) ∙ S (neg e)
      ∙ weaker in_a_lem (λ p. reaches (neg e) (cut_at_start a b p)) (λ p. uncut (in_a_lem p) (in_b p) positive_zero (crossing p a b) (neg e)) ps h)

  second_inside : point_in_view ps b ≡ true → (every (has_end a b) ps && true) ≡ reaches (neg s) e
  unfolding point_in_view
  second_inside h =
      ap (λ (t : Bool). t && true) (weaker in_b (has_end a b) (λ p. either_second (in_a_lem p) (in_b p)) ps h)
      ∙ sym (E (neg s)
      ∙ weaker in_b (λ p. reaches (neg s) (cut_at_end a b p)) (λ p. uncut (in_b p) (in_a_lem p) (neg one) (neg (crossing p a b)) (neg s)) ps h)

  none_inside : point_in_view ps a ≡ false → point_in_view ps b ≡ false → (every (has_end a b) ps && span_left ps a b positive_zero one) ≡ reaches (neg s) e
  unfolding point_in_view lt is_nan neg round units odd size span climb count_trailing_zeros
  none_inside h k =
      span_by_cuts a b ps s e positive_zero one refl refl refl
      (λ z. S z ∙ with_end in_a_lem in_b (λ p. crossing p a b) positive_zero refl z ps
      ∙ ap (λ (t : Bool). (t || reaches z positive_zero) && every (λ p. reaches z (from_start a b p)) ps) h)
      (λ z. E (neg z) ∙ with_end in_b in_a_lem (λ p. neg (crossing p a b)) (neg one) refl (neg z) ps
      ∙ (λ i. (k i || not (neg_lt z one i)) && every (λ p. reaches (neg z) (from_end a b p)) ps))

  pub segment_by_cuts : segment_in_view ps a b ≡ reaches (neg s) e
  unfolding segment_in_view
  segment_by_cuts = go (point_in_view ps a) (point_in_view ps b) refl refl
    where
      go : (i j : Bool) → point_in_view ps a ≡ i → point_in_view ps b ≡ j → (every (has_end a b) ps && (i || j || span_left ps a b positive_zero one)) ≡ reaches (neg s) e
      go true j p q = first_inside p
      go false true p q = second_inside q
      go false false p q = none_inside p q
